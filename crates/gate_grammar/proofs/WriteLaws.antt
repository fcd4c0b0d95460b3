-- Canonical lines: they spell their command, and what is spelled can be written.
use Rattle.std.proofs.Common.{◌≡◌, ℕ, suc, ◌+◌, ◌<◌, ◌≤◌, ◌^◌, Bool, false, List, [], ◌∷◌, ◌++◌, length, map, ◌==◌, Result, Ok, Err, IfOk, pos, negsuc, refl, sym, ap, ◌∙◌, subst, arith}
use Rattle.std.specs.Fmt.{decimal}
use Rattle.std.specs.List.{list_any, AllByRecursion}
use Rattle.std.specs.Str.Parse.{AllDigits}
use Rattle.std.proofs.lemmas.Bool.{or_from, or_parts}
use Rattle.std.proofs.lemmas.List.{append-nil, length-append}
use Rattle.std.proofs.lemmas.Str.Parse.{digit_from_value}
use Rattle.gate_grammar.specs.declared.commands.Command.{Command}
use Rattle.gate_grammar.specs.declared.commands.CommandName.{CommandName}
use Rattle.gate_grammar.specs.declared.faults.LineFault.{LineFault}
use Rattle.gate_grammar.specs.Arguments.{ArgumentValue, Name, Number, Code, Text}
use Rattle.gate_grammar.specs.Canonical.{shown, body_text, canonical_line}
use Rattle.gate_grammar.specs.Commands.{text_of, name_of, values_of}
use Rattle.gate_grammar.specs.Spelling.{joined, call, timed, IsSplit, SpellEach, SpellsValue, Spells, holds, is_barred, is_blank, ends_in_blank}
use Rattle.gate_grammar.specs.Writability.{IsClean, HoldsNoSemicolon, EndsInNoBlank, AreWritable, IsWritable, IsInRange, AreInRange}
use Rattle.gate_grammar.proofs.Cuts.{ends_append}
use Rattle.gate_grammar.proofs.Numerals.{number_short, code_short, decimal_digits, number_decimal, code_decimal_plain, code_decimal_minus, none_in_digits, digit_isnt}
use Rattle.gate_grammar.proofs.Tables.{named}

-- ---- digits

barred_digit : (byte : ℕ) → 48 ≤ byte → byte ≤ 57 → is_barred byte ≡ false
barred_digit byte low high = or_from (byte == 0) (byte == 10) (digit_isnt 0 byte low high (λ e. omega arith)) (digit_isnt 10 byte low high (λ e. omega arith))

blank_digit : (byte : ℕ) → 48 ≤ byte → byte ≤ 57 → is_blank byte ≡ false
blank_digit byte low high = or_from _ (byte == 13) (or_from (byte == 32) (byte == 9) (digit_isnt 32 byte low high (λ e. omega arith)) (digit_isnt 9 byte low high (λ e. omega arith))) (digit_isnt 13 byte low high (λ e. omega arith))

digits_clean : (number : ℕ) → number < 2 ^ 64 → list_any is_barred (decimal number) ≡ false
digits_clean number small = none_in_digits is_barred barred_digit (decimal number) (decimal_digits number small)

digits_split : (number : ℕ) → number < 2 ^ 64 → holds 59 (decimal number) ≡ false
digits_split number small = none_in_digits (λ x. x == 59) (λ byte low high. digit_isnt 59 byte low high (λ e. omega arith)) (decimal number) (decimal_digits number small)

digits_tight : (digits : List ℕ) → AllDigits 10 digits → ends_in_blank digits ≡ false
digits_tight [] all = refl
digits_tight (byte ∷ []) all = let range = digit_from_value byte all.0 in blank_digit byte (omega (arith, range)) (omega (arith, range))
digits_tight (byte ∷ next ∷ digits) all = digits_tight (next ∷ digits) all.1

minus_tight : (digits : List ℕ) → AllDigits 10 digits → ends_in_blank (45 ∷ digits) ≡ false
minus_tight [] all = refl
minus_tight (byte ∷ digits) all = digits_tight (byte ∷ digits) all

-- ---- texts of a line

none_append : (test : ℕ → Bool) (front back : List ℕ) → list_any test front ≡ false → list_any test back ≡ false → list_any test (front ++ back) ≡ false
none_append test [] back one other = other
none_append test (byte ∷ front) back one other = let facts = or_parts (test byte) (list_any test front) one in or_from (test byte) (list_any test (front ++ back)) facts.0 (none_append test front back facts.1 other)

none_front : (test : ℕ → Bool) (front back : List ℕ) → list_any test (front ++ back) ≡ false → list_any test front ≡ false
none_front test [] back none = refl
none_front test (byte ∷ front) back none = let facts = or_parts (test byte) (list_any test (front ++ back)) none in or_from (test byte) (list_any test front) facts.0 (none_front test front back facts.1)

none_back : (test : ℕ → Bool) (front back : List ℕ) → list_any test (front ++ back) ≡ false → list_any test back ≡ false
none_back test [] back none = none
none_back test (byte ∷ front) back none = none_back test front back (or_parts (test byte) (list_any test (front ++ back)) none).1

mark_tight : (text : List ℕ) → ends_in_blank text ≡ false → ends_in_blank (59 ∷ text) ≡ false
mark_tight [] tight = refl
mark_tight (byte ∷ text) tight = tight

unmark_tight : (text : List ℕ) → ends_in_blank (59 ∷ text) ≡ false → ends_in_blank text ≡ false
unmark_tight [] tight = refl
unmark_tight (byte ∷ text) tight = tight

-- ---- what is shown spells its value

shown_clean : (value : ArgumentValue) → IsInRange value → IsClean value → list_any is_barred (shown value) ≡ false
shown_clean (Name text) range clean = clean.1
shown_clean (Number number) range clean = digits_clean number (omega arith)
shown_clean (Code (pos code)) range clean = digits_clean code (omega arith)
shown_clean (Code (negsuc code)) range clean = digits_clean (suc code) (omega arith)
shown_clean (Text text) range clean = clean

shown_split : (value : ArgumentValue) → IsInRange value → HoldsNoSemicolon value → holds 59 (shown value) ≡ false
shown_split (Name text) range split = split
shown_split (Number number) range split = digits_split number (omega arith)
shown_split (Code (pos code)) range split = digits_split code (omega arith)
shown_split (Code (negsuc code)) range split = digits_split (suc code) (omega arith)
shown_split (Text text) range split = split

shown_tight : (value : ArgumentValue) → IsInRange value → EndsInNoBlank value → ends_in_blank (shown value) ≡ false
shown_tight (Name text) range tight = tight
shown_tight (Number number) range tight = digits_tight (decimal number) (decimal_digits number (omega arith))
shown_tight (Code (pos code)) range tight = digits_tight (decimal code) (decimal_digits code (omega arith))
shown_tight (Code (negsuc code)) range tight = minus_tight (decimal (suc code)) (decimal_digits (suc code) (omega arith))
shown_tight (Text text) range tight = tight

shown_spells : (value : ArgumentValue) → IsInRange value → IsClean value → SpellsValue (shown value) value
shown_spells (Name text) range clean = (refl, clean.0)
shown_spells (Number number) range clean = number_decimal (2 ^ 32) number (omega arith) range
shown_spells (Code (pos code)) range clean = code_decimal_plain code range
shown_spells (Code (negsuc code)) range clean = code_decimal_minus code range
shown_spells (Text text) range clean = refl

pub record AreShown (values : List ArgumentValue) : Type 0 where
  pub split : IsSplit (map shown values)
  pub each : SpellEach (map shown values) values
  pub clean : list_any is_barred (joined (map shown values)) ≡ false
  pub tight : ends_in_blank (joined (map shown values)) ≡ false

are_shown : (values : List ArgumentValue) → AllByRecursion IsInRange values → AreWritable values → AreShown values
are_shown [] range writable = record { split = tt; each = tt; clean = refl; tight = refl }
are_shown (last ∷ []) range writable =
    let whole : joined (map shown (last ∷ [])) ≡ 59 ∷ shown last = ap (λ text. 59 ∷ text) (append-nil (shown last)) in
    record {
      split = tt;
      each = (shown_spells last range.0 writable.0, tt);
      clean = ap (list_any is_barred) whole ∙ shown_clean last range.0 writable.0;
      tight = ap ends_in_blank whole ∙ mark_tight (shown last) (shown_tight last range.0 writable.1);
    }
are_shown (value ∷ next ∷ values) range writable =
    let more = are_shown (next ∷ values) range.1 writable.2 in
    record {
      split = (shown_split value range.0 writable.1, more.split);
      each = (shown_spells value range.0 writable.0, more.each);
      clean = none_append is_barred (shown value) (joined (map shown (next ∷ values))) (shown_clean value range.0 writable.0) more.clean;
      tight = ends_append (59 ∷ shown value) 59 (shown next ++ joined (map shown values)) ∙ more.tight;
    }

-- ---- a canonical line spells its command

name_tight : (text rest : List ℕ) → ends_in_blank (32 ∷ text) ≡ false → ends_in_blank rest ≡ false → ends_in_blank (32 ∷ (text ++ rest)) ≡ false
name_tight text [] tight more = ap (λ x. ends_in_blank (32 ∷ x)) (append-nil text) ∙ tight
name_tight text (byte ∷ rest) tight more = ends_append (32 ∷ text) byte rest ∙ more

pub line_tight : (time : List ℕ) (name : CommandName) (rest : List ℕ) → ends_in_blank rest ≡ false → ends_in_blank (timed time (text_of name ++ rest)) ≡ false
line_tight time name rest tight = ends_append (91 ∷ time) 93 (32 ∷ (text_of name ++ rest)) ∙ name_tight (text_of name) rest (named name).tight tight

pub written_spells : (command : Command) → command.entered.0 < 2 ^ 32 → AreInRange command.body → IsWritable command → Spells (canonical_line command) command
written_spells command small range writable =
    let texts = map shown (values_of command.body) in
    let arguments = are_shown (values_of command.body) range writable.arguments in
    record {
      short = writable.short;
      clean = none_append is_barred (91 ∷ decimal command.entered.0) (93 ∷ 32 ∷ body_text command.body) (digits_clean command.entered.0 (omega arith)) (none_append is_barred (text_of (name_of command.body)) (joined texts) (named (name_of command.body)).clean arguments.clean);
      time = decimal command.entered.0;
      arguments = texts;
      blanks = [];
      whole = sym (append-nil (canonical_line command));
      moment = number_decimal (2 ^ 32) command.entered.0 (omega arith) small;
      split = arguments.split;
      each = arguments.each;
      tight = line_tight (decimal command.entered.0) (name_of command.body) (joined texts) arguments.tight;
      blank = refl;
    }

pub line_spells : (line : List ℕ) (command : Command) → line ≡ canonical_line command → command.entered.0 < 2 ^ 32 → AreInRange command.body → IsWritable command → Spells line command
line_spells line command is small range writable = let P : List ℕ → Type 0 = λ x. Spells x command in subst P (sym is) (written_spells command small range writable)

-- ---- what is spelled can be written

spelled_clean : (text : List ℕ) (value : ArgumentValue) → SpellsValue text value → list_any is_barred text ≡ false → IsClean value
spelled_clean text (Name name) spells clean = (spells.1, ap (list_any is_barred) (sym spells.0) ∙ clean)
spelled_clean text (Number number) spells clean = tt
spelled_clean text (Code code) spells clean = tt
spelled_clean text (Text whole) spells clean = ap (list_any is_barred) (sym spells) ∙ clean

spelled_split : (text : List ℕ) (value : ArgumentValue) → SpellsValue text value → holds 59 text ≡ false → HoldsNoSemicolon value
spelled_split text (Name name) spells split = ap (holds 59) (sym spells.0) ∙ split
spelled_split text (Number number) spells split = tt
spelled_split text (Code code) spells split = tt
spelled_split text (Text whole) spells split = ap (holds 59) (sym spells) ∙ split

spelled_tight : (text : List ℕ) (value : ArgumentValue) → SpellsValue text value → ends_in_blank text ≡ false → EndsInNoBlank value
spelled_tight text (Name name) spells tight = ap ends_in_blank (sym spells.0) ∙ tight
spelled_tight text (Number number) spells tight = tt
spelled_tight text (Code code) spells tight = tt
spelled_tight text (Text whole) spells tight = ap ends_in_blank (sym spells) ∙ tight

spelled_values : (texts : List (List ℕ)) (values : List ArgumentValue) → IsSplit texts → SpellEach texts values → list_any is_barred (joined texts) ≡ false → ends_in_blank (joined texts) ≡ false → AreWritable values
spelled_values [] [] split each clean tight = tt
spelled_values [] (value ∷ values) split each clean tight = absurd each
spelled_values (text ∷ texts) [] split each clean tight = absurd each
spelled_values (text ∷ []) (value ∷ []) split each clean tight =
    (spelled_clean text value each.0 (none_front is_barred text [] clean), spelled_tight text value each.0 (unmark_tight text (ap (λ x. ends_in_blank (59 ∷ x)) (sym (append-nil text)) ∙ tight)))
spelled_values (text ∷ []) (value ∷ next ∷ values) split each clean tight = absurd each.1
spelled_values (text ∷ next ∷ texts) (value ∷ []) split each clean tight = absurd each.1
spelled_values (text ∷ next ∷ texts) (value ∷ after ∷ values) split each clean tight =
    (spelled_clean text value each.0 (none_front is_barred text (joined (next ∷ texts)) clean), spelled_split text value each.0 split.0, spelled_values (next ∷ texts) (after ∷ values) split.1 each.1 (none_back is_barred text (joined (next ∷ texts)) clean) (sym (ends_append (59 ∷ text) 59 (next ++ joined texts)) ∙ tight))

shown_short : (text : List ℕ) (value : ArgumentValue) → SpellsValue text value → length (shown value) ≤ length text
shown_short text (Name name) spells = omega (arith, ap length spells.0)
shown_short text (Number number) spells = number_short (2 ^ 32) text number (omega arith) spells
shown_short text (Code code) spells = code_short text code spells
shown_short text (Text whole) spells = omega (arith, ap length spells)

joined_short : (texts : List (List ℕ)) (values : List ArgumentValue) → SpellEach texts values → length (joined (map shown values)) ≤ length (joined texts)
joined_short [] [] each = omega arith
joined_short [] (value ∷ values) each = absurd each
joined_short (text ∷ texts) [] each = absurd each
joined_short (text ∷ texts) (value ∷ values) each =
    let one = shown_short text value each.0 in
    let more = joined_short texts values each.1 in
    omega (arith, length-append (shown value) (joined (map shown values)), length-append text (joined texts))

timed_length : (time name rest : List ℕ) → length (timed time (name ++ rest)) ≡ length time + length name + length rest + 3
timed_length time name rest = omega (arith, length-append time (93 ∷ 32 ∷ (name ++ rest)), length-append name rest)

texts_tight : (time name : List ℕ) (texts : List (List ℕ)) → ends_in_blank (timed time (name ++ joined texts)) ≡ false → ends_in_blank (joined texts) ≡ false
texts_tight time name [] tight = refl
texts_tight time name (text ∷ texts) tight =
    let inner = ends_append (93 ∷ 32 ∷ name) 59 (text ++ joined texts) in
    let outer = ends_append (91 ∷ time) 93 (32 ∷ (name ++ joined (text ∷ texts))) in
    sym inner ∙ (sym outer ∙ tight)

spelled_writable : (line : List ℕ) (command : Command) → Spells line command → IsWritable command
spelled_writable line command s =
    let name = text_of (name_of command.body) in
    let front = timed s.time (call name s.arguments) in
    let clean : list_any is_barred (front ++ s.blanks) ≡ false = ap (list_any is_barred) (sym s.whole) ∙ s.clean in
    let rest = none_back is_barred (91 ∷ s.time) (93 ∷ 32 ∷ call name s.arguments) (none_front is_barred front s.blanks clean) in
    let arguments = none_back is_barred (93 ∷ 32 ∷ name) (joined s.arguments) rest in
    let time = number_short (2 ^ 32) s.time command.entered.0 (omega arith) s.moment in
    let texts = joined_short s.arguments (values_of command.body) s.each in
    record {
      short = omega (arith, s.short, ap length s.whole, length-append front s.blanks, timed_length s.time name (joined s.arguments), timed_length (decimal command.entered.0) name (joined (map shown (values_of command.body))));
      arguments = spelled_values s.arguments (values_of command.body) s.split s.each arguments (texts_tight s.time name s.arguments s.tight);
    }

pub answer_writable : (answer : Result Command LineFault) (line : List ℕ) → IfOk answer (λ command. Spells line command) → IfOk answer (λ command. IsWritable command)
answer_writable (Ok command) line spells = spelled_writable line command spells
answer_writable (Err cause) line spells = tt
