-- Faults: what a line is refused for is its first fault, by its fields.
use Rattle.std.proofs.Common.{◌≡◌, ◌≢◌, ℕ, ◌+◌, ◌⊎◌, inl, inr, Bool, true, false, List, [], ◌∷◌, ◌++◌, length, drop, slice_index, ◌==◌, cond, Option, Some, None, IsSome, Result, Ok, Err, IfErr, refl, sym, ap, ◌∙◌, subst, arith, append-nil, append_assoc}
use Rattle.std.specs.Prelude.{nat_lt}
use Rattle.std.specs.List.{list_any}
use Rattle.std.proofs.lemmas.Bool.{ltb-true, ltb-false}
use Rattle.gate_grammar.specs.Numbers.{number_of, code_of}
use Rattle.gate_grammar.specs.declared.arguments.ArgumentKind.{ArgumentKind}
use Rattle.gate_grammar.specs.declared.arguments.ArgumentKind.TheVariants as kind
use Rattle.gate_grammar.specs.declared.parsing.ParsedLine.{ParsedLine}
use Rattle.gate_grammar.specs.declared.commands.Command.{Command}
use Rattle.gate_grammar.specs.declared.commands.CommandName.{CommandName}
use Rattle.gate_grammar.specs.declared.faults.LineFault.{LineFault}
use Rattle.gate_grammar.specs.declared.faults.LineFault.TheVariants as fault
use Rattle.gate_grammar.specs.inner.Answers.{Answers, Refuses, answer_of}
use Rattle.gate_grammar.specs.Arguments.{ArgumentValue, Name, Number, Code, Text, argument_kind}
use Rattle.gate_grammar.specs.Commands.{text_of, kinds_of}
use Rattle.gate_grammar.specs.Faults.{Begins, IsPlain, IsTimed, CallsNothing, SpellsNothing, IsArgument, IsAt, IsWrong, IsNoNumber, HasArgumentFault, IsFaultyCall, HasFault, IsRefusal}
use Rattle.gate_grammar.specs.Parsing.{◌>>=◌, numeric, time_before, time_at, name_at, known, value_at, values_at, argument_text, argument_rest, text_before, text_from, without_blanks, fields_at, parsed_line}
use Rattle.gate_grammar.specs.Spelling.{is_barred, timed, ends_in_blank}
use Rattle.gate_grammar.proofs.ArgumentLaws.{IsRead, value_read}
use Rattle.gate_grammar.proofs.Cuts.{before_from, before_clean, from_begins, before_again, padded, without_blanks_again}
use Rattle.gate_grammar.proofs.ReadLaws.{known_ok, time_read, time_again, name_at_read, command_of, answer_spells}
use Rattle.gate_grammar.proofs.Tables.{name_again, text_split}

-- where two steps end with a fault, it is the first's or the second's
bind_err : {A B : Type 0} (first : Result A LineFault) (next : A → Result B LineFault) (cause : LineFault) → (first >>= next) ≡ Err cause → (first ≡ Err cause) ⊎ ((x : A) × (first ≡ Ok x) × (next x ≡ Err cause))
bind_err (Ok x) next cause is = inr (x, refl, is)
bind_err (Err fault) next cause is = inl cc

refused_err : {A : Type 0} (test : Bool) (read : Result A LineFault) (one cause : LineFault) → cond test (Err one) read ≡ Err cause → ((test ≡ true) × (one ≡ cause)) ⊎ ((test ≡ false) × (read ≡ Err cause))
refused_err true read one cause is = inl (refl, cc)
refused_err false read one cause is = inr (refl, is)

ok_isnt_err : {A : Type 0} (read : Result A LineFault) (x : A) (cause : LineFault) → read ≡ Ok x → read ≡ Err cause → ⊥
ok_isnt_err read x cause good bad = cc

-- ---- one argument

-- the fault of the argument of this number, whose text spells nothing of its kind
IsValueFault : ArgumentKind → ℕ → List ℕ → LineFault → Type 0
IsValueFault k number text (fault.EmptyName found) = (found ≡ number) × (k ≡ kind.Name) × SpellsNothing k text
IsValueFault k number text (fault.BadNumber found) = (found ≡ number) × (k ≢ kind.Name) × SpellsNothing k text
IsValueFault k number text cause = ⊥

at_value_fault : (k : ArgumentKind) (number : ℕ) (text : List ℕ) (one cause : LineFault) → one ≡ cause → IsValueFault k number text one → IsValueFault k number text cause
at_value_fault k number text one cause is faulty = let P : LineFault → Type 0 = λ x. IsValueFault k number text x in subst P is faulty

err_fault : {A : Type 0} (one cause : LineFault) → ◌≡◌ {A = Result A LineFault} (Err one) (Err cause) → one ≡ cause
err_fault one cause is = cc

numeric_err : {A : Type 0} (make : A → ArgumentValue) (number : ℕ) (found : Option A) (cause : LineFault) → numeric make number found ≡ Err cause → (found ≡ None) × (fault.BadNumber number ≡ cause)
numeric_err make number None cause is = (refl, cc)
numeric_err make number (Some x) cause is = cc

no_name : SpellsNothing kind.Name []
no_name (Name name) is spells = let size = ap length spells.0 in let some = spells.1 in omega arith
no_name (Number number) is spells = cc
no_name (Code code) is spells = cc
no_name (Text text) is spells = cc

no_number : (text : List ℕ) → number_of text ≡ None → SpellsNothing kind.Number text
no_number text none (Name name) is spells = cc
no_number text none (Number number) is spells = cc
no_number text none (Code code) is spells = cc
no_number text none (Text whole) is spells = cc

no_code : (text : List ℕ) → code_of text ≡ None → SpellsNothing kind.Code text
no_code text none (Name name) is spells = cc
no_code text none (Number number) is spells = cc
no_code text none (Code code) is spells = cc
no_code text none (Text whole) is spells = cc

value_wrong : (k : ArgumentKind) (number : ℕ) (text : List ℕ) (cause : LineFault) → value_at k number text ≡ Err cause → IsValueFault k number text cause
unfolding value_at IsValueFault
value_wrong kind.Name number [] cause is = at_value_fault kind.Name number [] (fault.EmptyName number) cause (err_fault {A = ArgumentValue} _ _ is) (refl, refl, no_name)
value_wrong kind.Name number (byte ∷ text) cause is = cc
value_wrong kind.Number number text cause is = let none = numeric_err Number number (number_of text) cause is in at_value_fault kind.Number number text (fault.BadNumber number) cause none.1 (refl, (λ e. cc), no_number text none.0)
value_wrong kind.Code number text cause is = let none = numeric_err Code number (code_of text) cause is in at_value_fault kind.Code number text (fault.BadNumber number) cause none.1 (refl, (λ e. cc), no_code text none.0)
value_wrong kind.Text number text cause is = cc

-- ---- all arguments

argument_whole : (later : List ArgumentKind) (text : List ℕ) → argument_text later text ++ argument_rest later text ≡ text
argument_whole [] text = append-nil text
argument_whole (kind ∷ later) text = before_from 59 text

is_argument : (later : List ArgumentKind) (text : List ℕ) → IsArgument later (argument_text later text) (argument_rest later text)
is_argument [] text = refl
is_argument (kind ∷ later) text = (before_clean 59 text, from_begins 59 text)

at_first : (number : ℕ) (kind : ArgumentKind) (later : List ArgumentKind) (rest left : List ℕ) → rest ≡ left → IsAt number (kind ∷ later) rest number kind later left
at_first number kind later rest left whole = record { texts = []; values = []; of_kinds = refl; whole = whole; split = tt; each = tt; numbered = omega arith }

-- one more good argument before it
at_next : (first : ℕ) (front : ArgumentKind) (kinds : List ArgumentKind) (byte : ℕ) (text : List ℕ) (value : ArgumentValue) (number : ℕ) (kind : ArgumentKind) (later : List ArgumentKind) (left : List ℕ) → byte ≡ 59 → IsRead front (text_before 59 text) value → IsAt (first + 1) kinds (text_from 59 text) number kind later left → IsAt first (front ∷ kinds) (byte ∷ text) number kind later left
at_next first front kinds byte text value number kind later left semicolon read at = record {
  texts = text_before 59 text ∷ at.texts;
  values = value ∷ at.values;
  of_kinds = ap (λ k. k ∷ kinds) (sym read.of_kind) ∙ ap (λ ks. argument_kind value ∷ ks) at.of_kinds;
  whole = ap (λ b. b ∷ text) semicolon ∙ ap (λ t. 59 ∷ t) (sym (before_from 59 text) ∙ (ap (λ t. text_before 59 text ++ t) at.whole ∙ sym (append_assoc (text_before 59 text) _ left)));
  split = (before_clean 59 text, at.split);
  each = (read.spells, at.each);
  numbered = let n = at.numbered in omega arith;
}

fault_next : (first : ℕ) (front following : ArgumentKind) (kinds : List ArgumentKind) (byte : ℕ) (text : List ℕ) (value : ArgumentValue) (cause : LineFault) → byte ≡ 59 → IsRead front (text_before 59 text) value → HasArgumentFault (first + 1) (following ∷ kinds) (text_from 59 text) cause → HasArgumentFault first (front ∷ following ∷ kinds) (byte ∷ text) cause
fault_next first front following kinds byte text value fault.ExtraArgument semicolon read faulty = let none = faulty.0 in cc
fault_next first front following kinds byte text value (fault.MissingArgument number) semicolon read faulty = record { kind = faulty.kind; later = faulty.later; at = at_next first front (following ∷ kinds) byte text value number faulty.kind faulty.later [] semicolon read faulty.at }
fault_next first front following kinds byte text value (fault.EmptyName number) semicolon read faulty = record { later = faulty.later; text = faulty.text; after = faulty.after; at = at_next first front (following ∷ kinds) byte text value number kind.Name faulty.later _ semicolon read faulty.at; argument = faulty.argument; nothing = faulty.nothing }
fault_next first front following kinds byte text value (fault.BadNumber number) semicolon read faulty =
    let wrong = faulty.wrong in
    record { kind = faulty.kind; numeric = faulty.numeric; wrong = record { later = wrong.later; text = wrong.text; after = wrong.after; at = at_next first front (following ∷ kinds) byte text value number faulty.kind wrong.later _ semicolon read wrong.at; argument = wrong.argument; nothing = wrong.nothing } }
fault_next first front following kinds byte text value fault.TooLong semicolon read faulty = absurd faulty
fault_next first front following kinds byte text value fault.BadByte semicolon read faulty = absurd faulty
fault_next first front following kinds byte text value fault.NoTime semicolon read faulty = absurd faulty
fault_next first front following kinds byte text value fault.UnknownCommand semicolon read faulty = absurd faulty
fault_next first front following kinds byte text value fault.OutOfMemory semicolon read faulty = absurd faulty

wrong_first : (number : ℕ) (k : ArgumentKind) (later : List ArgumentKind) (byte : ℕ) (text : List ℕ) → byte ≡ 59 → SpellsNothing k (argument_text later text) → IsWrong number (k ∷ later) (byte ∷ text) number k
wrong_first number k later byte text semicolon nothing = record {
  later = later;
  text = argument_text later text;
  after = argument_rest later text;
  at = at_first number k later (byte ∷ text) _ (ap (λ b. b ∷ text) semicolon ∙ ap (λ t. 59 ∷ t) (sym (argument_whole later text)));
  argument = is_argument later text;
  nothing = nothing;
}

fault_first : (number : ℕ) (k : ArgumentKind) (later : List ArgumentKind) (byte : ℕ) (text : List ℕ) (cause : LineFault) → byte ≡ 59 → IsValueFault k number (argument_text later text) cause → HasArgumentFault number (k ∷ later) (byte ∷ text) cause
unfolding IsValueFault
fault_first number k later byte text (fault.EmptyName found) semicolon faulty =
    let P : ℕ → Type 0 = λ n. IsWrong number (k ∷ later) (byte ∷ text) n kind.Name in
    let Q : ArgumentKind → Type 0 = λ x. IsWrong number (k ∷ later) (byte ∷ text) number x in
    subst P (sym faulty.0) (subst Q faulty.1 (wrong_first number k later byte text semicolon faulty.2))
fault_first number k later byte text (fault.BadNumber found) semicolon faulty =
    let P : ℕ → Type 0 = λ n. IsNoNumber number (k ∷ later) (byte ∷ text) n in
    subst P (sym faulty.0) (record { kind = k; numeric = faulty.1; wrong = wrong_first number k later byte text semicolon faulty.2 })
fault_first number k later byte text (fault.MissingArgument found) semicolon faulty = absurd faulty
fault_first number k later byte text fault.ExtraArgument semicolon faulty = absurd faulty
fault_first number k later byte text fault.TooLong semicolon faulty = absurd faulty
fault_first number k later byte text fault.BadByte semicolon faulty = absurd faulty
fault_first number k later byte text fault.NoTime semicolon faulty = absurd faulty
fault_first number k later byte text fault.UnknownCommand semicolon faulty = absurd faulty
fault_first number k later byte text fault.OutOfMemory semicolon faulty = absurd faulty

at_argument_fault : (first : ℕ) (kinds : List ArgumentKind) (rest : List ℕ) (one cause : LineFault) → one ≡ cause → HasArgumentFault first kinds rest one → HasArgumentFault first kinds rest cause
at_argument_fault first kinds rest one cause is faulty = let P : LineFault → Type 0 = λ x. HasArgumentFault first kinds rest x in subst P is faulty

arguments_wrong : (number : ℕ) (kinds : List ArgumentKind) (rest : List ℕ) (cause : LineFault) → Begins 59 rest → values_at number kinds rest ≡ Err cause → HasArgumentFault number kinds rest cause
unfolding values_at
arguments_wrong number [] [] cause begins is = cc
arguments_wrong number [] (byte ∷ text) cause begins is = at_argument_fault number [] (byte ∷ text) fault.ExtraArgument cause (err_fault {A = List ArgumentValue} _ _ is) (refl, omega arith)
arguments_wrong number (k ∷ kinds) [] cause begins is = at_argument_fault number (k ∷ kinds) [] (fault.MissingArgument number) cause (err_fault {A = List ArgumentValue} _ _ is) (record { kind = k; later = kinds; at = at_first number k kinds [] [] refl })
arguments_wrong number (k ∷ []) (byte ∷ text) cause begins is = elim (bind_err (value_at k number text) (λ v. values_at (number + 1) [] [] >>= λ vs. Ok (v ∷ vs)) cause is) [ inl one ↦ fault_first number k [] byte text cause begins (value_wrong k number text cause one) | inr more ↦ absurd (ok_isnt_err (Ok (more.0 ∷ [])) (more.0 ∷ []) cause refl more.2) ]
arguments_wrong number (k ∷ next ∷ kinds) (byte ∷ text) cause begins is = elim (bind_err (value_at k number (text_before 59 text)) (λ v. values_at (number + 1) (next ∷ kinds) (text_from 59 text) >>= λ vs. Ok (v ∷ vs)) cause is) [ inl one ↦ fault_first number k (next ∷ kinds) byte text cause begins (value_wrong k number (text_before 59 text) cause one) | inr more ↦ elim (bind_err (values_at (number + 1) (next ∷ kinds) (text_from 59 text)) (λ vs. Ok (more.0 ∷ vs)) cause more.2) [ inl later ↦ fault_next number k next kinds byte text more.0 cause begins (value_read k number (text_before 59 text) more.0 more.1) (arguments_wrong (number + 1) (next ∷ kinds) (text_from 59 text) cause (from_begins 59 text) later) | inr none ↦ absurd (ok_isnt_err (Ok (more.0 ∷ none.0)) (more.0 ∷ none.0) cause refl none.2) ] ]

-- ---- the line

at_fault : (line : List ℕ) (one cause : LineFault) → one ≡ cause → HasFault line one → HasFault line cause
at_fault line one cause is faulty = let P : LineFault → Type 0 = λ x. HasFault line x in subst P is faulty

faulty_call : (line : List ℕ) (cause : LineFault) → IsFaultyCall line cause → HasFault line cause
faulty_call line fault.TooLong call = absurd call.faulty
faulty_call line fault.BadByte call = absurd call.faulty
faulty_call line fault.NoTime call = absurd call.faulty
faulty_call line fault.UnknownCommand call = absurd call.faulty
faulty_call line fault.ExtraArgument call = call
faulty_call line (fault.MissingArgument number) call = call
faulty_call line (fault.EmptyName number) call = call
faulty_call line (fault.BadNumber number) call = call
faulty_call line fault.OutOfMemory call = absurd call.faulty

space_err : (test : Bool) (x : ℕ × List ℕ) (cause : LineFault) → cond test (Ok x) (Err fault.NoTime) ≡ Err cause → fault.NoTime ≡ cause
space_err true x cause is = cc
space_err false x cause is = cc

time_before_err : (rest : List ℕ) (found : Option ℕ) (cause : LineFault) → time_before rest found ≡ Err cause → fault.NoTime ≡ cause
time_before_err rest None cause is = cc
time_before_err rest (Some entered) cause is = space_err (slice_index rest 1 == 32) (entered, drop 2 rest) cause is

bracket_err : (test : Bool) (read : Result (ℕ × List ℕ) LineFault) (cause : LineFault) → (read ≡ Err cause → fault.NoTime ≡ cause) → cond test read (Err fault.NoTime) ≡ Err cause → fault.NoTime ≡ cause
bracket_err true read cause inner is = inner is
bracket_err false read cause inner is = cc

pub time_err : (line : List ℕ) (cause : LineFault) → time_at line ≡ Err cause → fault.NoTime ≡ cause
unfolding time_at
time_err line cause is = bracket_err (slice_index line 0 == 91) (time_before (text_from 93 (drop 1 line)) (number_of (text_before 93 (drop 1 line)))) cause (time_before_err (text_from 93 (drop 1 line)) (number_of (text_before 93 (drop 1 line))) cause) is

some_found : (found : Option ℕ) → IsSome found → (n : ℕ) × (found ≡ Some n)
some_found (Some n) is = (n, refl)
some_found None is = cc

pub timed_read : (line rest : List ℕ) → IsTimed line rest → (n : ℕ) × (time_at (without_blanks line) ≡ Ok (n, rest))
timed_read line rest t = let found = some_found (number_of t.time) t.moment in (found.0, ap time_at (ap without_blanks t.whole ∙ without_blanks_again (timed t.time rest) t.blanks t.tight t.blank) ∙ time_again t.time rest found.0 found.1)

some_is : (found : Option ℕ) (n : ℕ) → found ≡ Some n → IsSome found
some_is None n is = cc
some_is (Some x) n is = refl

known_err : (found : Option CommandName) (cause : LineFault) → known found ≡ Err cause → (found ≡ None) × (fault.UnknownCommand ≡ cause)
known_err None cause is = (refl, cc)
known_err (Some name) cause is = cc

none_called : (rest : List ℕ) → name_at (text_before 59 rest) ≡ None → CallsNothing rest
none_called rest none name left begins whole =
    let found : name_at (text_before 59 rest) ≡ Some name = ap (λ t. name_at (text_before 59 t)) whole ∙ (ap name_at (before_again 59 (text_of name) left (text_split name) begins) ∙ name_again name) in
    cc

pub call_whole : (rest : List ℕ) (name : CommandName) → text_of name ≡ text_before 59 rest → rest ≡ text_of name ++ text_from 59 rest
call_whole rest name text = sym (before_from 59 rest) ∙ ap (λ x. x ++ text_from 59 rest) (sym text)

pub is_timed : (line : List ℕ) (time : ℕ × List ℕ) → IsPlain line → time_at (without_blanks line) ≡ Ok time → IsTimed line time.1
is_timed line time plain is =
    let facts = padded line in
    let timely = time_read (without_blanks line) time is in
    let front : facts.front ≡ timed timely.time time.1 = sym (ap without_blanks facts.whole ∙ without_blanks_again facts.front facts.blanks facts.tight facts.blank) ∙ timely.whole in
    record {
      plain = plain;
      time = timely.time;
      blanks = facts.blanks;
      whole = facts.whole ∙ ap (λ x. x ++ facts.blanks) front;
      moment = some_is _ time.0 timely.moment;
      tight = ap ends_in_blank (sym front) ∙ facts.tight;
      blank = facts.blank;
    }

-- what is read after the time and the name
after_name : ℕ → List ℕ → CommandName → Result ParsedLine LineFault
after_name entered rest name = values_at 1 (kinds_of name) (text_from 59 rest) >>= λ values. Ok (record { entered = record { 0 = entered }; name = name; arguments = values })

name_wrong : (line : List ℕ) (time : ℕ × List ℕ) (cause : LineFault) → IsTimed line time.1 → (known (name_at (text_before 59 time.1)) >>= after_name time.0 time.1) ≡ Err cause → HasFault line cause
unfolding after_name
name_wrong line time cause t is = elim (bind_err (known (name_at (text_before 59 time.1))) (after_name time.0 time.1) cause is) [ inl one ↦ at_fault line fault.UnknownCommand cause (known_err _ cause one).1 (time.1, t, none_called time.1 (known_err _ cause one).0) | inr name ↦ elim (bind_err (values_at 1 (kinds_of name.0) (text_from 59 time.1)) (λ values. Ok (record { entered = record { 0 = time.0 }; name = name.0; arguments = values })) cause name.2) [ inl wrong ↦ faulty_call line cause (record { name = name.0; left = text_from 59 time.1; called = record { rest = time.1; timed = t; whole = call_whole time.1 name.0 (name_at_read (text_before 59 time.1) name.0 (known_ok _ name.0 name.1)); begins = from_begins 59 time.1 }; faulty = arguments_wrong 1 (kinds_of name.0) (text_from 59 time.1) cause (from_begins 59 time.1) wrong }) | inr none ↦ absurd (ok_isnt_err (Ok (record { entered = record { 0 = time.0 }; name = name.0; arguments = none.0 })) (record { entered = record { 0 = time.0 }; name = name.0; arguments = none.0 }) cause refl none.2) ] ]

no_time : (line : List ℕ) (cause : LineFault) → time_at (without_blanks line) ≡ Err cause → (rest : List ℕ) → IsTimed line rest → ⊥
no_time line cause is rest t = let read = timed_read line rest t in ok_isnt_err (time_at (without_blanks line)) (read.0, rest) cause read.1 is

fields_wrong : (line : List ℕ) (cause : LineFault) → IsPlain line → fields_at (without_blanks line) ≡ Err cause → HasFault line cause
unfolding fields_at after_name
fields_wrong line cause plain is = elim (bind_err (time_at (without_blanks line)) (λ (time : ℕ × List ℕ). known (name_at (text_before 59 time.1)) >>= after_name time.0 time.1) cause is) [ inl none ↦ at_fault line fault.NoTime cause (time_err (without_blanks line) cause none) (plain, no_time line cause none) | inr time ↦ name_wrong line time.0 cause (is_timed line time.0 plain time.1) time.2 ]

pub parsed_wrong : (line : List ℕ) (cause : LineFault) → parsed_line line ≡ Err cause → HasFault line cause
unfolding parsed_line
parsed_wrong line cause is = elim (refused_err (nat_lt 8192 (length line)) (cond (list_any is_barred line) (Err fault.BadByte) (fields_at (without_blanks line))) fault.TooLong cause is) [ inl long ↦ at_fault line fault.TooLong cause long.1 (ltb-true _ _ long.0) | inr short ↦ elim (refused_err (list_any is_barred line) (fields_at (without_blanks line)) fault.BadByte cause short.1) [ inl barred ↦ at_fault line fault.BadByte cause barred.1 (ltb-false _ _ short.0, barred.0) | inr clean ↦ fields_wrong line cause (record { short = ltb-false _ _ short.0; clean = clean.0 }) clean.1 ] ]

-- ---- answers

answer_err : (read : Result ParsedLine LineFault) (cause : LineFault) → (read >>= λ c. Ok (command_of c)) ≡ Err cause → read ≡ Err cause
answer_err (Ok c) cause is = cc
answer_err (Err one) cause is = cc

is_refusal : (line : List ℕ) (cause : LineFault) → Refuses cause (answer_of line) → IsRefusal line cause
is_refusal line fault.OutOfMemory refuses = (refuses.0, answer_spells (Ok refuses.0) line refuses.1, refuses.2)
is_refusal line fault.TooLong refuses = parsed_wrong line fault.TooLong (answer_err (parsed_line line) _ refuses)
is_refusal line fault.BadByte refuses = parsed_wrong line fault.BadByte (answer_err (parsed_line line) _ refuses)
is_refusal line fault.NoTime refuses = parsed_wrong line fault.NoTime (answer_err (parsed_line line) _ refuses)
is_refusal line fault.UnknownCommand refuses = parsed_wrong line fault.UnknownCommand (answer_err (parsed_line line) _ refuses)
is_refusal line fault.ExtraArgument refuses = parsed_wrong line fault.ExtraArgument (answer_err (parsed_line line) _ refuses)
is_refusal line (fault.MissingArgument number) refuses = parsed_wrong line (fault.MissingArgument number) (answer_err (parsed_line line) _ refuses)
is_refusal line (fault.EmptyName number) refuses = parsed_wrong line (fault.EmptyName number) (answer_err (parsed_line line) _ refuses)
is_refusal line (fault.BadNumber number) refuses = parsed_wrong line (fault.BadNumber number) (answer_err (parsed_line line) _ refuses)

pub answer_refused : (answer : Result Command LineFault) (line : List ℕ) → Answers answer (answer_of line) → IfErr answer (λ cause. IsRefusal line cause)
answer_refused (Ok command) line is = tt
answer_refused (Err cause) line refuses = is_refusal line cause refuses
