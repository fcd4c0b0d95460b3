-- The converse of `FaultLaws`: a fault that a line has by its fields is the one that parsing finds, so a line has one
-- fault at most.
use Rattle.std.proofs.Common.{◌≡◌, ◌≢◌, ℕ, ◌+◌, ◌<◌, List, [], ◌∷◌, ◌++◌, length, map, Option, Some, None, Result, Ok, Err, refl, sym, ap, ◌∙◌, subst, arith, append-nil, append_assoc}
use Rattle.std.specs.Prelude.{◌↔◌}
use Rattle.std.proofs.lemmas.Bool.{cond-true, cond-false, le-ltb, lt-ltb}
use Rattle.gate_grammar.specs.Numbers.{number_of, code_of}
use Rattle.gate_grammar.specs.declared.arguments.ArgumentKind.{ArgumentKind}
use Rattle.gate_grammar.specs.declared.arguments.ArgumentKind.TheVariants as kind
use Rattle.gate_grammar.specs.declared.commands.CommandName.{CommandName}
use Rattle.gate_grammar.specs.declared.faults.LineFault.{LineFault}
use Rattle.gate_grammar.specs.declared.faults.LineFault.TheVariants as fault
use Rattle.gate_grammar.specs.Arguments.{ArgumentValue, Name, Number, Code, Text, argument_kind}
use Rattle.gate_grammar.specs.Commands.{text_of, kinds_of}
use Rattle.gate_grammar.specs.Faults.{Begins, IsPlain, IsTimed, CallsNothing, SpellsNothing, IsArgument, AreSplit, IsAt, HasArgumentFault, IsFaultyCall, HasFault}
use Rattle.gate_grammar.specs.Parsing.{numeric, time_at, name_at, value_at, values_at, argument_text, argument_rest, text_before, text_from, without_blanks, fields_at, parsed_line, fault_in, first_fault}
use Rattle.gate_grammar.specs.Spelling.{joined, SpellsValue, SpellEach}
use Rattle.gate_grammar.proofs.ArgumentLaws.{value_again}
use Rattle.gate_grammar.proofs.Cuts.{from_begins, before_again, from_again}
use Rattle.gate_grammar.proofs.FaultLaws.{call_whole, is_timed, time_err, timed_read, parsed_wrong}
use Rattle.gate_grammar.proofs.ReadLaws.{name_at_read}
use Rattle.gate_grammar.proofs.Tables.{name_again, text_split}

-- ---- one argument

name_faulty : (number : ℕ) (text : List ℕ) → SpellsNothing kind.Name text → value_at kind.Name number text ≡ Err (fault.EmptyName number)
unfolding value_at
name_faulty number [] nothing = refl
name_faulty number (byte ∷ text) nothing = absurd (nothing (Name (byte ∷ text)) refl (refl, omega arith))

numeric_none : {A : Type 0} (make : A → ArgumentValue) (number : ℕ) (found : Option A) → ((x : A) → found ≡ Some x → ⊥) → numeric make number found ≡ Err (fault.BadNumber number)
numeric_none make number None none = refl
numeric_none make number (Some x) none = absurd (none x refl)

number_faulty : (k : ArgumentKind) (number : ℕ) (text : List ℕ) → k ≢ kind.Name → SpellsNothing k text → value_at k number text ≡ Err (fault.BadNumber number)
unfolding value_at
number_faulty kind.Name number text differs nothing = absurd (differs refl)
number_faulty kind.Number number text differs nothing = numeric_none Number number (number_of text) (λ x is. nothing (Number x) refl is)
number_faulty kind.Code number text differs nothing = numeric_none Code number (code_of text) (λ x is. nothing (Code x) refl is)
number_faulty kind.Text number text differs nothing = absurd (nothing (Text text) refl refl)

argument_cut : (later : List ArgumentKind) (text after : List ℕ) → IsArgument later text after → argument_text later (text ++ after) ≡ text
argument_cut [] text after is = ap (λ x. text ++ x) is ∙ append-nil text
argument_cut (kind ∷ later) text after is = before_again 59 text after is.0 is.1

wrong_argument : (number : ℕ) (k : ArgumentKind) (later : List ArgumentKind) (text after : List ℕ) (cause : LineFault) → IsArgument later text after → value_at k number text ≡ Err cause → values_at number (k ∷ later) (59 ∷ (text ++ after)) ≡ Err cause
unfolding values_at
wrong_argument number k later text after cause is faulty = rw (argument_cut later text after is, faulty) refl

missing_argument : (number : ℕ) (k : ArgumentKind) (later : List ArgumentKind) → values_at number (k ∷ later) [] ≡ Err (fault.MissingArgument number)
unfolding values_at
missing_argument number k later = refl

extra_argument : (number : ℕ) (rest : List ℕ) → 0 < length rest → values_at number [] rest ≡ Err fault.ExtraArgument
unfolding values_at
extra_argument number [] some = absurd (omega arith)
extra_argument number (byte ∷ rest) some = refl

-- ---- the good arguments before it

more_text : (front : List ArgumentKind) (k : ArgumentKind) (later : List ArgumentKind) (text : List ℕ) → argument_text (front ++ k ∷ later) text ≡ text_before 59 text
more_text [] k later text = refl
more_text (first ∷ front) k later text = refl

more_rest : (front : List ArgumentKind) (k : ArgumentKind) (later : List ArgumentKind) (text : List ℕ) → argument_rest (front ++ k ∷ later) text ≡ text_from 59 text
more_rest [] k later text = refl
more_rest (first ∷ front) k later text = refl

more_begins : (texts : List (List ℕ)) (left : List ℕ) → Begins 59 left → Begins 59 (joined texts ++ left)
more_begins [] left begins = begins
more_begins (text ∷ texts) left begins = refl

fault_step : (number : ℕ) (text rest : List ℕ) (value : ArgumentValue) (kinds : List ArgumentKind) (cause : LineFault) → argument_text kinds (text ++ rest) ≡ text → argument_rest kinds (text ++ rest) ≡ rest → SpellsValue text value → values_at (number + 1) kinds rest ≡ Err cause → values_at number (argument_kind value ∷ kinds) (59 ∷ (text ++ rest)) ≡ Err cause
unfolding values_at
fault_step number text rest value kinds cause front back spells more = rw (front, back, value_again number text value spells, more) refl

at_number : (one other : ℕ) (kinds : List ArgumentKind) (rest : List ℕ) (cause : LineFault) → one ≡ other → values_at one kinds rest ≡ Err cause → values_at other kinds rest ≡ Err cause
at_number one other kinds rest cause is faulty = let P : ℕ → Type 0 = λ n. values_at n kinds rest ≡ Err cause in subst P is faulty

after_good : (first : ℕ) (texts : List (List ℕ)) (values : List ArgumentValue) (k : ArgumentKind) (later : List ArgumentKind) (left : List ℕ) (cause : LineFault) → AreSplit texts → SpellEach texts values → Begins 59 left → values_at (first + length texts) (k ∷ later) left ≡ Err cause → values_at first (map argument_kind values ++ k ∷ later) (joined texts ++ left) ≡ Err cause
after_good first [] [] k later left cause split each begins faulty = at_number (first + 0) first (k ∷ later) left cause (omega arith) faulty
after_good first [] (value ∷ values) k later left cause split each begins faulty = absurd each
after_good first (text ∷ texts) [] k later left cause split each begins faulty = absurd each
after_good first (text ∷ texts) (value ∷ values) k later left cause split each begins faulty =
    let rest = joined texts ++ left in
    let begins_rest = more_begins texts left begins in
    let kinds = map argument_kind values ++ k ∷ later in
    let more = after_good (first + 1) texts values k later left cause split.1 each.1 begins (at_number (first + length (text ∷ texts)) (first + 1 + length texts) (k ∷ later) left cause (omega arith) faulty) in
    ap (λ x. values_at first (argument_kind value ∷ kinds) (59 ∷ x)) (append_assoc text (joined texts) left)
    ∙ fault_step first text rest value kinds cause (more_text (map argument_kind values) k later (text ++ rest) ∙ before_again 59 text rest split.0 begins_rest) (more_rest (map argument_kind values) k later (text ++ rest) ∙ from_again 59 text rest split.0 begins_rest) each.0 more

at_faulty : (first : ℕ) (kinds : List ArgumentKind) (rest : List ℕ) (number : ℕ) (k : ArgumentKind) (later : List ArgumentKind) (left : List ℕ) (cause : LineFault) → IsAt first kinds rest number k later left → Begins 59 left → values_at number (k ∷ later) left ≡ Err cause → values_at first kinds rest ≡ Err cause
at_faulty first kinds rest number k later left cause at begins faulty =
    let good = after_good first at.texts at.values k later left cause at.split at.each begins (at_number number (first + length at.texts) (k ∷ later) left cause at.numbered faulty) in
    ap (λ x. values_at first x rest) at.of_kinds ∙ (ap (λ x. values_at first (map argument_kind at.values ++ k ∷ later) x) at.whole ∙ good)

arguments_faulty : (first : ℕ) (kinds : List ArgumentKind) (rest : List ℕ) (cause : LineFault) → HasArgumentFault first kinds rest cause → values_at first kinds rest ≡ Err cause
arguments_faulty first kinds rest fault.ExtraArgument faulty = ap (λ x. values_at first x rest) faulty.0 ∙ extra_argument first rest faulty.1
arguments_faulty first kinds rest (fault.MissingArgument number) faulty = at_faulty first kinds rest number faulty.kind faulty.later [] _ faulty.at tt (missing_argument number faulty.kind faulty.later)
arguments_faulty first kinds rest (fault.EmptyName number) faulty = at_faulty first kinds rest number kind.Name faulty.later _ _ faulty.at refl (wrong_argument number kind.Name faulty.later faulty.text faulty.after _ faulty.argument (name_faulty number faulty.text faulty.nothing))
arguments_faulty first kinds rest (fault.BadNumber number) faulty =
    let wrong = faulty.wrong in
    at_faulty first kinds rest number faulty.kind wrong.later _ _ wrong.at refl (wrong_argument number faulty.kind wrong.later wrong.text wrong.after _ wrong.argument (number_faulty faulty.kind number wrong.text faulty.numeric wrong.nothing))
arguments_faulty first kinds rest fault.TooLong faulty = absurd faulty
arguments_faulty first kinds rest fault.BadByte faulty = absurd faulty
arguments_faulty first kinds rest fault.NoTime faulty = absurd faulty
arguments_faulty first kinds rest fault.UnknownCommand faulty = absurd faulty
arguments_faulty first kinds rest fault.OutOfMemory faulty = absurd faulty

-- ---- the line

plain_parsed : (line : List ℕ) → IsPlain line → parsed_line line ≡ fields_at (without_blanks line)
unfolding parsed_line
plain_parsed line plain = cond-false _ _ _ (le-ltb 8192 (length line) plain.short) ∙ cond-false _ _ _ plain.clean

fields_no_time : (line : List ℕ) → time_at line ≡ Err fault.NoTime → fields_at line ≡ Err fault.NoTime
unfolding fields_at
fields_no_time line is = rw is refl

fields_unknown : (line rest : List ℕ) (entered : ℕ) → time_at line ≡ Ok (entered, rest) → name_at (text_before 59 rest) ≡ None → fields_at line ≡ Err fault.UnknownCommand
unfolding fields_at
fields_unknown line rest entered time none = rw (time, none) refl

fields_faulty : (line left : List ℕ) (entered : ℕ) (name : CommandName) (cause : LineFault) → time_at line ≡ Ok (entered, text_of name ++ left) → Begins 59 left → values_at 1 (kinds_of name) left ≡ Err cause → fields_at line ≡ Err cause
unfolding fields_at
fields_faulty line left entered name cause time begins faulty =
    rw (time, before_again 59 (text_of name) left (text_split name) begins, from_again 59 (text_of name) left (text_split name) begins, name_again name, faulty) refl

no_time_read : (read : Result (ℕ × List ℕ) LineFault) → ((x : ℕ × List ℕ) → read ≡ Ok x → ⊥) → ((cause : LineFault) → read ≡ Err cause → fault.NoTime ≡ cause) → read ≡ Err fault.NoTime
no_time_read (Ok x) none only = absurd (none x refl)
no_time_read (Err cause) none only = ap Err (sym (only cause refl))

none_found : (found : Option CommandName) → ((name : CommandName) → found ≡ Some name → ⊥) → found ≡ None
none_found None none = refl
none_found (Some name) none = absurd (none name refl)

no_time_parsed : (line : List ℕ) → IsPlain line → ((rest : List ℕ) → IsTimed line rest → ⊥) → parsed_line line ≡ Err fault.NoTime
no_time_parsed line plain none =
    plain_parsed line plain ∙ fields_no_time (without_blanks line) (no_time_read (time_at (without_blanks line)) (λ (x : ℕ × List ℕ) is. none x.1 (is_timed line x plain is)) (time_err (without_blanks line)))

unknown_parsed : (line rest : List ℕ) → IsTimed line rest → CallsNothing rest → parsed_line line ≡ Err fault.UnknownCommand
unknown_parsed line rest timed nothing =
    let time = timed_read line rest timed in
    let none = none_found (name_at (text_before 59 rest)) (λ name is. nothing name (text_from 59 rest) (from_begins 59 rest) (call_whole rest name (name_at_read (text_before 59 rest) name is))) in
    plain_parsed line timed.plain ∙ fields_unknown (without_blanks line) rest time.0 time.1 none

call_parsed : (line : List ℕ) (cause : LineFault) → IsFaultyCall line cause → parsed_line line ≡ Err cause
call_parsed line cause call =
    let time = timed_read line call.called.rest call.called.timed in
    let at = time.1 ∙ ap (λ x. Ok (time.0, x)) call.called.whole in
    plain_parsed line call.called.timed.plain ∙ fields_faulty (without_blanks line) call.left time.0 call.name cause at call.called.begins (arguments_faulty 1 (kinds_of call.name) call.left cause call.faulty)

faulty_parsed : (line : List ℕ) (cause : LineFault) → HasFault line cause → parsed_line line ≡ Err cause
unfolding parsed_line
faulty_parsed line fault.TooLong long = cond-true _ _ _ (lt-ltb 8192 (length line) long)
faulty_parsed line fault.BadByte barred = cond-false _ _ _ (le-ltb 8192 (length line) barred.0) ∙ cond-true _ _ _ barred.1
faulty_parsed line fault.NoTime none = no_time_parsed line none.0 none.1
faulty_parsed line fault.UnknownCommand unknown = unknown_parsed line unknown.0 unknown.1 unknown.2
faulty_parsed line fault.ExtraArgument call = call_parsed line fault.ExtraArgument call
faulty_parsed line (fault.MissingArgument number) call = call_parsed line (fault.MissingArgument number) call
faulty_parsed line (fault.EmptyName number) call = call_parsed line (fault.EmptyName number) call
faulty_parsed line (fault.BadNumber number) call = call_parsed line (fault.BadNumber number) call
faulty_parsed line fault.OutOfMemory call = call_parsed line fault.OutOfMemory call

fault_met : {A : Type 0} (read : Result A LineFault) (cause : LineFault) → fault_in read ≡ Some cause → read ≡ Err cause
fault_met (Ok x) cause is = cc
fault_met (Err one) cause is = cc

pub fault_is_first : (line : List ℕ) (cause : LineFault) → (first_fault line ≡ Some cause) ↔ HasFault line cause
fault_is_first line cause = ((λ is. parsed_wrong line cause (fault_met (parsed_line line) cause is)), (λ faulty. ap fault_in (faulty_parsed line cause faulty)))
