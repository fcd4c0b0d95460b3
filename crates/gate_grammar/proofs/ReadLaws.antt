-- Lines: what is read is spelled so, and what is spelled so is read.
use Rattle.std.proofs.Common.{◌≡◌, ℕ, ◌^◌, ◌⊎◌, inl, inr, Bool, true, false, List, [], ◌∷◌, ◌++◌, length, map, drop, slice_index, ◌==◌, cond, Option, Some, None, Result, Ok, Err, IfOk, refl, sym, ap, ◌∙◌, subst, arith}
use Rattle.std.specs.Str.{bytes_eq}
use Rattle.std.proofs.lemmas.Slice.Eq.{bytes_eq-Decides}
use Rattle.std.proofs.lemmas.Bool.{cases_Bool, eqb-true, cond-true, cond-false, le-ltb, ltb-false}
use Rattle.gate_grammar.specs.Numbers.{number_of}
use Rattle.std.specs.Result.{MatchResult}
use Rattle.gate_model.specs.declared.submission.Body.{Body}
use Rattle.gate_grammar.specs.declared.parsing.ParsedLine.{ParsedLine}
use Rattle.gate_grammar.specs.declared.commands.Command.{Command}
use Rattle.gate_grammar.specs.declared.commands.CommandName.{CommandName}
use Rattle.gate_grammar.specs.declared.faults.LineFault.{LineFault}
use Rattle.gate_grammar.specs.declared.faults.LineFault.TheVariants as fault
use Rattle.gate_grammar.specs.inner.Answers.{Answers, Refuses, answer_of}
use Rattle.gate_grammar.specs.Arguments.{ArgumentValue, argument_kind}
use Rattle.gate_grammar.specs.Commands.{command_body}
use Rattle.gate_grammar.specs.Commands.{command_names, text_of, kinds_of, name_of, values_of}
use Rattle.gate_grammar.specs.Faults.{Begins, IsOnlyCommand}
use Rattle.gate_grammar.specs.Parsing.{time_before, time_at, name_among, name_at, known, values_at, text_before, text_from, without_blanks, fields_at, parsed_line, fault_in, first_fault}
use Rattle.gate_grammar.specs.Spelling.{joined, call, timed, IsSplit, SpellEach, Spells, ends_in_blank}
use Rattle.gate_grammar.proofs.ArgumentLaws.{bind_ok, values_read, values_again, joined_begins}
use Rattle.gate_grammar.proofs.Cuts.{before_from, from_begins, before_again, from_again, padded, without_blanks_again}
use Rattle.gate_grammar.proofs.Numerals.{number_facts, none_in_digits, digit_isnt}
use Rattle.gate_grammar.proofs.Tables.{name_again, text_split, command_again, made}

chosen_ok : {A : Type 0} (test : Bool) (read : Result A LineFault) (cause : LineFault) (x : A) → cond test read (Err cause) ≡ Ok x → (test ≡ true) × (read ≡ Ok x)
chosen_ok true read cause x is = (refl, is)
chosen_ok false read cause x is = cc

refused_ok : {A : Type 0} (test : Bool) (read : Result A LineFault) (cause : LineFault) (x : A) → cond test (Err cause) read ≡ Ok x → (test ≡ false) × (read ≡ Ok x)
refused_ok true read cause x is = cc
refused_ok false read cause x is = (refl, is)

-- ---- the time

time_ok : (rest : List ℕ) (found : Option ℕ) (x : ℕ × List ℕ) → time_before rest found ≡ Ok x → (found ≡ Some x.0) × (slice_index rest 1 ≡ 32) × (drop 2 rest ≡ x.1)
time_ok rest None x is = cc
time_ok rest (Some entered) x is =
    let facts = chosen_ok (slice_index rest 1 == 32) (Ok (entered, drop 2 rest)) fault.NoTime x is in
    let same : (entered, drop 2 rest) ≡ x = cc in
    (ap (λ (y : ℕ × List ℕ). Some y.0) same, eqb-true _ _ facts.0, ap (λ (y : ℕ × List ℕ). y.1) same)

after_bracket : (rest : List ℕ) → Begins 93 rest → slice_index rest 1 ≡ 32 → rest ≡ 93 ∷ 32 ∷ drop 2 rest
after_bracket [] begins space = absurd (omega arith)
after_bracket (bracket ∷ []) begins space = absurd (omega arith)
after_bracket (bracket ∷ next ∷ rest) begins space = rw (begins, space) refl

bracketed : (line : List ℕ) → slice_index line 0 ≡ 91 → line ≡ 91 ∷ drop 1 line
bracketed [] first = absurd (omega arith)
bracketed (byte ∷ line) first = ap (λ x. x ∷ line) first

pub record HasTime (line : List ℕ) (entered : ℕ) (rest : List ℕ) : Type 0 where
  pub time : List ℕ
  pub moment : number_of time ≡ Some entered
  pub whole : line ≡ timed time rest

pub time_read : (line : List ℕ) (x : ℕ × List ℕ) → time_at line ≡ Ok x → HasTime line x.0 x.1
unfolding time_at
time_read line x is =
    let first = chosen_ok (slice_index line 0 == 91) (time_before (text_from 93 (drop 1 line)) (number_of (text_before 93 (drop 1 line)))) fault.NoTime x is in
    let facts = time_ok (text_from 93 (drop 1 line)) (number_of (text_before 93 (drop 1 line))) x first.1 in
    let from : text_from 93 (drop 1 line) ≡ 93 ∷ 32 ∷ x.1 = after_bracket (text_from 93 (drop 1 line)) (from_begins 93 (drop 1 line)) facts.1 ∙ ap (λ t. 93 ∷ 32 ∷ t) facts.2 in
    let rest : drop 1 line ≡ text_before 93 (drop 1 line) ++ 93 ∷ 32 ∷ x.1 = sym (before_from 93 (drop 1 line)) ∙ ap (λ t. text_before 93 (drop 1 line) ++ t) from in
    record { time = text_before 93 (drop 1 line); moment = facts.0; whole = bracketed line (eqb-true _ _ first.0) ∙ ap (λ t. 91 ∷ t) rest }

pub time_again : (time rest : List ℕ) (entered : ℕ) → number_of time ≡ Some entered → time_at (timed time rest) ≡ Ok (entered, rest)
unfolding time_at
time_again time rest entered moment =
    let found = number_facts (2 ^ 32) time entered moment in
    let clean = none_in_digits (λ x. x == 93) (λ byte low high. digit_isnt 93 byte low high (λ e. omega arith)) time found.digits in
    rw (before_again 93 time (93 ∷ 32 ∷ rest) clean refl, from_again 93 time (93 ∷ 32 ∷ rest) clean refl, moment) refl

-- ---- the name

name_found : (first name : CommandName) (names : List CommandName) (text : List ℕ) → (name_among names text ≡ Some name → text_of name ≡ text) → (bytes_eq (text_of first) text ≡ true) ⊎ (bytes_eq (text_of first) text ≡ false) → name_among (first ∷ names) text ≡ Some name → text_of name ≡ text
name_found first name names text more (inl same) is =
    let found : Some first ≡ Some name = sym (cond-true _ (Some first) (name_among names text) same) ∙ is in
    let it : first ≡ name = cc in
    ap text_of (sym it) ∙ (bytes_eq-Decides (text_of first) text).0 same
name_found first name names text more (inr other) is = more (sym (cond-false _ (Some first) (name_among names text) other) ∙ is)

name_read : (names : List CommandName) (text : List ℕ) (name : CommandName) → name_among names text ≡ Some name → text_of name ≡ text
name_read [] text name is = cc
name_read (first ∷ names) text name is = name_found first name names text (name_read names text name) (cases_Bool (bytes_eq (text_of first) text)) is

pub known_ok : (found : Option CommandName) (name : CommandName) → known found ≡ Ok name → found ≡ Some name
known_ok None name is = cc
known_ok (Some found) name is = cc

pub name_at_read : (text : List ℕ) (name : CommandName) → name_at text ≡ Some name → text_of name ≡ text
unfolding name_at
name_at_read text name is = name_read command_names text name is

-- ---- the call

pub record HasFields (line : List ℕ) (c : ParsedLine) : Type 0 where
  pub time : List ℕ
  pub texts : List (List ℕ)
  pub moment : number_of time ≡ Some c.entered.0
  pub whole : line ≡ timed time (call (text_of c.name) texts)
  pub split : IsSplit texts
  pub each : SpellEach texts c.arguments
  pub of_kinds : map argument_kind c.arguments ≡ kinds_of c.name

at_fields : (line : List ℕ) (c same : ParsedLine) → c ≡ same → HasFields line c → HasFields line same
at_fields line c same is called = let P : ParsedLine → Type 0 = λ x. HasFields line x in subst P is called

ok_fields : (c same : ParsedLine) → ◌≡◌ {A = Result ParsedLine LineFault} (Ok c) (Ok same) → c ≡ same
ok_fields c same is = cc

call_joined : (rest : List ℕ) (name : CommandName) (texts : List (List ℕ)) → text_of name ≡ text_before 59 rest → text_from 59 rest ≡ joined texts → rest ≡ call (text_of name) texts
call_joined rest name texts text whole = sym (before_from 59 rest) ∙ (ap (λ x. x ++ text_from 59 rest) (sym text) ∙ ap (λ x. text_of name ++ x) whole)

fields_read : (line : List ℕ) (c : ParsedLine) → fields_at line ≡ Ok c → HasFields line c
unfolding fields_at
fields_read line c is =
    let time = bind_ok (time_at line) _ c is in
    let name = bind_ok (known (name_at (text_before 59 time.0.1))) _ c time.2 in
    let values = bind_ok (values_at 1 (kinds_of name.0) (text_from 59 time.0.1)) _ c name.2 in
    let timely = time_read line time.0 time.1 in
    let text : text_of name.0 ≡ text_before 59 time.0.1 = name_at_read (text_before 59 time.0.1) name.0 (known_ok _ name.0 name.1) in
    let read = values_read 1 (kinds_of name.0) (text_from 59 time.0.1) values.0 (from_begins 59 time.0.1) values.1 in
    at_fields line (record { entered = record { 0 = time.0.0 }; name = name.0; arguments = values.0 }) c (ok_fields _ _ values.2) (record {
      time = timely.time;
      texts = read.texts;
      moment = timely.moment;
      whole = timely.whole ∙ ap (timed timely.time) (call_joined time.0.1 name.0 read.texts text read.whole);
      split = read.split;
      each = read.each;
      of_kinds = read.of_kinds;
    })

fields_again : (time : List ℕ) (texts : List (List ℕ)) (entered : ℕ) (name : CommandName) (values : List ArgumentValue) → number_of time ≡ Some entered → IsSplit texts → SpellEach texts values → map argument_kind values ≡ kinds_of name → fields_at (timed time (call (text_of name) texts)) ≡ Ok (record { entered = record { 0 = entered }; name = name; arguments = values })
unfolding fields_at
fields_again time texts entered name values moment split each of_kinds =
    rw (time_again time (call (text_of name) texts) entered moment, before_again 59 (text_of name) (joined texts) (text_split name) (joined_begins texts), from_again 59 (text_of name) (joined texts) (text_split name) (joined_begins texts), name_again name, ← of_kinds, values_again 1 texts values split each) refl

-- ---- the line

abbrev pub command_of : ParsedLine → Command
command_of c = record { entered = c.entered; body = command_body c.name c.arguments }

pub parsed_spells : (line : List ℕ) (c : ParsedLine) → parsed_line line ≡ Ok c → Spells line (command_of c)
unfolding parsed_line
parsed_spells line c is =
    let short = refused_ok _ _ fault.TooLong c is in
    let clean = refused_ok _ _ fault.BadByte c short.1 in
    let facts = padded line in
    let trimmed : without_blanks line ≡ facts.front = ap without_blanks facts.whole ∙ without_blanks_again facts.front facts.blanks facts.tight facts.blank in
    let called = fields_read (without_blanks line) c clean.1 in
    let again = made c.name c.arguments called.of_kinds in
    let front : facts.front ≡ timed called.time (call (text_of (name_of (command_body c.name c.arguments))) called.texts) = sym trimmed ∙ (called.whole ∙ ap (λ (x : CommandName). timed called.time (call (text_of x) called.texts)) (sym again.same_name)) in
    record {
      short = ltb-false _ _ short.0;
      clean = clean.0;
      time = called.time;
      arguments = called.texts;
      blanks = facts.blanks;
      whole = facts.whole ∙ ap (λ x. x ++ facts.blanks) front;
      moment = called.moment;
      split = called.split;
      each = rw again.same_values called.each;
      tight = ap ends_in_blank (sym front) ∙ facts.tight;
      blank = facts.blank;
    }

parsed_again : (line : List ℕ) (command : Command) → Spells line command → parsed_line line ≡ Ok (record { entered = command.entered; name = name_of command.body; arguments = values_of command.body })
unfolding parsed_line
parsed_again line command s =
    let front : without_blanks line ≡ timed s.time (call (text_of (name_of command.body)) s.arguments) = ap without_blanks s.whole ∙ without_blanks_again _ s.blanks s.tight s.blank in
    cond-false _ _ _ (le-ltb 8192 (length line) s.short) ∙ (cond-false _ _ _ s.clean ∙ (ap fields_at front ∙ fields_again s.time s.arguments command.entered.0 (name_of command.body) (values_of command.body) s.moment s.split s.each (command_again command.body).kinds))

pub answer_again : (line : List ℕ) (command : Command) → Spells line command → answer_of line ≡ Ok command
answer_again line command s = rw (parsed_again line command s) (ap (λ (x : Body). Ok (record { entered = command.entered; body = x })) (command_again command.body).body)

-- ---- answers

at_spells : (line : List ℕ) (command same : Command) → command ≡ same → Spells line command → Spells line same
at_spells line command same is spells = let P : Command → Type 0 = λ x. Spells line x in subst P is spells

ok_command : (command same : Command) → ◌≡◌ {A = Result Command LineFault} (Ok command) (Ok same) → command ≡ same
ok_command command same is = cc

pub answer_spells : (answer : Result Command LineFault) (line : List ℕ) → Answers answer (answer_of line) → IfOk answer (λ command. Spells line command)
answer_spells (Ok command) line is =
    let read = bind_ok (parsed_line line) (λ c. Ok (command_of c)) command is in
    at_spells line (command_of read.0) command (ok_command _ _ read.2) (parsed_spells line read.0 read.1)
answer_spells (Err cause) line is = tt

only_memory : (cause : LineFault) (command : Command) → Refuses cause (Ok command) → cause ≡ fault.OutOfMemory
only_memory fault.OutOfMemory command refuses = refl
only_memory _ command refuses = cc

only_answer : (answer : Result Command LineFault) (command : Command) → Answers answer (Ok command) → MatchResult answer (λ read. read ≡ command) (λ cause. cause ≡ fault.OutOfMemory)
only_answer (Ok read) command is = sym (ok_command _ _ is)
only_answer (Err cause) command refuses = only_memory cause command refuses

pub answer_alone : (answer : Result Command LineFault) (line : List ℕ) → Answers answer (answer_of line) → IsOnlyCommand line answer
answer_alone answer line is command spells =
    let P : Result Command LineFault → Type 0 = λ x. Answers answer x in
    only_answer answer command (subst P (answer_again line command spells) is)

-- ---- laws

pub spelled_alone : (line : List ℕ) (one other : Command) → Spells line one → Spells line other → one ≡ other
spelled_alone line one other s t = ok_command one other (sym (answer_again line one s) ∙ answer_again line other t)

faultless_ok : {A : Type 0} (read : Result A LineFault) → fault_in read ≡ None → (x : A) × (read ≡ Ok x)
faultless_ok (Ok x) is = (x, refl)
faultless_ok (Err cause) is = cc

pub faultless_spells : (line : List ℕ) → first_fault line ≡ None → (command : Command) × Spells line command
faultless_spells line is = let read = faultless_ok (parsed_line line) is in (command_of read.0, parsed_spells line read.0 read.1)

pub spelled_faultless : (line : List ℕ) (command : Command) → Spells line command → first_fault line ≡ None
spelled_faultless line command s = ap fault_in (parsed_again line command s)
