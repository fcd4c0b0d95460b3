-- What a subcommand asks for, and what faulty words do not.
use Rattle.std.proofs.Common.{◌≡◌, ◌⊎◌, false, List, [], ◌∷◌, Option, Some, None, option_map, unwrap_or, refl, ap, ◌∙◌, sym, subst, inl, inr, is_some}
use Rattle.std.proofs.lemmas.Bool.{false≢true}
use Rattle.clap.specs.Words.{Row, Text, Kinds, IsAmong, fault_of, subcommand_of}
use Rattle.clap.specs.Values.{kind_of}
use Rattle.clap.specs.declared.error.Error.{Error as Refusal}
use Rattle.clap.specs.declared.error.kind.ErrorKind.{ErrorKind}
use Rattle.operator_commands.specs.declared.request.Asked.{Asked}
use Rattle.operator_commands.specs.declared.request.Options.{Options}
use Rattle.operator_commands.specs.declared.request.Task.{Task}
use Rattle.operator_words.specs.Found.{options_in}
use Rattle.operator_words.specs.Words.{task_on, asked_with, asked_of, unless_faulty}
use Rattle.operator_words.specs.CommandLine.{program}

pub names_same : {A B C : Type 0} (name : A → B) (rows : A → C) (met : Option A)
    → option_map name met ≡ option_map (λ (p : B × C). p.0) (option_map (λ a. (name a, rows a)) met)
names_same name rows None = refl
names_same name rows (Some a) = refl

pub entered : {A B : Type 0} (met : Option (A × B)) (name : A) (rows : B) → Some name ≡ option_map (λ (p : A × B). p.0) met
    → Some rows ≡ option_map (λ (p : A × B). p.1) met → met ≡ Some (name, rows)
entered None name rows is_name is_rows = absurd (false≢true (sym (ap is_some is_name)))
entered (Some p) name rows is_name is_rows =
    let first : name ≡ p.0 = ap (λ found. unwrap_or found name) is_name in
    let second : rows ≡ p.1 = ap (λ found. unwrap_or found rows) is_rows in
    rw (first, second) refl

pub none_met : {A B : Type 0} (met : Option (A × B)) → None ≡ option_map (λ (p : A × B). p.0) met → met ≡ None
none_met None is_name = refl
none_met (Some p) is_name = absurd (false≢true (ap is_some is_name))

pub asked_as : (met : Option (Text × List Row)) (name : Text) (rows : List Row) (options : Options) (task : Task)
    → met ≡ Some (name, rows) → options ≡ options_in rows → task ≡ task_on name rows
    → Some (record { options = options; task = task }) ≡ asked_with met
asked_as met name rows options task is same_options same_task = rw (is, same_options, same_task) refl

pub asked_words : (words : List Text) (met : Option (Text × List Row)) → fault_of program words ≡ []
    → met ≡ subcommand_of program words → asked_with met ≡ asked_of words
asked_words words met none is =
    sym (ap (λ kinds. unless_faulty kinds (asked_with (subcommand_of program words))) none ∙ ap asked_with (sym is))

pub is_among : (kinds : Kinds) (error other : Refusal) (memory : ErrorKind) → error ≡ other → (kind_of error ≡ memory → ⊥)
    → (kind_of error ≡ memory) ⊎ IsAmong (kind_of error) kinds → IsAmong (kind_of other) kinds
is_among kinds error other memory is not_memory has =
    elim has [ inl same ↦ absurd (not_memory same) | inr among ↦ subst (λ (e : Refusal). IsAmong (kind_of e) kinds) is among ]
