use Rattle.std.proofs.Common.{◌≡◌, ◌⊎◌, List, [], Option, option_map, true, map, string_bytes, refl, ap, subst, ◌∙◌}
use Rattle.std.specs.Result.{result_ok}
use Rattle.clap.specs.Words.{App, IsAmong, Row, Text, app_of, fault_of, is_simple, is_simple_and_free, subcommand_of, subcommand_rows_of}
use Rattle.clap.specs.Values.{kind_of}
use Rattle.clap.specs.declared.error.kind.ErrorKind.TheVariants.{OutOfMemory}
use Rattle.gate_words.specs.Words.{Asked, asked_by, asked_of, asked_with, program}
use Rattle.gate_words.proofs.WordSteps.{asked_found, if_ok_asked, refused_words}
use Rattle.gate_words.proofs.words.read_words.Goals as goal

pub returns : goal.returns
returns c =
    let simple : is_simple_and_free (app_of c.in-Ok.command) ≡ true = ap is_simple_and_free c.in-Ok.ensures in
    let Has : App → Type 0 =
    λ app. (kind_of c.in-Err.error ≡ OutOfMemory) ⊎ IsAmong (kind_of c.in-Err.error) (fault_of app (map string_bytes c.args.words.now)) in
    record {
      asked = tt;
      refused = λ _. refused_words (map string_bytes c.args.words.now) (kind_of c.in-Err.error) OutOfMemory
          (λ same. c.in_default-kind.not-OutOfMemory (c.kind.ensures ∙ same))
          (subst Has c.in-Ok.ensures (c.in-Err.ensures.kinds simple));
    }

-- what clap found asks for, where it read the words
read : (words : List Text) (app : App) (met : Option (Text × List Row)) (asked : Option Asked) → app ≡ program
    → (is_simple_and_free app ≡ true → fault_of app words ≡ [])
    → (is_simple app ≡ true → met ≡ subcommand_of app words) → asked ≡ asked_with met → asked_of words ≡ asked
read words app met asked is faultless found asks =
    asked_found (fault_of program words) met (subcommand_of program words) asked
    (subst (λ app. is_simple_and_free app ≡ true → fault_of app words ≡ []) is faultless refl)
    (subst (λ app. is_simple app ≡ true → met ≡ subcommand_of app words) is found refl) asks

pub returns-in-Ok-try_get_matches_from : goal.returns-in-Ok-try_get_matches_from
returns-in-Ok-try_get_matches_from c =
    let found = read (map string_bytes c.args.words.now) (app_of c.in-Ok.command) (subcommand_rows_of c.in-Ok-try_get_matches_from.matches)
    (option_map asked_by c.request_in.result) c.in-Ok.ensures c.in-Ok-try_get_matches_from.ensures.kinds
    (λ simple. (c.in-Ok-try_get_matches_from.ensures.matches simple).1) c.request_in.ensures in
    let asked = found ∙ ap (option_map asked_by) c.ok_or.ensures.ok_part in
    record {
      asked = if_ok_asked c.ok_or.result _ asked;
      refused = λ same. asked ∙ ap (λ result. option_map asked_by (result_ok result)) same;
    }
