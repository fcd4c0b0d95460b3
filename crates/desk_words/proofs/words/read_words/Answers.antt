use Rattle.std.proofs.Common.{◌≡◌, ◌⊎◌, List, [], true, map, string_bytes, ap, subst, ◌∙◌}
use Rattle.clap.specs.Words.{App, IsAmong, Row, Text, app_of, fault_of, is_simple_and_free}
use Rattle.clap.specs.Values.{kind_of}
use Rattle.clap.specs.declared.error.kind.ErrorKind.TheVariants.{OutOfMemory}
use Rattle.clap.specs.Simple.{is_simple, matches_of}
use Rattle.desk_words.specs.Words.{Sets}
use Rattle.std.proofs.lemmas.Result.{IfErr-weaker}
use Rattle.status_serving.proofs.BodySteps.{if_ok}
use Rattle.desk_words.proofs.WordSteps.{words_fault, refused_fault}
use Rattle.desk_words.proofs.words.read_words.Goals as goal

pub returns-in-Ok-try_get_matches_from-clause-asked : goal.returns-in-Ok-try_get_matches_from-clause-asked
returns-in-Ok-try_get_matches_from-clause-asked c =
    let words : List Text = map string_bytes c.args.words.now in
    let parsed = c.in-Ok-try_get_matches_from.ensures in
    let is : is_simple (app_of c.in-Ok.command) ≡ true = ap is_simple c.in-Ok.ensures in
    let free : is_simple_and_free (app_of c.in-Ok.command) ≡ true = ap is_simple_and_free c.in-Ok.ensures in
    let none = subst (λ (app : App). fault_of app words ≡ []) c.in-Ok.ensures (parsed.kinds free) in
    let rows = (parsed.matches is).0 ∙ ap (λ (app : App). matches_of app words) c.in-Ok.ensures in
    if_ok c.settings_in.result
    (λ settings known. (none, subst (λ (found : List Row). Sets found settings) rows known))
    c.settings_in.ensures.found

pub returns-in-Ok-try_get_matches_from-clause-refused : goal.returns-in-Ok-try_get_matches_from-clause-refused
returns-in-Ok-try_get_matches_from-clause-refused c =
    let words : List Text = map string_bytes c.args.words.now in
    let is : is_simple (app_of c.in-Ok.command) ≡ true = ap is_simple c.in-Ok.ensures in
    let rows = (c.in-Ok-try_get_matches_from.ensures.matches is).0 ∙ ap (λ (app : App). matches_of app words) c.in-Ok.ensures in
    IfErr-weaker c.settings_in.result _ _ (λ fault known. words_fault words _ fault rows known) c.settings_in.ensures.refused

pub returns-in-Err-clause-refused : goal.returns-in-Err-clause-refused
returns-in-Err-clause-refused c =
    let words : List Text = map string_bytes c.args.words.now in
    let free : is_simple_and_free (app_of c.in-Ok.command) ≡ true = ap is_simple_and_free c.in-Ok.ensures in
    let Has : App → Type 0 =
    λ app. (kind_of c.in-Err.error ≡ OutOfMemory) ⊎ IsAmong (kind_of c.in-Err.error) (fault_of app words) in
    refused_fault words c.in-Err.error c.fault_of.result OutOfMemory c.fault_of.ensures.bad c.fault_of.ensures.refused
    (subst Has c.in-Ok.ensures (c.in-Err.ensures.kinds free))
