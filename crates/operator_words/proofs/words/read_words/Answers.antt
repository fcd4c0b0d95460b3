use Rattle.std.proofs.Common.{◌≡◌, ◌⊎◌, List, [], Option, Some, None, IfOk, true, map, string_bytes, ap, sym, subst, ◌∙◌}
use Rattle.clap.specs.Words.{App, Text, IsAmong, app_of, fault_of, is_simple_and_free, subcommand_of, subcommand_rows_of}
use Rattle.clap.specs.Simple.{is_simple}
use Rattle.clap.specs.Values.{kind_of}
use Rattle.clap.specs.declared.error.kind.ErrorKind.TheVariants.{OutOfMemory}
use Rattle.operator_commands.specs.declared.request.Asked.{Asked}
use Rattle.operator_words.specs.Words.{asked_of, asked_with}
use Rattle.operator_words.proofs.WordSteps.{asked_words, is_among}
use Rattle.operator_words.proofs.words.read_words.Goals as goal

pub returns-in-Ok-try_get_matches_from-clause-asked : goal.returns-in-Ok-try_get_matches_from-clause-asked
returns-in-Ok-try_get_matches_from-clause-asked c =
    let words : List Text = map string_bytes c.args.words.now in
    let parsed = c.in-Ok-try_get_matches_from.ensures in
    let is : is_simple (app_of c.in-Ok.command) ≡ true = ap is_simple c.in-Ok.ensures in
    let free : is_simple_and_free (app_of c.in-Ok.command) ≡ true = ap is_simple_and_free c.in-Ok.ensures in
    let none = subst (λ (app : App). fault_of app words ≡ []) c.in-Ok.ensures (parsed.kinds free) in
    let met = (parsed.matches is).1 ∙ ap (λ (app : App). subcommand_of app words) c.in-Ok.ensures in
    let same = asked_words words (subcommand_rows_of c.in-Ok-try_get_matches_from.matches) none met in
    subst (λ (given : Option Asked). IfOk c.found_request.result (λ asked. given ≡ Some asked)) same
    c.found_request.ensures.asked

pub returns-in-Ok-try_get_matches_from-clause-none : goal.returns-in-Ok-try_get_matches_from-clause-none
returns-in-Ok-try_get_matches_from-clause-none c = λ nothing.
    let words : List Text = map string_bytes c.args.words.now in
    let parsed = c.in-Ok-try_get_matches_from.ensures in
    let is : is_simple (app_of c.in-Ok.command) ≡ true = ap is_simple c.in-Ok.ensures in
    let free : is_simple_and_free (app_of c.in-Ok.command) ≡ true = ap is_simple_and_free c.in-Ok.ensures in
    let none = subst (λ (app : App). fault_of app words ≡ []) c.in-Ok.ensures (parsed.kinds free) in
    let met = (parsed.matches is).1 ∙ ap (λ (app : App). subcommand_of app words) c.in-Ok.ensures in
    let same = asked_words words (subcommand_rows_of c.in-Ok-try_get_matches_from.matches) none met in
    sym same ∙ c.found_request.ensures.none nothing

pub returns-in-Err-clause-refused : goal.returns-in-Err-clause-refused
returns-in-Err-clause-refused c = λ error same.
    let words : List Text = map string_bytes c.args.words.now in
    let free : is_simple_and_free (app_of c.in-Ok.command) ≡ true = ap is_simple_and_free c.in-Ok.ensures in
    let Has : App → Type 0 =
    λ app. (kind_of c.in-Err.error ≡ OutOfMemory) ⊎ IsAmong (kind_of c.in-Err.error) (fault_of app words) in
    let known = c.refuse.ensures.refused error same in
    is_among _ c.in-Err.error error OutOfMemory known.0 known.1 (subst Has c.in-Ok.ensures (c.in-Err.ensures.kinds free))
