use Rattle.std.proofs.Common.{◌≡◌, ℕ, List, [], IfOk, subst, ◌∙◌}
use Rattle.clap.specs.Words.{found_of}
use Rattle.clap.proofs.WalkLemmas.{raw_values-rows}
use Rattle.operator_words.proofs.FoundSteps.{given, not_given}
use Rattle.operator_words.proofs.found.texts_in.Goals as goal

pub returns-in-Some : goal.returns-in-Some
returns-in-Some c =
    subst (λ (words : List (List ℕ)). IfOk c.copied.result (λ copies. copies ≡ words))
    (given [] (c.in-Some.ensures ∙ raw_values-rows (found_of c.args.found.now) c.args.name.now)) c.copied.ensures

pub returns-in-None : goal.returns-in-None
returns-in-None c =
    c.new-in-None.ensures ∙ c.new.ensures.items
    ∙ not_given [] (c.in-None.ensures ∙ raw_values-rows (found_of c.args.found.now) c.args.name.now)
