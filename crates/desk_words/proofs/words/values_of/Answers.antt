use Rattle.std.proofs.Common.{[], ap, ◌∙◌}
use Rattle.clap.specs.Walk.{texts}
use Rattle.clap.specs.Words.{found_of}
use Rattle.clap.proofs.WalkLemmas.{raw_values-rows}
use Rattle.status_serving.proofs.BodySteps.{if_ok}
use Rattle.desk_words.proofs.WordSteps.{given, not_given}
use Rattle.desk_words.proofs.words.values_of.Goals as goal

pub returns-in-Some : goal.returns-in-Some
returns-in-Some c =
    let found = found_of c.args.matches.now in
    if_ok c.from_slice.result
    (λ values same. ap texts same ∙ given [] (c.in-Some.ensures ∙ raw_values-rows found c.args.name.now))
    c.from_slice.ensures.items

pub returns-in-None : goal.returns-in-None
returns-in-None c =
    let found = found_of c.args.matches.now in
    ap texts c.new.ensures.items ∙ not_given [] (c.in-None.ensures ∙ raw_values-rows found c.args.name.now)
