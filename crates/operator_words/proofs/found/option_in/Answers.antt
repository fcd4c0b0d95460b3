use Rattle.std.proofs.Common.{Some, ap, ◌∙◌}
use Rattle.clap.specs.Words.{found_of}
use Rattle.clap.proofs.WalkLemmas.{first_value-rows}
use Rattle.operator_words.proofs.found.option_in.Goals as goal

pub returns-in_ok-copied-in-Some : goal.returns-in_ok-copied-in-Some
returns-in_ok-copied-in-Some c =
    ap Some (c.in_ok-copied-in-Some.ensures ∙ c.as_bytes.ensures.value) ∙ c.in-Some.ensures ∙ first_value-rows (found_of c.args.found.now) c.args.name.now

pub returns-in-None : goal.returns-in-None
returns-in-None c = c.in-None.ensures ∙ first_value-rows (found_of c.args.found.now) c.args.name.now
