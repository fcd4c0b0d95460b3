use Rattle.std.proofs.Common.{◌∙◌}
use Rattle.clap.specs.Words.{found_of}
use Rattle.clap.proofs.WalkLemmas.{first_value-rows}
use Rattle.desk_words.proofs.WordSteps.{given, not_given}
use Rattle.desk_words.proofs.words.value_of.Goals as goal

pub returns-in-Some : goal.returns-in-Some
returns-in-Some c =
    given c.args.default.now (c.in-Some.ensures ∙ first_value-rows (found_of c.args.matches.now) c.args.name.now)

pub returns-in-None : goal.returns-in-None
returns-in-None c =
    not_given c.args.default.now (c.in-None.ensures ∙ first_value-rows (found_of c.args.matches.now) c.args.name.now)
