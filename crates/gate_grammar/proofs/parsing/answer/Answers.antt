use Rattle.std.proofs.Common.{refl, ◌∙◌}
use Rattle.gate_grammar.specs.Commands.{command_body}
use Rattle.gate_grammar.proofs.Tables.{takes_again}
use Rattle.gate_grammar.proofs.parsing.answer.Goals as goal

pub returns-in-Err-body : goal.returns-in-Err-body
returns-in-Err-body c =
    let parsed = c.in-Ok.parsed in (
      record { entered = parsed.entered; body = command_body parsed.name parsed.arguments },
      rw c.in-Ok.ensures refl,
      takes_again parsed.name parsed.arguments ∙ c.in-Err-body.ensures.memory,
    )
