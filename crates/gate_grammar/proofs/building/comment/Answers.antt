use Rattle.std.proofs.Common.{refl}
use Rattle.gate_grammar.specs.Commands.{command_body}
use Rattle.gate_grammar.proofs.building.comment.Goals as goal

pub returns : goal.returns
unfolding command_body
returns c = rw (c.in_ok-host.ensures.host, c.in_ok-host.ensures.service, c.in_ok-author.ensures.first, c.in_ok-author.ensures.second, c.number.ensures, c.names-index.ensures.names) refl
