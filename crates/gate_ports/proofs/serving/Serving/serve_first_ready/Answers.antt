use Rattle.std.proofs.Common.{refl}
use Rattle.gate_ports.proofs.serving.Serving.serve_first_ready.Goals as goal

pub returns-clause-served : goal.returns-clause-served
returns-clause-served c = (_, refl, record { place = refl; none = refl; no_lines = c.begin_piece.ensures.lines; greeted = c.owe_answer-is_first.ensures.served })
