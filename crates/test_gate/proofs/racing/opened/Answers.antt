use Rattle.std.proofs.Common.{◌≡◌, List, sym, subst}
use Rattle.std.specs.Prelude.{All}
use Rattle.gate_queue.specs.Client.{ClientState}
use Rattle.gate_queue.proofs.OpeningSteps.{all_of_gate}
use Rattle.test_gate.proofs.racing.opened.Goals as goal

pub returns-in-Ok-clause-clients : goal.returns-in-Ok-clause-clients
returns-in-Ok-clause-clients c = subst (λ (l : List ClientState). All (λ (client : ClientState). client.gate ≡ c.in-Ok.gate) l) (sym c.in-Ok.ensures.opened.3) (all_of_gate c.in-Ok.gate c.args.count)
