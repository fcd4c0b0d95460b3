use Rattle.std.proofs.Common.{ap, ◌∙◌}
use Rattle.std.specs.Int.{from_be_bytes, w128}
use Rattle.gate_ports.proofs.accepting.address_in.Goals as goal

pub returns : goal.returns
returns c = c.from_be_bytes.ensures ∙ ap (λ octets. from_be_bytes w128 octets) c.octets_in.ensures
