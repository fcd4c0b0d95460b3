use Rattle.std.proofs.Common.{rules, sym, ap, ◌∙◌}
use Rattle.gate_core.specs.State.{WorldState}
use Rattle.gate_core.proofs.Calls.{look_stands}
use Rattle.gate_core.proofs.world.World.look.Goals as goal

pub returns-clause-stands : goal.returns-clause-stands
returns-clause-stands c =
    look_stands c.args.self.now c.put_seat.new.self c.args.client c.unwrap-seat.result c.self.inside.closed (sym c.seat.ensures ∙ c.unwrap-seat.ensures) c.requires
    (ap (λ (w : WorldState). w.closed) c.self.view_is) (search rules)
