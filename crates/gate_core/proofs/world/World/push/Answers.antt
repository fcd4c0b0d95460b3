use Rattle.std.proofs.Common.{rules, sym, ◌∙◌, Ok, Err}
use Rattle.gate_core.specs.declared.event.PushFault.TheVariants.{Spent, Full}
use Rattle.gate_core.proofs.Calls.{push_stands}
use Rattle.gate_core.proofs.world.World.push.Goals as goal

pub returns-then-seat-self-clause-stands : goal.returns-then-seat-self-clause-stands
returns-then-seat-self-clause-stands c =
    push_stands c.args.self.now c.put_seat.new.self c.args.client c.unwrap-seat.result c.args.body (Err (Spent c.args.body)) (sym c.seat.ensures ∙ c.unwrap-seat.ensures) c.requires (search rules)

pub returns-then-len-self-clause-stands : goal.returns-then-len-self-clause-stands
returns-then-len-self-clause-stands c =
    push_stands c.args.self.now c.put_seat-then-len-self.new.self c.args.client c.unwrap-seat.result c.args.body (Err (Full c.args.body)) (sym c.seat.ensures ∙ c.unwrap-seat.ensures) c.requires (search rules)

pub returns-clause-stands : goal.returns-clause-stands
returns-clause-stands c =
    push_stands c.args.self.now c.put_last.new.self c.args.client c.unwrap-seat.result c.args.body (Ok c.from-number.result) (sym c.seat.ensures ∙ c.unwrap-seat.ensures) c.requires (search rules)
