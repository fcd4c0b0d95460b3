use Rattle.std.proofs.Common.{refl}
use Rattle.gate_boards.proofs.Clocked.{advanced, kept}
use Rattle.gate_boards.proofs.applying.show_turn.Goals as goal

pub returns-in-Item-clause-clock : goal.returns-in-Item-clause-clock
returns-in-Item-clause-clock g c = kept (g.K.Clock.state c.args.clock.now) c.args.applier.now c.args.applier.now refl refl

pub returns-in-Nothing-clause-clock : goal.returns-in-Nothing-clause-clock
returns-in-Nothing-clause-clock g c =
    let idle = c.go_on.ensures.idle in
    advanced (g.K.Clock.state c.args.clock.now) (g.K.Clock.state c.go_on.new.clock) c.args.applier.now c.go_on.new.applier idle.0 idle.1
    c.go_on.ensures.records idle.2
