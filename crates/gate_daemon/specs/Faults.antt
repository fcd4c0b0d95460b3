-- When a gateway that did not finish applied what it did. Own rule.
use Rattle.std.specs.Prelude.{⊤}
use Rattle.gate_model.specs.declared.record.Moment.{Moment}
use Rattle.gate_boards.specs.Applying.{AreShown}
use Rattle.gate_opening.specs.declared.fault.GatewayFault.{GatewayFault}
use Rattle.gate_opening.specs.declared.fault.GatewayFault.TheVariants as fault

-- what was applied before the queue couldn't be drained further stands at moments that a clock may show
abbrev pub AreShownUntil : (Moment → Type 0) → GatewayFault → Type 0
AreShownUntil shows (fault.CloseAll gate drain reports) = AreShown shows drain.applier
AreShownUntil shows fault.Spawn = ⊤
AreShownUntil shows fault.OutOfMemory = ⊤
AreShownUntil shows (fault.Queue why) = ⊤
AreShownUntil shows (fault.Applier why) = ⊤
