use Rattle.std.proofs.Common.{sym, ◌∙◌}
use Rattle.gate_core.proofs.Steps.{stands_ignored_end}
use Rattle.gate_core.proofs.world.World.reply_to_end.Goals as goal

pub returns-then-not-is_open-clause-stands : goal.returns-then-not-is_open-clause-stands
returns-then-not-is_open-clause-stands c = λ run h. stands_ignored_end c.args.self.now c.args.client run (sym c.is_open.ensures ∙ c.if-not-is_open.true) h
