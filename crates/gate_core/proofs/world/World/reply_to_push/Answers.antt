use Rattle.std.proofs.Common.{sym, ◌∙◌}
use Rattle.gate_core.proofs.Steps.{stands_ignored_push}
use Rattle.gate_core.proofs.world.World.reply_to_push.Goals as goal

pub returns-then-not-is_ready-clause-stands : goal.returns-then-not-is_ready-clause-stands
returns-then-not-is_ready-clause-stands c = λ run h. stands_ignored_push c.args.self.now c.args.client c.args.body run (sym c.is_ready.ensures ∙ c.if-not-is_ready.true) h
