use Rattle.std.proofs.Common.{sym, ◌∙◌}
use Rattle.gate_core.proofs.Steps.{stands_ignored_taking_in}
use Rattle.gate_core.proofs.world.World.reply_to_taking_in.Goals as goal

pub returns-then-not-is_leaving-clause-stands : goal.returns-then-not-is_leaving-clause-stands
returns-then-not-is_leaving-clause-stands c = λ run h. stands_ignored_taking_in c.args.self.now c.args.client run (sym c.is_leaving.ensures ∙ c.if-not-is_leaving.true) h
