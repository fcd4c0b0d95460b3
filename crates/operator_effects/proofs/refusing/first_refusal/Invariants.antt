use Rattle.std.proofs.Common.{◌≡◌, drop}
use Rattle.status_reading.specs.Rows.{page_view}
use Rattle.operator_effects.specs.Refusals.{first_refusal}
use Rattle.operator_effects.proofs.refusing.first_refusal.Given as goal

abbrev pub invariant-loop-command : goal.invariant-loop-command
invariant-loop-command l =
    first_refusal (page_view l.page) (drop l.command-index l.commands) ≡ first_refusal (page_view l.page) l.commands
