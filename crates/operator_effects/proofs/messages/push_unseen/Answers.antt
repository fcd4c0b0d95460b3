use Rattle.std.proofs.Common.{codes}
use Rattle.std.specs.Fmt.{decimal}
use Rattle.operator_effects.proofs.CommandSteps.{joined}
use Rattle.operator_effects.proofs.messages.push_unseen.Goals as goal

pub returns : goal.returns
returns c =
    joined c.args.out.now.items (codes ", queued as ") (decimal c.args.number) (codes "; no page shows it") _ _ _
    c.in_ok-extend_from_slice.ensures.items c.in_ok-push_number.ensures.ok c.in_ok-extend_from_slice-2.ensures.items
