use Rattle.std.specs.Prelude.{codes}
use Rattle.gate_lines.specs.Lines.{downtime_fields}
use Rattle.gate_lines.proofs.LineSteps.{line-appended, line-ended}
use Rattle.gate_lines.proofs.lines.push_downtime.Goals as goal

pub returns : goal.returns
returns c =
    line-ended c.extend_from_slice-2.result _ _ _ c.extend_from_slice-2.ensures.items
    (rw (
      c.in_ok-push_text-3.ensures,
      c.in_ok-push_text-2.ensures,
      c.in_ok-push_optional.ensures,
      c.in_ok-push_count-5.ensures,
      c.in_ok-push_count-4.ensures,
      c.in_ok-push_count-3.ensures,
      c.in_ok-push_count-2.ensures,
      c.in_ok-push_word.ensures,
      c.plan_name.ensures,
      c.in_ok-push_service.ensures,
      c.in_ok-push_text.ensures,
      c.in_ok-push_count.ensures,
      c.in_ok-extend_from_slice.ensures.items,
    ) (line-appended c.args.out.now.items (codes "downtime") (downtime_fields c.args.row.now)))
