use Rattle.log_summary.proofs.LastSteps.{line_written}
use Rattle.log_summary.proofs.lines.push_group.Goals as goal

pub returns : goal.returns
returns c =
    line_written c.args.group.now c.in-Some.last.now c.args.out.now.items c.push_number.new.out.items c.extend_from_slice.new.self.items
    c.in_ok-line_of.field-0.items c.deref.result.now c.extend_from_slice-2.new.self.items c.push.new.self.items
    c.in-Some.ensures.value c.in_ok-line_of.ensures c.in_ok-push_number.ensures.ok c.in_ok-extend_from_slice.ensures.items
    c.deref.ensures.value c.in_ok-extend_from_slice-2.ensures.items c.in_ok-push.ensures.items
