use Rattle.std.proofs.Common.{ap, ◌∙◌}
use Rattle.std.specs.Str.Lossy.{utf8_lossy}
use Rattle.log_summary.proofs.LastSteps.{json_written}
use Rattle.log_summary.proofs.json_lines.push_group.Goals as goal

pub returns : goal.returns
returns c =
    json_written c.args.group.now c.in-Some.last.now c.in-Refused.refusal c.in_ok-from_utf8_lossy.field-0.bytes.items
    c.in_ok-from_utf8_lossy-2.field-0.bytes.items c.args.out.now.items c.in_ok-line.line.items c.deref.result.now
    c.extend_from_slice.new.self.items c.push.new.self.items
    c.in-Some.ensures.value (cc (c.in-Refused.is)) (c.in_ok-from_utf8_lossy.ensures.lossy ∙ ap utf8_lossy c.host_of.ensures)
    (c.in_ok-from_utf8_lossy-2.ensures.lossy ∙ ap utf8_lossy c.bytes.ensures) c.in_ok-line.ensures
    c.deref.ensures.value c.in_ok-extend_from_slice.ensures.items c.in_ok-push.ensures.items
