use Rattle.std.proofs.Common.{rules}
use Rattle.operator_restoring.proofs.stopping.keep_text.Goals as goal

pub returns-then-is_some : goal.returns-then-is_some
returns-then-is_some g c =
    let kept : g.S.Stopped.has_page c.as_slice-2.result.now = search rules in
    record {
      text = c.args.text.items;
      page = c.in-Ok.page;
      is_page = rw c.as_slice.ensures.value at c.in-Ok.ensures.written;
      shown = c.requires;
      closing = search rules;
      kept = rw c.as_slice-2.ensures.value at kept;
    }
