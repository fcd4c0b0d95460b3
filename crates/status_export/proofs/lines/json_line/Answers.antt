use Rattle.std.proofs.Common.{refl}
use Rattle.status_export.proofs.lines.json_line.Goals as goal

pub returns : goal.returns
returns c =
    let adds = c.in_ok-push_line.ensures in
    rw (c.into_inner.ensures.items, adds.before, adds.added, c.new-writer.ensures.before, c.new-writer.ensures.tokens, c.new.ensures.items)
    refl
