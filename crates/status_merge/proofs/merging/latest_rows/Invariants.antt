use Rattle.std.proofs.Common.{take}
use Rattle.status_merge.proofs.NameSteps.{AreLatest}
use Rattle.status_merge.proofs.merging.latest_rows.Given as goal

abbrev pub invariant-loop-row : goal.invariant-loop-row
invariant-loop-row l = AreLatest (take l.row-index l.rows) l.names.keys l.shown.items
