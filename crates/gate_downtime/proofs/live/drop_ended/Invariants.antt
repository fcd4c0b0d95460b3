use Rattle.std.proofs.Common.{◌≡◌, ◌≤◌, false, vec_len}
use Rattle.std.specs.Prelude.{filter}
use Rattle.gate_downtime.specs.inner.Rows.{is_live_row}
use Rattle.gate_downtime.specs.inner.Live.{AreAscending, AreNoted}
use Rattle.gate_downtime.proofs.live.drop_ended.Given as goal

abbrev pub invariant-ended : goal.invariant-ended
invariant-ended l = record {
  ascending : AreAscending l.live.ids.items;
  few : l.live.many ≡ false;
  noted : AreNoted (is_live_row l.first l.rows l.now) l.live;
  ids : filter (is_live_row l.first l.rows l.now) l.live.ids.items ≡ filter (is_live_row l.first l.rows l.now) l.initial.live.ids.items;
  room : l.initial.live.ids.room ≤ l.live.ids.room;
}

abbrev pub decreases-ended : goal.decreases-ended
decreases-ended l = vec_len l.live.ended
