use Rattle.std.proofs.Common.{◌≡◌, vec_len, vec_capacity}
use Rattle.gate_downtime.specs.inner.Walk.{AllFlexLinked, IsCursor, cursor_size}
use Rattle.gate_downtime.specs.inner.Pruning.{IsAfter, SameKin}
use Rattle.gate_downtime.proofs.pruning.prune.Given as goal

abbrev pub invariant-walk : goal.invariant-walk
invariant-walk l = record {
  waiting : AllFlexLinked l.now l.rows l.links.items l.heads.items;
  last_in : IsCursor l.rows l.place l.last;
  after : IsAfter l.links.items l.heads.items l.place l.last l.cursor;
  kin : SameKin l.initial.links.items l.links.items;
  links_len : vec_len l.links ≡ vec_len l.initial.links;
  links_capacity : vec_capacity l.links ≡ vec_capacity l.initial.links;
  heads_len : vec_len l.heads ≡ vec_len l.initial.heads;
}

abbrev pub decreases-walk : goal.decreases-walk
decreases-walk l = cursor_size l.cursor
