use Rattle.std.proofs.Common.{ap, length, arith}
use Rattle.gate_downtime.specs.inner.Links.{lone_link}
use Rattle.gate_downtime.proofs.chains.Chains.walk_from.Goals as goal

pub push_pending-requires : goal.push_pending-requires
push_pending-requires c = omega (arith, c.requires.room, c.args.self.now.pending.ok.0, ap length c.requires.idle)

pub walk-requires : goal.walk-requires
walk-requires c =
    let next = rw (c.requires.idle, c.link_at-link.ensures lone_link) at c.push_pending.ensures.items in
    record {
      current = record { sound = (c.requires.walking lone_link).current.sound; room = (c.requires.walking lone_link).current.room };
      stack = rw next (c.requires.walking lone_link).stack;
      room = omega (arith, (c.requires.walking lone_link).room, ap length next, c.push_pending.ensures.capacity);
    }

pub returns-clause-walks : goal.returns-clause-walks
returns-clause-walks c = λ d. record {
  entries = c.walk.ensures.walks.entries;
  begins = λ is spreading. c.walk.ensures.walks.begins is (rw (c.push_pending.ensures.items, c.requires.idle, c.link_at-link.ensures d) spreading);
  deletes = λ is rows id deletes. c.walk.ensures.walks.deletes is rows id (rw (c.push_pending.ensures.items, c.requires.idle, c.link_at-link.ensures d) deletes);
}
