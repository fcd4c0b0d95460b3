use Rattle.gate_downtime.proofs.WalkSteps.{walk-next, walk-smaller-next, walk-end-at}
use Rattle.gate_downtime.specs.inner.Rows.{some-row}
use Rattle.gate_downtime.specs.inner.Links.{lone_link}
use Rattle.gate_downtime.proofs.StackSteps.{keep-trans}
use Rattle.gate_downtime.proofs.chains.Chains.turn_waiting.Goals as goal

pub walk-smaller : goal.walk-smaller
walk-smaller c = rw (c.link_at-cursor.ensures lone_link, c.turn_row.ensures.kept.links, c.walk.invariant.kept.links) (walk-smaller-next _ _ _ _ _ _ _ _ lone_link some-row c.requires.flexible c.walk.invariant.walked c.in-Some.is)

pub walk-preserved : goal.walk-preserved
walk-preserved c = record {
  ready = c.turn_row.ensures.ready;
  walked = rw (c.link_at-cursor.ensures lone_link, c.turn_row.ensures.kept.links, c.walk.invariant.kept.links)
      (walk-next _ _ _ _ _ _ _ _ _ lone_link some-row c.requires.flexible c.walk.invariant.walked c.in-Some.is (λ e. rw (← c.walk.invariant.kept.moment) (c.turn_row.ensures.entries e)));
  kept = keep-trans _ _ _ c.walk.invariant.kept c.turn_row.ensures.kept;
}

pub returns-clause-entries : goal.returns-clause-entries
returns-clause-entries c = walk-end-at _ _ _ _ _ c.in_default.is c.walk.invariant.walked
