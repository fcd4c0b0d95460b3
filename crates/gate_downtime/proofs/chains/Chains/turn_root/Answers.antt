use Rattle.std.proofs.Common.{◌∙◌, ap, subst, sym, refl, not, set, arith}
use Rattle.gate_downtime.specs.declared.row.Row.{Row}
use Rattle.gate_downtime.specs.declared.chains.Change.TheVariants.{Begin}
use Rattle.gate_downtime.specs.inner.Rows.{CanReplace}
use Rattle.gate_downtime.specs.inner.Links.{IsWaiting, lone_link, turned_at}
use Rattle.gate_downtime.specs.inner.Walk.{entry_list}
use Rattle.gate_downtime.specs.inner.Chains.{Keeps}
use Rattle.gate_downtime.proofs.SpreadSteps.{entries-set, waiting-unsettled}
use Rattle.gate_downtime.proofs.WalkSteps.{list-from-reverse}
use Rattle.gate_downtime.proofs.StackSteps.{keep-trans, root-replaces, root-start, start-walking}
use Rattle.gate_downtime.proofs.chains.Chains.turn_root.Goals as goal

pub write-requires-clause-row : goal.write-requires-clause-row
write-requires-clause-row c = λ d.
    let old : Row = c.row_at-row.result in
    let P : Row → Type 0 = λ r. CanReplace r c.settled_row.result in
    let Q : Row → Type 0 = IsWaiting in
    subst P (c.row_at-row.ensures d)
    (root-replaces c.args.self.now c.args.at old c.settled_row.result c.requires.ready c.requires.within (c.row_at-row.ensures old) (subst Q (sym (c.row_at-row.ensures old)) (c.requires.root old)) c.settled_row.ensures.entry c.settled_row.ensures.active c.settled_row.ensures.settled)

pub walk_from-requires-clause-walking : goal.walk_from-requires-clause-walking
walk_from-requires-clause-walking c = λ d.
    let old : Row = c.row_at-row.result in
    start-walking Begin _ _ c.args.at old _ d c.requires.ready c.requires.within c.row_at-row.ensures (ap (λ e. e.scheduled) c.settled_row.ensures.entry)
    (ap (λ (r : Row). not r.settled) (c.row_at-row.ensures old) ∙ ap not (waiting-unsettled _ _ _ c.args.at old c.requires.ready.spreading c.requires.within (c.requires.root old)))
    (ap not c.settled_row.ensures.settled) c.write.ensures.current c.write.ensures.kept c.write.ensures.pending c.write.ensures.rows

pub returns : goal.returns
returns c =
    let old : Row = c.row_at-row.result in
    let k : Keeps c.args.self.now c.walk_from.new.self = keep-trans _ _ _ c.write.ensures.kept c.walk_from.ensures.kept in
    let Q : Row → Type 0 = IsWaiting in
    record {
      ready = record {
        current = c.walk_from.ensures.current;
        spreading = (c.walk_from.ensures.walks lone_link).begins refl
            (root-start c.args.self.now c.write.new.self c.args.at old _ lone_link c.requires.ready c.requires.within c.row_at-row.ensures (subst Q (sym (c.row_at-row.ensures old)) (c.requires.root old)) c.settled_row.ensures.entry c.settled_row.ensures.settled
            (record { begun_is = c.settled_row.ensures.follows.begun_is; over_is = c.settled_row.ensures.follows.over_is }) c.write.ensures.kept c.write.ensures.rows);
        idle = c.walk_from.ensures.idle;
        room = omega (arith, c.requires.ready.room, k.size.len, k.pending);
      };
      entries = λ d.
          list-from-reverse _ _ ((c.walk_from.ensures.walks lone_link).entries refl ∙ entries-set _ _ c.args.at _ c.write.ensures.rows)
          ∙ ap (set (entry_list c.args.self.now.rows.items) c.args.at) (c.settled_row.ensures.entry ∙ ap (λ (r : Row). turned_at c.args.self.now.moment r.entry) (c.row_at-row.ensures d));
      kept = k;
    }
