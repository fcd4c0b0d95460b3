use Rattle.std.proofs.Common.{◌≡◌, ◌∙◌, ◌+◌, true, [], ap, refl, subst, arith}
use Rattle.gate_downtime.specs.declared.row.Row.{Row}
use Rattle.gate_downtime.specs.declared.chains.Change.TheVariants.{Delete}
use Rattle.gate_downtime.specs.inner.Rows.{CanReplace, live_at}
use Rattle.gate_downtime.specs.inner.Links.{lone_link}
use Rattle.gate_downtime.specs.inner.Cancel.{is_kept, Deletes, HasStruck}
use Rattle.gate_downtime.specs.inner.Chains.{Keeps}
use Rattle.gate_downtime.proofs.CancelSteps.{deletes-end, spreading-struck}
use Rattle.gate_downtime.proofs.StackSteps.{deleted-replaces, live-kept, keep-trans, start-walking, delete-start}
use Rattle.gate_downtime.proofs.chains.Chains.delete_from.Goals as goal

pub write-requires-clause-row : goal.write-requires-clause-row
write-requires-clause-row c = λ d.
    let P : Row → Type 0 = λ r. CanReplace r c.deleted_row.result in
    subst P (c.row_at-row.ensures d) (deleted-replaces c.row_at-row.result c.deleted_row.result c.deleted_row.ensures)

pub walk_from-requires-clause-walking : goal.walk_from-requires-clause-walking
walk_from-requires-clause-walking c = λ d.
    let old : Row = c.row_at-row.result in
    let live : live_at c.args.self.now.moment.0 old ≡ true = ap (live_at c.args.self.now.moment.0) (c.row_at-row.ensures old) ∙ c.requires.live old in
    start-walking Delete _ _ c.args.at old _ d c.requires.ready c.requires.within c.row_at-row.ensures (ap (λ (r : Row). r.entry.scheduled) c.deleted_row.ensures) (live-kept _ old live)
    (ap is_kept c.deleted_row.ensures) c.write.ensures.current c.write.ensures.kept c.write.ensures.pending c.write.ensures.rows

pub returns : goal.returns
returns c =
    let old : Row = c.row_at-row.result in
    let live : live_at c.args.self.now.moment.0 old ≡ true = ap (live_at c.args.self.now.moment.0) (c.row_at-row.ensures old) ∙ c.requires.live old in
    let k : Keeps c.args.self.now c.walk_from.new.self = keep-trans _ _ _ c.write.ensures.kept c.walk_from.ensures.kept in
    let w : Deletes c.walk_from.new.self.first c.walk_from.new.self.moment.0 (c.args.self.now.first + c.args.at) c.args.self.now.rows.items c.walk_from.new.self.rows.items c.walk_from.new.self.links.items [] =
    (c.walk_from.ensures.walks lone_link).deletes refl c.args.self.now.rows.items (c.args.self.now.first + c.args.at)
    (delete-start _ _ c.args.at old _ lone_link c.requires.ready c.requires.within c.row_at-row.ensures live c.deleted_row.ensures c.write.ensures.kept c.write.ensures.rows) in
    let struck : HasStruck c.args.self.now.rows.items c.walk_from.new.self.rows.items = record { hit = w.hit; struck = w.struck } in
    record {
      ready = record {
        current = c.walk_from.ensures.current;
        spreading = rw (k.first, k.links) (spreading-struck _ _ _ _ struck c.requires.ready.spreading);
        idle = c.walk_from.ensures.idle;
        room = omega (arith, c.requires.ready.room, k.size.len, k.pending);
      };
      struck = struck;
      entries = rw (← k.moment) (deletes-end _ _ _ _ _ _ w);
      kept = k;
    }
