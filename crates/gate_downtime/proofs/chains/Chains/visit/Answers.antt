use Rattle.std.proofs.Common.{◌≡◌, ◌∙◌, true, ℕ, ap, subst, sym, get_or, arith, vec_len, vec_capacity}
use Rattle.std.proofs.lemmas.List.{length_push}
use Rattle.std.specs.Global.{Vec}
use Rattle.gate_downtime.specs.declared.row.Row.{Row}
use Rattle.gate_downtime.specs.inner.Rows.{CanReplace, active_at}
use Rattle.gate_downtime.specs.inner.Links.{lone_link}
use Rattle.gate_downtime.specs.inner.Chains.{is_open, IsTriggered}
use Rattle.gate_downtime.proofs.StackSteps.{stack-within, last-triggered, stack-pass, stack-start, pass-less, change-less, walks-pass, walks-change, changed-replaces, changed-open, changed-closed, open-positive, closed-count}
use Rattle.gate_downtime.proofs.chains.Chains.visit.Goals as goal

pub push_pending-requires : goal.push_pending-requires
push_pending-requires c = omega (arith, c.requires.room, length_push c.args.self.now.pending.items c.args.at, c.args.self.now.pending.ok.0)

pub changed-requires : goal.changed-requires
changed-requires c =
    let P : Row → Type 0 = IsTriggered c.args.self.now.first c.args.self.now.rows.items in
    subst P (sym (c.row_at-old.ensures c.row_at-old.result)) (last-triggered _ _ _ _ c.args.at c.row_at-old.result c.requires.stack)

pub returns-in_default-clause-walking : goal.returns-in_default-clause-walking
returns-in_default-clause-walking c = record {
  current = record { sound = c.requires.current.sound; room = c.requires.current.room };
  stack = rw (c.push_pending.ensures.items, c.link_at-link.ensures lone_link) (stack-pass _ _ _ _ c.args.at lone_link c.requires.stack);
  room = omega (arith, c.requires.room, length_push c.args.self.now.pending.items c.args.at, c.args.self.now.pending.ok.0, c.push_pending.new.pending.ok.0, c.push_pending.ensures.len, c.push_pending.ensures.capacity);
}

pub returns-in_default-clause-walks : goal.returns-in_default-clause-walks
returns-in_default-clause-walks c =
    let w = walks-pass c.args.change c.args.self.now c.args.self.now.pending.items _ c.args.at c.row_at-old.result lone_link (rw (c.link_at-link.ensures lone_link) at c.push_pending.ensures.items) c.requires.stack c.row_at-old.ensures c.in_default.ensures.none in
    record { entries = w.entries; begins = w.begins; deletes = w.deletes }

pub returns-in_default-clause-less : goal.returns-in_default-clause-less
returns-in_default-clause-less c = rw (c.push_pending.ensures.items, c.link_at-link.ensures lone_link) (pass-less _ _ _ _ _ c.args.at lone_link c.requires.stack)

pub write-requires-clause-current : goal.write-requires-clause-current
write-requires-clause-current c = record { sound = c.requires.current.sound; room = c.requires.current.room }

pub write-requires-clause-within : goal.write-requires-clause-within
write-requires-clause-within c = stack-within _ _ _ _ _ c.requires.stack

pub write-requires-clause-row : goal.write-requires-clause-row
write-requires-clause-row c = λ d.
    let P : Row → Type 0 = λ r. CanReplace r c.in-Some.row in
    subst P (c.row_at-old.ensures d) (changed-replaces c.args.change _ c.row_at-old.result c.in-Some.row c.in-Some.ensures.some)

pub push_pending-requires-2 : goal.push_pending-requires-2
push_pending-requires-2 c =
    let old : Row = c.row_at-old.result in
    let on : is_open c.args.change (get_or c.args.self.now.rows.items c.args.at old) ≡ true = ap (is_open c.args.change) (sym (c.row_at-old.ensures old)) ∙ changed-open c.args.change _ old c.in-Some.row c.in-Some.ensures.some in
    let count = open-positive (is_open c.args.change) c.args.self.now.rows.items c.args.at old (stack-within _ _ _ _ _ c.requires.stack) on in
    omega (arith, c.requires.room, length_push c.args.self.now.pending.items c.args.at, c.args.self.now.pending.ok.0, c.push_pending.ensures.len, c.push_pending.ensures.capacity, ap vec_len c.write.ensures.pending, ap vec_capacity c.write.ensures.pending, count)

pub returns : goal.returns
returns c =
    let old : Row = c.row_at-old.result in
    let kept = c.write.ensures.kept in
    let on : is_open c.args.change (get_or c.args.self.now.rows.items c.args.at old) ≡ true = ap (is_open c.args.change) (sym (c.row_at-old.ensures old)) ∙ changed-open c.args.change _ old c.in-Some.row c.in-Some.ensures.some in
    let off = changed-closed c.args.change _ old c.in-Some.row (active_at c.args.self.now.moment.0 c.in-Some.row) c.in-Some.ensures.some in
    let next = rw (ap (λ (p : Vec ℕ). p.items) c.write.ensures.pending, c.push_pending.ensures.items, c.link_at-link.ensures lone_link) at c.push_pending-2.ensures.items in
    let count = closed-count (is_open c.args.change) _ _ c.args.at old _ (stack-within _ _ _ _ _ c.requires.stack) on off c.write.ensures.rows in
    let w = walks-change c.args.change _ _ c.args.self.now.pending.items _ c.args.at old c.in-Some.row lone_link lone_link next c.row_at-old.ensures c.in-Some.ensures.some kept c.write.ensures.rows in
    record {
      walking = record {
        current = record { sound = c.write.ensures.current.sound; room = c.write.ensures.current.room };
        stack = rw (next, kept.first, kept.links)
            (stack-start _ _ _ _ _ c.args.at _ lone_link (stack-pass _ _ _ _ c.args.at lone_link c.requires.stack) (stack-within _ _ _ _ _ c.requires.stack)
            (λ d. (changed-replaces c.args.change _ old c.in-Some.row c.in-Some.ensures.some).scheduled ∙ ap (λ (r : Row). r.entry.scheduled) (c.row_at-old.ensures d)) c.write.ensures.rows);
        room = omega (
          arith,
          c.requires.room,
          length_push c.args.self.now.pending.items c.args.at,
          c.args.self.now.pending.ok.0,
          c.push_pending-2.new.pending.ok.0,
          c.push_pending.ensures.len,
          c.push_pending.ensures.capacity,
          ap vec_len c.write.ensures.pending,
          ap vec_capacity c.write.ensures.pending,
          c.push_pending-2.ensures.len,
          c.push_pending-2.ensures.capacity,
          count,
        );
      };
      walks = record { entries = w.entries; begins = w.begins; deletes = w.deletes };
      kept = record {
        links = kept.links;
        moment = kept.moment;
        first = kept.first;
        size = kept.size;
        deadlines = kept.deadlines;
        pending = omega (arith, kept.pending, c.push_pending.ensures.capacity, c.push_pending-2.ensures.capacity);
      };
      less = rw next (change-less (is_open c.args.change) _ _ _ _ _ c.args.at lone_link lone_link old _ c.requires.stack on off c.write.ensures.rows);
    }
