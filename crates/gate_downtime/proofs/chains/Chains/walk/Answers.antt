use Rattle.std.proofs.Common.{◌≡◌, ◌<◌, ℕ, List, [], ap, sym, subst, length, arith}
use Rattle.std.proofs.lemmas.List.{nil_from_length}
use Rattle.gate_downtime.specs.inner.Chains.{Walks, Keeps, left_of}
use Rattle.gate_downtime.proofs.StackSteps.{walks-trans, keep-trans}
use Rattle.gate_downtime.proofs.chains.Chains.walk.Goals as goal

pub visit-requires : goal.visit-requires
visit-requires c = record {
  current = record { sound = c.pending.invariant.walking.current.sound; room = c.pending.invariant.walking.current.room };
  stack = rw (← c.in-Some.ensures.items) c.pending.invariant.walking.stack;
  room = omega (arith, c.pending.invariant.walking.room, ap length c.in-Some.ensures.items);
}

pub pending-preserved : goal.pending-preserved
pending-preserved c =
    let step : Walks c.args.change c.pending.self c.pending.self.pending.items c.visit.new.self c.visit.new.self.pending.items =
    record {
      entries = c.visit.ensures.walks.entries;
      begins = λ is spreading. c.visit.ensures.walks.begins is (rw (← c.in-Some.ensures.items) spreading);
      deletes = λ is rows id deletes. c.visit.ensures.walks.deletes is rows id (rw (← c.in-Some.ensures.items) deletes);
    } in
    let kept : Keeps c.pending.self c.visit.new.self = record {
      links = c.visit.ensures.kept.links;
      moment = c.visit.ensures.kept.moment;
      first = c.visit.ensures.kept.first;
      size = c.visit.ensures.kept.size;
      deadlines = c.visit.ensures.kept.deadlines;
      pending = omega (arith, c.visit.ensures.kept.pending);
    } in
    record {
      walking = c.visit.ensures.walking;
      walks = walks-trans _ _ _ _ _ _ _ c.pending.invariant.walks step;
      kept = keep-trans _ _ _ c.pending.invariant.kept kept;
    }

pub pending-smaller : goal.pending-smaller
pending-smaller c =
    let P : List ℕ → Type 0 = λ before. left_of c.args.change c.visit.new.self c.visit.new.self.pending.items < left_of c.args.change c.pending.self before in
    subst P (sym c.in-Some.ensures.items) c.visit.ensures.less

pub returns-clause-walks : goal.returns-clause-walks
returns-clause-walks c =
    let none : c.pending.self.pending.items ≡ [] = nil_from_length c.pending.self.pending.items (omega (arith, c.in_default.ensures.cases, c.pending.self.pending.ok.0)) in
    let w : Walks c.args.change c.args.self.now c.args.self.now.pending.items c.pending.self [] = rw (← none) c.pending.invariant.walks in
    record { entries = w.entries; begins = w.begins; deletes = w.deletes }
