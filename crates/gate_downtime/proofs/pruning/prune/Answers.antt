use Rattle.std.specs.Prelude.{None}
use Rattle.std.proofs.lemmas.List.{get_or_default}
use Rattle.std.proofs.Common.{◌≡◌, ◌<◌, ◌∙◌, false, ap, sym, get_or, length, arith, refl}
use Rattle.gate_downtime.specs.declared.row.Row.{Row}
use Rattle.gate_downtime.specs.declared.links.Link.{Link}
use Rattle.gate_downtime.specs.inner.Walk.{may_begin}
use Rattle.gate_downtime.specs.inner.Links.{lone_link}
use Rattle.gate_downtime.proofs.PruneSteps.{cursor-at, prune-smaller, prune-skip, prune-keep, last-within, kin-sets, kin-same, kin-trans}
use Rattle.gate_downtime.proofs.pruning.prune.Goals as goal

pub walk-init : goal.walk-init
walk-init c = record {
  waiting = c.requires.waiting;
  last_in = tt;
  after = c.index-cursor.ensures ∙ get_or_default c.args.heads.now.items c.args.place c.index-cursor.result.now None c.requires.place;
  kin = kin-same _;
  links_len = refl;
  links_capacity = refl;
  heads_len = refl;
}

pub link_at-link-requires : goal.link_at-link-requires
link_at-link-requires c = omega (arith, (cursor-at _ _ _ c.walk.links.items c.walk.heads.items c.walk.last c.walk.cursor c.in-Some.at c.walk.invariant.waiting (let lt : c.args.place < length c.walk.heads.items = omega (arith, c.requires.place, c.walk.invariant.heads_len, c.walk.heads.ok.0, c.args.heads.now.ok.0) in lt) c.walk.invariant.last_in c.walk.invariant.after c.in-Some.is).1, (c.walk.invariant.kin.len ∙ c.requires.linked), ap length c.deref.ensures.value)

pub row_at-row-requires : goal.row_at-row-requires
row_at-row-requires c = (cursor-at _ _ _ c.walk.links.items c.walk.heads.items c.walk.last c.walk.cursor c.in-Some.at c.walk.invariant.waiting (let lt : c.args.place < length c.walk.heads.items = omega (arith, c.requires.place, c.walk.invariant.heads_len, c.walk.heads.ok.0, c.args.heads.now.ok.0) in lt) c.walk.invariant.last_in c.walk.invariant.after c.in-Some.is).1

pub set_next-requires-clause-last : goal.set_next-requires-clause-last
set_next-requires-clause-last c = last-within c.args.place _ c.walk.links.items c.walk.last (c.walk.invariant.kin.len ∙ c.requires.linked) c.walk.invariant.last_in

pub walk-preserved-then-may_begin : goal.walk-preserved-then-may_begin
walk-preserved-then-may_begin c = record {
  waiting = c.walk.invariant.waiting;
  last_in = prune-keep _ _ _ c.walk.links.items c.walk.heads.items c.walk.last c.walk.cursor c.in-Some.at c.walk.invariant.waiting (let lt : c.args.place < length c.walk.heads.items = omega (arith, c.requires.place, c.walk.invariant.heads_len, c.walk.heads.ok.0, c.args.heads.now.ok.0) in lt) c.walk.invariant.last_in c.walk.invariant.after c.in-Some.is;
  after = λ l. ap (λ (x : Link). x.waiting) ((λ (l : Link). c.link_at-link.ensures l ∙ ap (λ links. get_or links c.in-Some.at l) c.deref.ensures.value) l);
  kin = c.walk.invariant.kin;
  links_len = c.walk.invariant.links_len;
  links_capacity = c.walk.invariant.links_capacity;
  heads_len = c.walk.invariant.heads_len;
}

pub walk-preserved : goal.walk-preserved
walk-preserved c =
    let off : may_begin c.args.now (get_or c.args.rows.now c.in-Some.at c.row_at-row.result).entry ≡ false =
    ap (λ (r : Row). may_begin c.args.now r.entry) (sym (c.row_at-row.ensures c.row_at-row.result)) ∙ sym c.may_begin.ensures ∙ c.if-may_begin.false in
    let both =
    prune-skip c.args.now c.args.place c.args.rows.now c.walk.links.items c.set_next.new.links.items c.walk.heads.items c.set_next.new.heads.items c.walk.last c.walk.cursor c.link_at-link.result.waiting c.in-Some.at c.row_at-row.result
    (c.walk.invariant.kin.len ∙ c.requires.linked) (let lt : c.args.place < length c.walk.heads.items = omega (arith, c.requires.place, c.walk.invariant.heads_len, c.walk.heads.ok.0, c.args.heads.now.ok.0) in lt) c.walk.invariant.last_in c.walk.invariant.after c.in-Some.is (λ l. ap (λ (x : Link). x.waiting) ((λ (l : Link). c.link_at-link.ensures l ∙ ap (λ links. get_or links c.in-Some.at l) c.deref.ensures.value) l)) off c.set_next.ensures.sets c.walk.invariant.waiting in
    record {
      waiting = both.0;
      last_in = c.walk.invariant.last_in;
      after = both.1;
      kin =
          kin-trans _ _ _ c.walk.invariant.kin
          (kin-sets c.args.place c.walk.links.items c.set_next.new.links.items c.walk.heads.items c.set_next.new.heads.items c.walk.last c.link_at-link.result.waiting
          (last-within c.args.place _ c.walk.links.items c.walk.last (c.walk.invariant.kin.len ∙ c.requires.linked) c.walk.invariant.last_in) c.set_next.ensures.sets);
      links_len = c.set_next.ensures.size.len ∙ c.walk.invariant.links_len;
      links_capacity = c.set_next.ensures.size.capacity ∙ c.walk.invariant.links_capacity;
      heads_len = c.set_next.ensures.heads_len ∙ c.walk.invariant.heads_len;
    }

pub walk-smaller-then-may_begin : goal.walk-smaller-then-may_begin
walk-smaller-then-may_begin c =
    prune-smaller c.args.now c.args.place c.args.rows.now c.walk.links.items c.walk.heads.items c.walk.last c.walk.cursor c.link_at-link.result.waiting c.in-Some.at lone_link c.walk.invariant.waiting (let lt : c.args.place < length c.walk.heads.items = omega (arith, c.requires.place, c.walk.invariant.heads_len, c.walk.heads.ok.0, c.args.heads.now.ok.0) in lt) c.walk.invariant.last_in c.walk.invariant.after c.in-Some.is
    (ap (λ (x : Link). x.waiting) ((λ (l : Link). c.link_at-link.ensures l ∙ ap (λ links. get_or links c.in-Some.at l) c.deref.ensures.value) lone_link))

pub walk-smaller : goal.walk-smaller
walk-smaller c =
    prune-smaller c.args.now c.args.place c.args.rows.now c.walk.links.items c.walk.heads.items c.walk.last c.walk.cursor c.link_at-link.result.waiting c.in-Some.at lone_link c.walk.invariant.waiting (let lt : c.args.place < length c.walk.heads.items = omega (arith, c.requires.place, c.walk.invariant.heads_len, c.walk.heads.ok.0, c.args.heads.now.ok.0) in lt) c.walk.invariant.last_in c.walk.invariant.after c.in-Some.is
    (ap (λ (x : Link). x.waiting) ((λ (l : Link). c.link_at-link.ensures l ∙ ap (λ links. get_or links c.in-Some.at l) c.deref.ensures.value) lone_link))
