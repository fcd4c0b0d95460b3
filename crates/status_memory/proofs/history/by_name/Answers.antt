use Rattle.std.proofs.Common.{◌≡◌, ◌-◌, length, map, drop, sym, ap, ◌∙◌, arith}
use Rattle.std.specs.Map.{lookup}
use Rattle.std.specs.Option.{option_map}
use Rattle.std.proofs.lemmas.List.{drop_all}
use Rattle.status_memory.specs.inner.Known.{same_key, known_view, lent_view, standing_in}
use Rattle.status_memory.proofs.HistorySteps.{by_name_more}
use Rattle.status_memory.proofs.history.by_name.Goals as goal

pub loop-index-init : goal.loop-index-init
loop-index-init c = record {
  found = λ key.
      ap (λ entries. option_map lent_view (lookup (same_key key) entries)) c.new-found.ensures.empty
      ∙ ap (λ list. standing_in (map known_view list) key.0.now key.1.now)
      (sym (drop_all (length c.args.known.now) c.args.known.now (omega arith)));
  within = omega arith;
}

pub loop-index-preserved : goal.loop-index-preserved
loop-index-preserved c = record {
  found = λ key.
      by_name_more c.args.known.now c.loop-index.index (c.loop-index.index - 1) _
      (c.as_slice.result, c.as_slice-in-loop-index.result) key _ _
      (omega (arith, c.loop-index.invariant.within, c.loop-index-test.true)) (omega (arith, c.loop-index-test.true))
      c.index-known-index.is c.as_slice.ensures.value c.as_slice-in-loop-index.ensures.value
      (c.in_ok-insert.ensures.updates.0 key) (c.loop-index.invariant.found key);
  within = omega (arith, c.loop-index.invariant.within);
}

pub returns : goal.returns
returns c =
    let none : c.loop-index.index ≡ 0 = omega (arith, c.loop-index-test.false) in
    λ key.
    c.loop-index.invariant.found key
    ∙ ap (λ index. standing_in (map known_view (drop index c.args.known.now)) key.0.now key.1.now) none
