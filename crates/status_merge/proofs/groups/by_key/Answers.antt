use Rattle.std.proofs.Common.{rules, [], ap, sym, ◌∙◌, map-id, unwrap_or}
use Rattle.std.proofs.iter.Yields.{fronts}
use Rattle.std.proofs.lemmas.Iterator.{YieldsList-from_slice}
use Rattle.std.proofs.lemmas.Iterator.Consumers.{YieldsList-from_copied}
use Rattle.std.proofs.lemmas.List.Sorted.{answers_always}
use Rattle.std.proofs.lemmas.Result.{IfOk-weaker}
use Rattle.itertools.proofs.AdaptorLemmas.{items_from_whole_run}
use Rattle.itertools.specs.Consumer.{group_of, keyed}
use Rattle.status_merge.proofs.GroupSteps.{group-filter}
use Rattle.status_merge.proofs.groups.by_key.Goals as goal

pub returns : goal.returns
returns g c =
    let slice = YieldsList-from_slice {s = c.iter.result} c.args.rows.now (search rules) in
    let road = YieldsList-from_copied {steps = fronts} {s = c.copied.result} (rw c.copied.ensures.source slice) in
    let eq = g.R.Key.PartialEq.eq in
    let key_of = g.R.Keyed.key_of in
    IfOk-weaker c.into_group_map_by.result _ _
    (λ found run key.
    let items = sym (map-id run.0.items) ∙ items_from_whole_run road run.0 run.1 run.2 in
    ap (λ o. unwrap_or o [])
    (run.3 key_of (answers_always _ _ _ (λ f a r after called. search rules)) key ∙ ap (λ rows. group_of eq (keyed key_of rows) key) items)
    ∙ group-filter eq key_of key c.args.rows.now)
    c.into_group_map_by.ensures.grouped
