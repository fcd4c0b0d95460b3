use Rattle.std.proofs.Common.{rules, ap, sym, ◌∙◌, map-id}
use Rattle.std.proofs.iter.Yields.{fronts}
use Rattle.std.proofs.lemmas.Iterator.{YieldsList-from_slice}
use Rattle.std.proofs.lemmas.Iterator.Consumers.{YieldsList-from_copied}
use Rattle.std.proofs.lemmas.List.Sorted.{answers_always}
use Rattle.std.proofs.lemmas.Result.{IfOk-weaker}
use Rattle.itertools.proofs.AdaptorLemmas.{items_from_whole_run}
use Rattle.status_merge.specs.Groups.{firsts}
use Rattle.status_merge.proofs.groups.firsts.Goals as goal

pub returns : goal.returns
returns g c =
    let slice = YieldsList-from_slice {s = c.iter.result} c.args.rows.now (search rules) in
    let road = YieldsList-from_copied {steps = fronts} {s = c.copied.result} (rw c.copied.ensures.source slice) in
    IfOk-weaker c.unique_by.result _ _
    (λ found run.
    let items = sym (map-id run.0.items) ∙ items_from_whole_run road run.0 run.1 run.2 in
    run.3 g.R.Keyed.key_of (answers_always _ _ _ (λ f a r after called. search rules)) ∙ ap (λ rows. firsts (λ one other. g.R.Key.PartialEq.eq (g.R.Keyed.key_of one) (g.R.Keyed.key_of other)) rows) items)
    c.unique_by.ensures.items
