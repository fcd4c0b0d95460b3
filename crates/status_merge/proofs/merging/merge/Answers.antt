use Rattle.std.proofs.Common.{◌≡◌, List, map, subst, sym, ap, ◌∙◌}
use Rattle.std.specs.List.{All, flat_map}
use Rattle.std.proofs.lemmas.Result.{IfOk-weaker}
use Rattle.status_merge.specs.declared.gateway.MergedObject.{MergedObject}
use Rattle.status_merge.specs.Objects.{objects_on, merged, with_hosts, unmarked, IsListOf, HasOwnState}
use Rattle.status_merge.proofs.MarkLaws.{unmarked_lists}
use Rattle.status_merge.proofs.StateLaws.{own_states}
use Rattle.status_merge.proofs.merging.merge.Goals as goal

pub returns-clause-lists : goal.returns-clause-lists
returns-clause-lists c =
    let rows = flat_map objects_on c.args.gateways.now in
    let all : c.as_slice-2.result.now ≡ merged rows =
    c.as_slice-2.ensures.value ∙ c.in_ok-merged.ensures ∙ ap merged (c.as_slice.ensures.value ∙ c.in_ok-rows.ensures) in
    IfOk-weaker c.with_hosts.result _ _
    (λ found is. subst (λ (objects : List MergedObject). IsListOf rows (map unmarked objects)) (sym (is ∙ ap with_hosts all))
    (unmarked_lists c.args.gateways.now))
    c.with_hosts.ensures

pub returns-clause-own : goal.returns-clause-own
returns-clause-own c =
    let rows = flat_map objects_on c.args.gateways.now in
    let all : c.as_slice-2.result.now ≡ merged rows =
    c.as_slice-2.ensures.value ∙ c.in_ok-merged.ensures ∙ ap merged (c.as_slice.ensures.value ∙ c.in_ok-rows.ensures) in
    IfOk-weaker c.with_hosts.result _ _
    (λ found is sound. subst (All HasOwnState) (sym (is ∙ ap with_hosts all)) (own_states c.args.gateways.now sound))
    c.with_hosts.ensures
