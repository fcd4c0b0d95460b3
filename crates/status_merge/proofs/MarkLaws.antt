-- The objects without their marks are the list of the rows: `unmarked_lists`.
use Rattle.std.proofs.Common.{◌≡◌, ℕ, ◌+◌, Bool, false, List, [], ◌∷◌, map, refl, sym, ◌∙◌, ap, subst, inl, inr}
use Rattle.std.specs.List.{All, AllByRecursion, enumerate_from, flat_map, slice_index_or}
use Rattle.std.proofs.lemmas.List.Concat.{flat_map-cons}
use Rattle.std.proofs.lemmas.List.Elements.{All-contains, All-from_recursion, recursion_from_All}
use Rattle.status_reading.specs.declared.rows.ShownObject.{ShownObject}
use Rattle.status_merge.specs.declared.gateway.Gateway.{Gateway}
use Rattle.status_merge.specs.declared.gateway.MergedObject.{MergedObject}
use Rattle.status_merge.specs.Objects.{shown_by, objects_on, merged, has_host_out, with_hosts, unmarked, IsListOf}
use Rattle.status_merge.proofs.MergeLaws.{merged_lists}
use Rattle.status_merge.proofs.StateLaws.{joined, either}

abbrev IsUnmarked : MergedObject → Type 0
IsUnmarked object = object.host_is_out ≡ false

shown_rows : (gateway : Gateway) (moment index : ℕ) (rows : List ShownObject)
    → AllByRecursion IsUnmarked
    (map (λ (item : ℕ × ShownObject). shown_by gateway moment item.0 item.1) (enumerate_from index rows))
shown_rows gateway moment index [] = tt
shown_rows gateway moment index (row ∷ rows) = (refl, shown_rows gateway moment (index + 1) rows)

on_gateway : (gateway : Gateway) → AllByRecursion IsUnmarked (objects_on gateway)
on_gateway gateway = elim (either gateway.page) [
  | inl page ↦ rw page.1 (shown_rows gateway page.0.moment 0 page.0.objects.items)
  | inr fault ↦ rw fault.1 tt
]

all_rows : (gateways : List Gateway) → AllByRecursion IsUnmarked (flat_map objects_on gateways)
all_rows [] = tt
all_rows (gateway ∷ gateways) =
    rw (flat_map-cons objects_on gateway gateways)
    (joined IsUnmarked (objects_on gateway) (flat_map objects_on gateways) (on_gateway gateway) (all_rows gateways))

cleared : (mark : MergedObject → Bool) (objects : List MergedObject) → AllByRecursion IsUnmarked objects
    → map unmarked (map (λ (object : MergedObject). record object { host_is_out = mark object }) objects) ≡ objects
cleared mark [] all = refl
cleared mark (object ∷ objects) all =
    ap (λ (out : Bool). record object { host_is_out = out } ∷ map unmarked (map (λ (object : MergedObject). record object { host_is_out = mark object }) objects)) (sym all.0)
    ∙ ap (λ (rest : List MergedObject). object ∷ rest) (cleared mark objects all.1)

pub unmarked_lists : (gateways : List Gateway)
    → IsListOf (flat_map objects_on gateways) (map unmarked (with_hosts (merged (flat_map objects_on gateways))))
unmarked_lists gateways =
    let rows = flat_map objects_on gateways in
    let shown = merged rows in
    let lists = merged_lists rows in
    let all = All-from_recursion IsUnmarked rows (all_rows gateways) in
    let none : All IsUnmarked shown =
    λ k other inside. All-contains IsUnmarked rows (slice_index_or shown k other) all (lists.latest k other inside).0 in
    subst (IsListOf rows) (sym (cleared (has_host_out shown) shown (recursion_from_All IsUnmarked shown none))) lists
