-- Each object of sound pages has a state of its kind: `own_states`.
use Rattle.std.proofs.Common.{◌≡◌, ℕ, ◌+◌, ◌==◌, Bool, true, false, not, if◌then◌else◌, List, [], ◌∷◌, ◌++◌, map, append_assoc, Option, Some, None, Result, Ok, Err, ◌⊎◌, inl, inr, refl}
use Rattle.std.specs.List.{All, AllByRecursion, enumerate_from, flat_map, slice_index_or}
use Rattle.std.proofs.lemmas.List.Concat.{flat_map-cons}
use Rattle.std.proofs.lemmas.List.Elements.{All-contains, All-from_recursion, All-map, recursion_from_All}
use Rattle.gate_model.specs.declared.object.ObjectLine.{ObjectLine}
use Rattle.gate_model.specs.Table.{object_kind}
use Rattle.status_reading.specs.declared.row_faults.RowFault.{RowFault}
use Rattle.status_reading.specs.declared.row_faults.RowFault.TheVariants.{WrongState, WrongDepth}
use Rattle.status_reading.specs.declared.rows.ShownObject.{ShownObject}
use Rattle.status_reading.specs.Rows.{ObjectView, DowntimeView, object_view, page_view}
use Rattle.status_reading.specs.RowFaults.{service_name, is_state_of, active_at, object_fault, table_of, comment_names, downtime_names, id_faults, first_from, IsSound}
use Rattle.status_merge.specs.declared.gateway.Gateway.{Gateway}
use Rattle.status_merge.specs.declared.gateway.MergedObject.{MergedObject}
use Rattle.status_merge.specs.Objects.{shown_by, objects_on, merged, has_host_out, with_hosts, HasOwnState, HasSoundPage}
use Rattle.status_merge.proofs.MergeLaws.{merged_lists}

-- ---- one page

abbrev Own : ShownObject → Type 0
Own row = is_state_of row.last (object_kind (service_name row.service.now)) row.state ≡ true

first_row : (own deep : Bool) (line : ℕ) (rest : List (Option RowFault))
    → first_from line ((if not own then Some WrongState else (if deep then None else Some WrongDepth)) ∷ rest) ≡ None
    → (own ≡ true) × (first_from (line + 1) rest ≡ None)
first_row true true line rest e = (refl, e)
first_row true false line rest e = cc
first_row false deep line rest e = cc

page_states : (table : List ObjectLine) (downtimes : List DowntimeView) (index line : ℕ) (rows : List ShownObject)
    (rest : List (Option RowFault))
    → first_from line
    (map (λ (one : ℕ × ObjectView). object_fault (active_at table downtimes one.0) one.1)
    (enumerate_from index (map object_view rows)) ++ rest)
    ≡ None
    → AllByRecursion Own rows
page_states table downtimes index line [] rest e = tt
page_states table downtimes index line (row ∷ rows) rest e =
    let here = first_row (is_state_of row.last (object_kind (service_name row.service.now)) row.state)
    (row.depth == active_at table downtimes index) line
    (map (λ (one : ℕ × ObjectView). object_fault (active_at table downtimes one.0) one.1)
    (enumerate_from (index + 1) (map object_view rows)) ++ rest) e in
    (here.0, page_states table downtimes (index + 1) (line + 1) rows rest here.1)

shown_states : (gateway : Gateway) (moment index : ℕ) (rows : List ShownObject) → AllByRecursion Own rows
    → AllByRecursion HasOwnState
    (map (λ (item : ℕ × ShownObject). shown_by gateway moment item.0 item.1) (enumerate_from index rows))
shown_states gateway moment index [] own = tt
shown_states gateway moment index (row ∷ rows) own = (own.0, shown_states gateway moment (index + 1) rows own.1)

-- ---- all pages

pub joined : {X : Type 0} (P : X → Type 0) (one other : List X) → AllByRecursion P one → AllByRecursion P other
    → AllByRecursion P (one ++ other)
joined P [] other first second = second
joined P (x ∷ one) other first second = (first.0, joined P one other first.1 second)

pub either : {X E : Type 0} (found : Result X E) → ((x : X) × (found ≡ Ok x)) ⊎ ((e : E) × (found ≡ Err e))
either (Ok x) = inl (x, refl)
either (Err e) = inr (e, refl)

on_gateway : (gateway : Gateway) → HasSoundPage gateway → AllByRecursion HasOwnState (objects_on gateway)
on_gateway gateway sound = elim (either gateway.page) [
  | inl page ↦
      let is_sound : IsSound (page_view page.0) = rw page.1 at sound in
      let view = page_view page.0 in
      let table = table_of view in
      rw page.1
      (shown_states gateway page.0.moment 0 page.0.objects.items
      (page_states table view.downtimes 0 2 page.0.objects.items
      (id_faults table 0 (map comment_names view.comments) ++ id_faults table 0 (map downtime_names view.downtimes))
      (simp append_assoc at is_sound.rows)))
  | inr fault ↦ rw fault.1 tt
]

all_states : (gateways : List Gateway) → AllByRecursion HasSoundPage gateways
    → AllByRecursion HasOwnState (flat_map objects_on gateways)
all_states [] sound = tt
all_states (gateway ∷ gateways) sound =
    rw (flat_map-cons objects_on gateway gateways)
    (joined HasOwnState (objects_on gateway) (flat_map objects_on gateways) (on_gateway gateway sound.0)
    (all_states gateways sound.1))

pub own_states : (gateways : List Gateway) → All HasSoundPage gateways
    → All HasOwnState (with_hosts (merged (flat_map objects_on gateways)))
own_states gateways sound =
    let rows = flat_map objects_on gateways in
    let own = All-from_recursion HasOwnState rows (all_states gateways (recursion_from_All HasSoundPage gateways sound)) in
    let shown = merged rows in
    All-map HasOwnState (λ (object : MergedObject). record object { host_is_out = has_host_out shown object }) shown
    (λ k other inside. All-contains HasOwnState rows (slice_index_or shown k other) own ((merged_lists rows).latest k other inside).0)
