-- The stale statuses of a book are those of its history.
use Rattle.std.proofs.Common.{◌≡◌, ℕ, ◌+◌, Bool, cond, ◌&&◌, List, [], ◌∷◌, map, refl, sym, ap, ◌∙◌, Some, suc}
use Rattle.std.specs.Prelude.{slice_get, filter, nat_lt}
use Rattle.std.proofs.lemmas.Option.{slice_get_within}
use Rattle.gate_model.specs.declared.record.Moment.{Moment}
use Rattle.gate_model.specs.declared.status.ObjectEvent.{ObjectEvent}
use Rattle.gate_model.specs.Status.{last_result, heard_at, is_stale}
use Rattle.gate_objects.specs.declared.book.ObjectStatus.{ObjectStatus}
use Rattle.gate_objects.specs.ObjectStatus.{is_stale_status}
use Rattle.gate_objects.specs.Book.{last_of_status, stale_objects}
use Rattle.gate_objects.specs.inner.Placing.{IsPlaced}
use Rattle.gate_objects.specs.Standing.{IsStanding, stale_after}

-- a status that passes one test alone is taken out or left by both
filter_alike : (p q : ObjectStatus → Bool) (statuses : List ObjectStatus)
    → ((place : ℕ) (status : ObjectStatus) → slice_get statuses place ≡ Some status → p status ≡ q status) → filter p statuses ≡ filter q statuses
filter_alike p q [] same = refl
filter_alike p q (status ∷ statuses) same =
    ap (λ b. cond b (status ∷ filter p statuses) (filter p statuses)) (same 0 status refl)
    ∙ ap (λ rest. cond (q status) (status ∷ rest) rest) (filter_alike p q statuses (λ place one at. same (suc place) one at))

pub stale-standing : (opening : Moment) (statuses : List ObjectStatus) (history : List ObjectEvent) (moment : Moment) → IsPlaced statuses
    → IsStanding (record { opening = opening; statuses = statuses }) history
    → stale_objects opening moment statuses ≡ stale_after (record { opening = opening; statuses = statuses }) history moment
stale-standing opening statuses history moment placed stands =
    ap (map (λ (status : ObjectStatus). status.object))
    (filter_alike (is_stale_status opening moment) (λ (status : ObjectStatus). is_stale opening status.threshold status.object.place history moment) statuses
    (λ place status at.
    let last : status.last ≡ last_result place history = sym (ap last_of_status at) ∙ stands.last_is place (slice_get_within statuses place status at) in
    ap (λ l. nat_lt 0 status.threshold && nat_lt (heard_at opening l + status.threshold) moment.0)
    (last ∙ ap (λ n. last_result n history) (sym (placed place status at)))))
