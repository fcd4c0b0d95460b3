-- What stands in the statuses after one of them is written.
use Rattle.std.proofs.Common.{◌≡◌, ◌≢◌, ℕ, ◌<◌, Bool, List, length, get_or, set, Option, Some, refl, sym, ap, ◌∙◌, inl, inr, arith}
use Rattle.std.specs.Prelude.{slice_get}
use Rattle.std.proofs.Math.ListN.{length-set}
use Rattle.std.proofs.lemmas.List.{get_or-set_same, get_or-set_other}
use Rattle.std.proofs.lemmas.Option.{slice_get-get_or, slice_get_read, slice_get_within}
use Rattle.std.proofs.lemmas.Bool.Decides.{eqb_tells}
use Rattle.std.proofs.lemmas.Int.{to_z-of_z}
use lib.IntN.{ℤ}
use mir.Val.{to_z, of_z, SFits}
use mir.Syntax.{w16}
use Rattle.gate_model.specs.declared.record.Moment.{Moment}
use Rattle.gate_model.specs.declared.object.Kind.{Kind}
use Rattle.gate_model.specs.declared.state.State.{State}
use Rattle.gate_model.specs.State.{state_of_code}
use Rattle.gate_objects.specs.declared.book.ObjectStatus.{ObjectStatus}
use Rattle.gate_objects.specs.declared.book.Change.{Change}
use Rattle.gate_objects.specs.ObjectStatus.{is_transition_of, is_clearing_of}
use Rattle.gate_objects.specs.Book.{ObjectsView, with_status, with_status_at, shown_change, change_of_status}
use Rattle.gate_objects.specs.inner.Placing.{IsPlaced}

-- the status that was read stands at its place
pub status_at : (statuses : List ObjectStatus) (place : ℕ) (status : ObjectStatus) → place < length statuses → status ≡ get_or statuses place status → slice_get statuses place ≡ Some status
status_at statuses place status within is = slice_get_read statuses (length statuses) place status refl within is

pub written_here : (statuses : List ObjectStatus) (place : ℕ) (new : ObjectStatus) → place < length statuses → slice_get (set statuses place new) place ≡ Some new
written_here statuses place new within =
    let inside : place < length (set statuses place new) = omega (arith, within, length-set statuses place new) in
    slice_get-get_or (set statuses place new) place new inside ∙ ap Some (get_or-set_same statuses place new new within)

pub written_elsewhere : (statuses : List ObjectStatus) (place other : ℕ) (new : ObjectStatus) → other ≢ place → other < length statuses
    → slice_get (set statuses place new) other ≡ slice_get statuses other
written_elsewhere statuses place other new apart within =
    let inside : other < length (set statuses place new) = omega (arith, within, length-set statuses place new) in
    slice_get-get_or (set statuses place new) other new inside
    ∙ ap Some (get_or-set_other statuses place other new new apart)
    ∙ sym (slice_get-get_or statuses other new within)

-- a book with one status written is the book with that status changed
pub written_book : (change : ObjectStatus → ObjectStatus) (opening : Moment) (statuses : List ObjectStatus) (place : ℕ) (status new : ObjectStatus)
    → place < length statuses → status ≡ get_or statuses place status → new ≡ change status
    → (let book : ObjectsView = record { opening = opening; statuses = set statuses place new } in book) ≡ with_status change (record { opening = opening; statuses = statuses }) place
written_book change opening statuses place status new within is made =
    ap (λ (one : ObjectStatus). let book : ObjectsView = record { opening = opening; statuses = set statuses place one } in book) made
    ∙ sym (ap (λ (found : Option ObjectStatus). let book : ObjectsView = record { opening = opening; statuses = with_status_at change statuses place found } in book) (status_at statuses place status within is))

-- each status still has the object of its place
pub placed-written : (statuses : List ObjectStatus) (place : ℕ) (status new : ObjectStatus) → place < length statuses → status ≡ get_or statuses place status → new.object ≡ status.object
    → IsPlaced statuses → IsPlaced (set statuses place new)
placed-written statuses place status new within is same placed = λ other one at.
    let inside : other < length statuses = omega (arith, slice_get_within (set statuses place new) other one at, length-set statuses place new) in
    elim (eqb_tells other place) [
      | inl w ↦
          let here : slice_get statuses place ≡ Some status = status_at statuses place status within is in
          let found : slice_get (set statuses place new) place ≡ Some one = ap (λ n. slice_get (set statuses place new) n) (sym w.1) ∙ at in
          let new_is : one ≡ new = some_is one new (sym found ∙ written_here statuses place new within) in
          ap (λ (x : ObjectStatus). x.object.place) new_is ∙ ap (λ o. o.place) same ∙ placed place status here ∙ sym w.1
      | inr w ↦ placed other one (sym (written_elsewhere statuses place other new w.1 inside) ∙ at)
    ]
  where
    some_is : (x y : ObjectStatus) → Some x ≡ Some y → x ≡ y
    some_is x y e = cc

-- what a result brings about, by the status that was read
pub change_read : (opening : Moment) (statuses : List ObjectStatus) (place : ℕ) (status : ObjectStatus) (state : State) (transition cleared : Bool)
    → place < length statuses → status ≡ get_or statuses place status → transition ≡ is_transition_of status state → cleared ≡ is_clearing_of status state
    → (let change : Change = record { transition = transition; cleared = cleared } in change) ≡ shown_change (record { opening = opening; statuses = statuses }) place state
change_read opening statuses place status state transition cleared within is transits clears =
    ap (λ (b : Bool). let change : Change = record { transition = b; cleared = cleared } in change) transits
    ∙ ap (λ (b : Bool). let change : Change = record { transition = is_transition_of status state; cleared = b } in change) clears
    ∙ sym (ap (change_of_status state) (status_at statuses place status within is))

-- a code that was passed on
pub passed_code : (kind : Kind) (code : ℤ) (state : State) → SFits w16 code → state ≡ state_of_code kind (to_z w16 (of_z w16 code)) → state ≡ state_of_code kind code
passed_code kind code state fits is = is ∙ ap (state_of_code kind) (to_z-of_z w16 code fits)
