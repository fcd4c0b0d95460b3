-- For proofs and private functions alone: which object each status of a book is of.
use Rattle.std.specs.Prelude.{◌≡◌, ℕ, List, slice_get, Some}
use Rattle.gate_objects.specs.declared.book.ObjectStatus.{ObjectStatus}

-- each status is of the object of its place
abbrev pub IsPlaced : List ObjectStatus → Type 0
IsPlaced statuses =
    (place : ℕ) (status : ObjectStatus) → slice_get statuses place ≡ Some status → status.object.place ≡ place
