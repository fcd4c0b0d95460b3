-- What the proofs of private functions alone need: the names of rows, and one more row beside the one shown of each name.
use Rattle.std.specs.Prelude.{ℕ, ◌&&◌, Bool, if◌then◌else◌, List, [], ◌∷◌, ◌++◌, set, get_or}
use Rattle.std.specs.Borrow.{Bor}
use Rattle.std.specs.Str.{bytes_eq}
use Rattle.status_merge.specs.declared.gateway.MergedObject.{MergedObject}
use Rattle.status_merge.specs.Objects.{counted_age, is_younger}

-- the names of an object's host and service
abbrev pub Name : Type 0
Name = Bor (List ℕ) × Bor (List ℕ)

abbrev pub same_key : Name → Name → Bool
same_key one other = bytes_eq one.0.now other.0.now && bytes_eq one.1.now other.1.now

abbrev pub key_of : MergedObject → Name
key_of object = (object.row.host, object.row.service)

-- a row, or the one that is known, where the row's last result is no younger
abbrev pub newer : MergedObject → MergedObject → MergedObject
newer row known = if is_younger (counted_age row) (counted_age known) then row else known

-- the rows with one more: last where its name is new, and else at the place of its name
abbrev pub with_row : List MergedObject → ℕ → Bool → MergedObject → List MergedObject
with_row shown place is_new row =
    if is_new then shown ++ row ∷ [] else set shown place (newer row (get_or shown place row))
