-- The entries of the map that has the objects of a table, as their keys and their services.
use Rattle.std.proofs.Common.{◌≡◌, ℕ, zero, suc, Bool, List, [], ◌∷◌, ◌++◌, length, set, position, Some, None, refl, sym, ap, ◌∙◌}
use Rattle.std.specs.Global.{Vec}
use Rattle.std.specs.Prelude.{slice_get}
use Rattle.std.specs.List.{position_from, position_or_len}
use Rattle.std.specs.Map.{keys_of, values_of}
use Rattle.std.specs.Str.{bytes_eq}
use Rattle.std.proofs.lemmas.Iterator.Adapters.{position_from-zero}
use Rattle.std.proofs.lemmas.List.{map-append, length-map}
use Rattle.indexmap.specs.IndexMap.{IndexMap, insert_entry, set_value_at}
use Rattle.indexmap.proofs.CallerLemmas.{insert_entry-new}
use Rattle.indexmap.proofs.MapLemmas.{Missing-position}
use Rattle.gate_model.proofs.Lists.{none_is_not_some, some_is, position_from-map}
use Rattle.gate_table.specs.inner.NamedObjects.{shown_one, shown, row_at}

-- whether a key has these bytes
abbrev has : List ℕ → Vec ℕ → Bool
has bytes key = bytes_eq bytes key.items

-- the index of a key is its place
pub place_is : (bytes : List ℕ) (entries : List (Vec ℕ × Vec ℕ)) → position (has bytes) (keys_of entries) ≡ position_from (bytes_eq bytes) 0 (keys_of (shown entries))
place_is bytes entries =
    position_from-zero (has bytes) (keys_of entries)
    ∙ position_from-map (λ (one : Vec ℕ × Vec ℕ). one.0) (has bytes) 0 entries
    ∙ sym (position_from-map (λ (one : List ℕ × List ℕ). one.0) (bytes_eq bytes) 0 (shown entries) ∙ position_from-map shown_one (λ (one : List ℕ × List ℕ). bytes_eq bytes one.0) 0 entries)

abbrev are_equal : Vec ℕ → Vec ℕ → Bool
are_equal one other = bytes_eq one.items other.items

-- what no key has is missing from the map
missing : (bytes : List ℕ) (entries : List (Vec ℕ × Vec ℕ)) → position_from (bytes_eq bytes) 0 (keys_of (shown entries)) ≡ None → position (has bytes) (keys_of entries) ≡ None
missing bytes entries absent = place_is bytes entries ∙ absent

-- a new key has the number of those before it
pub place_of-new : (entries : List (Vec ℕ × Vec ℕ)) (owned : Vec ℕ) → position_from (bytes_eq owned.items) 0 (keys_of (shown entries)) ≡ None → position_or_len (are_equal owned) (keys_of entries) ≡ length (shown entries)
place_of-new entries owned absent =
    (Missing-position (are_equal owned) entries (missing owned.items entries absent)).or_len ∙ sym (length-map entries shown_one)

-- and goes last
pub entries-new : {S : Type 0} (all : IndexMap (Vec ℕ) (Vec ℕ) S) (owned listed : Vec ℕ) → position_from (bytes_eq owned.items) 0 (keys_of (shown all.entries)) ≡ None
    → shown (insert_entry are_equal all.entries owned listed) ≡ shown all.entries ++ (owned.items, listed.items) ∷ []
entries-new all owned listed absent =
    ap shown (insert_entry-new are_equal all owned listed (Missing-position (are_equal owned) all.entries (missing owned.items all.entries absent)).value)
    ∙ map-append shown_one all.entries ((owned, listed) ∷ [])

-- what is listed by index leaves the keys
pub keys-listed : (entries : List (Vec ℕ × Vec ℕ)) (place : ℕ) (row : Vec ℕ) → keys_of (shown (set_value_at entries place row)) ≡ keys_of (shown entries)
keys-listed [] place row = refl
keys-listed (one ∷ entries) zero row = refl
keys-listed (one ∷ entries) (suc place) row = ap (λ (rest : List (List ℕ)). one.0.items ∷ rest) (keys-listed entries place row)

-- and is listed there
pub rows-listed : (entries : List (Vec ℕ × Vec ℕ)) (place : ℕ) (row : Vec ℕ) → values_of (shown (set_value_at entries place row)) ≡ set (values_of (shown entries)) place row.items
rows-listed [] place row = refl
rows-listed (one ∷ entries) zero row = refl
rows-listed (one ∷ entries) (suc place) row = ap (λ (rest : List (List ℕ)). one.1.items ∷ rest) (rows-listed entries place row)

-- the row at an index
pub row_there : (entries : List (Vec ℕ × Vec ℕ)) (place : ℕ) (row : Vec ℕ) → slice_get (values_of entries) place ≡ Some row → row_at (values_of (shown entries)) place ≡ row.items
row_there [] place row e = absurd (none_is_not_some row e)
row_there (one ∷ entries) zero row e = ap (λ (v : Vec ℕ). v.items) (some_is one.1 row e)
row_there (one ∷ entries) (suc place) row e = row_there entries place row e
