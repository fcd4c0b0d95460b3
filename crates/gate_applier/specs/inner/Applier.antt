-- Only proofs and private functions use this: what an applier shows of its fields, and what always
-- holds of them.
use Rattle.std.specs.Prelude.{◌≡◌, ℕ, ◌+◌, ◌-◌, ◌≤◌, IsTrue, length, min, max, vec_len, vec_capacity}
use Rattle.gate_model.specs.Record.{AreInOrder}
use Rattle.gate_model.specs.Meaning.{outcomes_of, history_of}
use Rattle.gate_applier.specs.declared.applier.Applier.TheInside.{Inside}
use Rattle.gate_applier.specs.Applier.{ApplierView, is_limit}
use Rattle.gate_applier.specs.inner.Books.{events_of, room_of_books, BooksStand, IsOfTable}

-- how many more records fit in the memory that was taken for records, outcomes, comments and downtime entries
abbrev pub room_of : Inside → ℕ
room_of applier =
    min
    (min (vec_capacity applier.records - vec_len applier.records)
    (vec_capacity applier.outcomes - vec_len applier.outcomes))
    (room_of_books applier.books)

-- what an applier shows
abbrev pub view_of : Inside → ApplierView
view_of applier = record {
  table = applier.table;
  opening = applier.opening;
  moment = applier.moment;
  limit = applier.limit;
  records = applier.records.items;
  outcomes = applier.outcomes.items;
  room = room_of applier;
}

-- the memory of a list of so many is within the limit, and has room for as many again at most, or
-- for 16
pub record IsModest (limit count capacity : ℕ) : Type 0 where
  pub within_limit : capacity ≤ limit
  pub modest : capacity ≤ count + max 16 count

-- the records are in order and within their limit, the outcomes and the books are theirs, and the
-- memory of both lists is modest
pub record IsSound (applier : Inside) : Type 0 where
  pub limited : IsTrue (is_limit applier.limit)
  pub few : length applier.records.items ≤ applier.limit
  pub in_order : AreInOrder applier.opening applier.records.items applier.moment
  pub outcomes_are : applier.outcomes.items ≡ outcomes_of applier.table applier.records.items
  pub of_table : IsOfTable applier.table applier.opening applier.books
  pub books_stand
      : BooksStand (events_of applier.table
      (history_of applier.table applier.records.items)) applier.moment applier.books
  pub records_modest
      : IsModest applier.limit (vec_len applier.records) (vec_capacity applier.records)
  pub outcomes_modest
      : IsModest applier.limit (vec_len applier.outcomes) (vec_capacity applier.outcomes)
