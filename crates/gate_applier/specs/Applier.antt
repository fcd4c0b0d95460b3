-- What an applier shows, and what applying an item leaves. Own rule: the limits of a log.
use Rattle.std.specs.Prelude.{◌≡◌, ◌≤◌, ◌+◌, ℕ, Bool, ◌&&◌, nat_le, List, [], ◌∷◌, ◌++◌}
use Rattle.gate_model.specs.declared.record.Moment.{Moment}
use Rattle.gate_model.specs.declared.object.ObjectLine.{ObjectLine}
use Rattle.gate_model.specs.declared.record.Record.{Record}
use Rattle.gate_model.specs.declared.record.Outcome.{Outcome}
use Rattle.gate_model.specs.declared.submission.Numbered.{Numbered}
use Rattle.gate_model.specs.Record.{later}
use Rattle.gate_model.specs.Meaning.{outcome_after}

-- what an applier shows: what it was opened with, its moment, the records that were applied with
-- their outcomes, and how many more records it can take with no more memory
pub record ApplierView : Type 0 where
  pub table : List ObjectLine
  pub opening : Moment
  pub moment : Moment
  pub limit : ℕ
  pub records : List Record
  pub outcomes : List Outcome
  pub room : ℕ

-- a log may be limited to so many records
abbrev pub is_limit : ℕ → Bool
is_limit limit = nat_le 1 limit && nat_le limit 1000000

-- an applier that was opened at this moment, and has no record yet
abbrev pub opened : List ObjectLine → Moment → ℕ → ApplierView
opened table moment limit = record {
  table = table;
  opening = moment;
  moment = moment;
  limit = limit;
  records = [];
  outcomes = [];
  room = 0;
}

-- the item was applied with this outcome, at this moment or the applier's, whichever is later: it took the room of one
-- record at most
pub record Applies (old new : ApplierView) (item : Numbered) (now : Moment) (outcome : Outcome) : Type 0 where
  pub outcome_is : outcome ≡ outcome_after old.table old.records (later old.moment now) item.body
  pub records : new.records ≡ old.records ++ (record { moment = later old.moment now; item = item }) ∷ []
  pub outcomes : new.outcomes ≡ old.outcomes ++ outcome ∷ []
  pub moment : new.moment ≡ later old.moment now
  pub room : old.room ≤ new.room + 1
  pub table : new.table ≡ old.table
  pub opening : new.opening ≡ old.opening
  pub limit : new.limit ≡ old.limit
