-- What applying leaves as it is, and the moments at which records stand. Own rules.
use Rattle.std.specs.Prelude.{◌≡◌, List, [], ◌∷◌, ◌++◌, All, map, Option, Some, None}
use Rattle.gate_model.specs.declared.record.Moment.{Moment}
use Rattle.gate_model.specs.declared.record.Record.{Record}
use Rattle.gate_model.specs.declared.submission.Numbered.{Numbered}
use Rattle.gate_model.specs.Record.{items_of_records, later}
use Rattle.gate_applier.specs.Applier.{ApplierView}
use Rattle.gate_queue.specs.Gate.{GateId}
use Rattle.gate_queue.specs.Taker.{TakerState}
use Rattle.gate_environment.specs.Clock.{Takes, ClockState}

-- it is a log of the same table and limit, opened at the same moment
pub record IsSameLog (old new : ApplierView) : Type 0 where
  pub table : new.table ≡ old.table
  pub opening : new.opening ≡ old.opening
  pub limit : new.limit ≡ old.limit

-- what an applier's clock read, and the item that was applied then, if any
pub record Reading : Type 0 where
  pub moment : Moment
  pub item : Option Numbered

-- the moments that were read, in order
abbrev pub moments_of : List Reading → List Moment
moments_of readings = map (λ reading. reading.moment) readings

-- the latest of this moment and of the readings
abbrev pub latest_of : Moment → List Reading → Moment
latest_of moment [] = moment
latest_of moment (reading ∷ readings) = latest_of (later moment reading.moment) readings

-- the item's record of this moment, if there is an item
abbrev pub record_at : Moment → Option Numbered → List Record
record_at moment None = []
record_at moment (Some item) = (record { moment = moment; item = item }) ∷ []

-- the records of the items, in order: each stands at the later of its reading and the applier's moment then
abbrev pub records_by : Moment → List Reading → List Record
records_by moment [] = []
records_by moment (reading ∷ readings) =
    record_at (later moment reading.moment) reading.item ++ records_by (later moment reading.moment) readings

-- the clock was read, the old records are followed by those of these readings, and the applier's moment is the latest
pub record GoesByClock (before after : ClockState) (old new : ApplierView) : Type 0 where
  pub readings : List Reading
  pub taken : Takes before.readings after.readings (moments_of readings)
  pub shown : All before.shows (moments_of readings)
  pub stays : (moment : Moment) → after.shows moment → before.shows moment
  pub records : new.records ≡ old.records ++ records_by old.moment readings
  pub moment : new.moment ≡ latest_of old.moment readings

-- an applier opened at a moment that a clock may show, its records stand at such moments, and so does the applier
pub record AreShown (shows : Moment → Type 0) (applier : ApplierView) : Type 0 where
  pub opening : shows applier.opening
  pub records : All (λ (applied : Record). shows applied.moment) applier.records
  pub moment : shows applier.moment

-- the taker of this gate took what was applied, and no client in
pub record IsApplied (gate : GateId) (taker : TakerState) (applier : ApplierView) : Type 0 where
  pub of_gate : taker.gate ≡ gate
  pub none_in : taker.ended ≡ []
  pub applied : items_of_records applier.records ≡ taker.taken
