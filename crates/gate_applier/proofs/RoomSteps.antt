-- What the memory for a list is after it is taken, and after one more element; records at a later moment.
use Rattle.std.proofs.Common.{◌≡◌, ℕ, ◌+◌, ◌-◌, ◌≤◌, List, min, arith}
use Rattle.gate_model.specs.declared.record.Moment.{Moment}
use Rattle.gate_model.specs.declared.record.Record.{Record}
use Rattle.gate_model.specs.Record.{later, AreInOrder}
use Rattle.std.specs.Prelude.{Result, Ok, Err, OnErr}
use Rattle.gate_applier.specs.inner.Applier.{IsModest}

-- one more element
pub modest-pushed : (limit count capacity : ℕ) → IsModest limit count capacity → IsModest limit (count + 1) capacity
modest-pushed limit count capacity is = record {
  within_limit = is.within_limit;
  modest = omega (arith, is.modest);
}

-- the records are in order at a later moment too
pub in_order-later : (opening : Moment) (records : List Record) (moment now : Moment) → AreInOrder opening records moment → AreInOrder opening records (later moment now)
in_order-later opening records moment now order = record {
  opened = omega (arith, order.opened);
  since_opening = order.since_opening;
  never_decreasing = order.never_decreasing;
  come = λ index applied within. omega (arith, order.come index applied within);
}

-- a list that is full leaves no room
pub no-room : (count capacity outcomes books room : ℕ) → capacity ≤ count → min (min (capacity - count) outcomes) books ≡ room → 1 ≤ room → ⊥
no-room count capacity outcomes books room full is some = omega arith

-- what holds at all holds on a fault
pub on-err : {T E P : Type 0} (result : Result T E) → P → OnErr result P
on-err (Ok value) holds = record {}
on-err (Err fault) holds = holds
