-- What one more record changes in the order of moments.
use Rattle.std.proofs.Common.{◌≡◌, ◌-◌, ◌≤◌, suc, zero, List, [], ◌∷◌, ◌++◌, length, max, ap, arith}
use Rattle.std.specs.Prelude.{All}
use Rattle.std.proofs.lemmas.List.Elements.{All-append}
use Rattle.std.proofs.lemmas.List.Sorted.{IsNonDecreasingBy-short, IsNonDecreasingBy-push}
use Rattle.gate_model.specs.declared.record.Moment.{Moment}
use Rattle.gate_model.specs.declared.record.Record.{Record}
use Rattle.gate_model.specs.Record.{later, AreInOrder}

-- before any record
pub in_order-opened : (opening : Moment) → AreInOrder opening [] opening
in_order-opened opening = record {
  opened = omega arith;
  since_opening = λ index applied within. omega (arith, within);
  never_decreasing = IsNonDecreasingBy-short (λ (applied : Record). applied.moment.0) [] (omega arith);
  come = λ index applied within. omega (arith, within);
}

All-one : {A : Type 0} (P : A → Type 0) (x : A) → P x → All P (x ∷ [])
All-one P x p zero other within = p
All-one P x p (suc index) other within = let none : ⊥ = omega (arith, within) in absurd none

-- a record at the later of the moment so far and the clock's
pub in_order-apply : (opening : Moment) (records : List Record) (moment now : Moment) (applied : Record)
    → applied.moment ≡ later moment now
    → AreInOrder opening records moment → AreInOrder opening (records ++ applied ∷ []) applied.moment
in_order-apply opening records moment now applied is order =
    let at : applied.moment.0 ≡ max moment.0 now.0 = ap (λ (m : Moment). m.0) is in
    record {
      opened = omega (arith, at, order.opened);
      since_opening =
          All-append (λ (one : Record). opening.0 ≤ one.moment.0) records (applied ∷ []) order.since_opening
          (All-one (λ (one : Record). opening.0 ≤ one.moment.0) applied (omega (arith, at, order.opened)));
      never_decreasing =
          IsNonDecreasingBy-push (λ (one : Record). one.moment.0) records applied order.never_decreasing
          (λ other some. omega (arith, at, order.come (length records - 1) other (omega (arith, some))));
      come =
          All-append (λ (one : Record). one.moment.0 ≤ applied.moment.0) records (applied ∷ [])
          (λ index other within. omega (arith, at, order.come index other within))
          (All-one (λ (one : Record). one.moment.0 ≤ applied.moment.0) applied (omega arith));
    }
