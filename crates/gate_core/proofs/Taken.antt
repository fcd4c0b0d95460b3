-- How many items a World's clients queued, and so how many were taken.
use Rattle.std.proofs.Common.{◌≡◌, ℕ, suc, ◌+◌, ◌<◌, List, [], ◌∷◌, ◌++◌, length, Some, refl, sym, ap, ◌∙◌, arith, length-append}
use Rattle.std.specs.Prelude.{slice_get, sum_by}
use Rattle.std.proofs.lemmas.Option.{slice_get_within}
use Rattle.std.proofs.lemmas.List.Sums.{sum_by-cons}
use Rattle.gate_core.specs.declared.world.Seat.{Seat}
use Rattle.gate_core.specs.Merge.{of_client}
use Rattle.gate_core.specs.Legal.{Run, queued, taken, waiting}
use Rattle.gate_core.specs.State.{WorldState, taken_count, seat_after, StandsAfter}
use Rattle.gate_core.proofs.Counts.{total, total_same, length_by_client}
use Rattle.gate_core.proofs.Runs.{sound}

abbrev count_of : Seat → ℕ
count_of seat = seat.count

-- the counts of seats, of which the first is that of client k + 1, added up
sum_from : (f : ℕ → ℕ) (k : ℕ) (seats : List Seat) → ((index : ℕ) (seat : Seat) → slice_get seats index ≡ Some seat → seat.count ≡ f (suc (k + index))) → sum_by count_of seats + total f k ≡ total f (k + length seats)
sum_from f k [] h = let same : k ≡ k + 0 = omega arith in let totals : total f k ≡ total f (k + 0) = ap (total f) same in omega arith
sum_from f k (seat ∷ seats) h =
    let step : sum_by count_of (seat ∷ seats) ≡ seat.count + sum_by count_of seats = sum_by-cons count_of seat seats in
    let first : suc (k + 0) ≡ suc k = omega arith in
    let here : seat.count ≡ f (suc k) = h 0 seat refl ∙ ap f first in
    let rest : sum_by count_of seats + total f (suc k) ≡ total f (suc k + length seats) =
    sum_from f (suc k) seats (λ index s e. let next : suc (k + suc index) ≡ suc (suc k + index) = omega arith in h (suc index) s e ∙ ap f next) in
    let last : suc k + length seats ≡ k + length (seat ∷ seats) = omega arith in
    let same : total f (suc k + length seats) ≡ total f (k + length (seat ∷ seats)) = ap (total f) last in
    omega (arith, step, here, rest, same)

-- what a World shows as taken is what was taken
pub taken_count_is : (world : WorldState) (run : Run) → StandsAfter world run → taken_count world ≡ length (taken run)
taken_count_is world run h =
    let f : ℕ → ℕ = λ c. length (queued c run) in
    let n : ℕ = world.limits.clients in
    let whole = sound world.limits run h.legal in
    let counts : sum_by count_of world.seats + total f 0 ≡ total f (0 + length world.seats) = sum_from f 0 world.seats (λ index seat e.
    let low : index < length world.seats = slice_get_within world.seats index seat e in
    let within : index < n = omega (arith, h.seat_count_is) in
    let is : Some (seat_after (index + 1) run) ≡ Some seat = sym (h.seats_are index within) ∙ e in
    let seat_is : seat_after (index + 1) run ≡ seat = cc in
    let next : index + 1 ≡ suc (0 + index) = omega arith in
    ap count_of (sym seat_is) ∙ ap f next) in
    let all : length (taken run ++ waiting run) ≡ total f n = length_by_client n (taken run ++ waiting run) whole.state.merge.clients ∙ total_same (λ c. length (of_client c (taken run ++ waiting run))) f n (λ c i. ap length (whole.state.merge.each c i)) in
    let seats : 0 + length world.seats ≡ n = omega (arith, h.seat_count_is) in
    let totals : total f (0 + length world.seats) ≡ total f n = ap (total f) seats in
    let waits : length world.queue ≡ length (waiting run) = ap length h.queue_is in
    omega (arith, counts, all, totals, waits, length-append (taken run) (waiting run))
