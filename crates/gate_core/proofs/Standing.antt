-- A World that stands after a run stands after one more event and its reply.
use Rattle.std.proofs.Common.{◌≡◌, ◌≢◌, ◌⊎◌, ℕ, ◌+◌, ◌-◌, ◌<◌, ◌≤◌, Some, None, Bool, true, false, not, ◌&&◌, cond, eqb, eq-eqb, ne_eqb, refl, sym, ap, ◌∙◌, inl, inr, ⊎_elim, arith}
use Rattle.std.specs.Prelude.{slice_get, nat_le}
use Rattle.std.proofs.lemmas.Bool.{le-leb, leb-true, leb-false}
use Rattle.std.proofs.Math.Dec.{leb}
use Rattle.std.proofs.lemmas.Option.{slice_get_past}
use mathlib.Core.Logic.{dite}
use native.Mathlib.Decide.{ℕ_discrete}
use Rattle.gate_core.specs.declared.world.Seat.{Seat}
use Rattle.gate_core.specs.Merge.{IsClient}
use Rattle.gate_core.specs.Legal.{Run, has_ended, has_joined, is_open, has_looked}
use Rattle.gate_core.specs.State.{WorldState, seat_after, StandsAfter}
use Rattle.gate_core.specs.inner.Calls.{seat_of, is_open_seat, is_ready_seat, is_leaving_seat}
use Rattle.gate_core.proofs.Endings.{past}

-- ---- seats

-- a seat that the World has is that of one of its clients
pub record HasSeat (world : WorldState) (client : ℕ) (seat : Seat) : Type 0 where
  pub low : 1 ≤ client
  pub there : slice_get world.seats (client - 1) ≡ Some seat

pub has_seat : (world : WorldState) (client : ℕ) (seat : Seat) → seat_of world client ≡ Some seat → HasSeat world client seat
has_seat world client seat e = go (eqb client 0) refl
  where
    go : (b : Bool) → eqb client 0 ≡ b → HasSeat world client seat
    go true is = let none : seat_of world client ≡ None = ap (λ b. cond b None (slice_get world.seats (client - 1))) is in absurd (cc)
    go false is =
        let there : slice_get world.seats (client - 1) ≡ Some seat = sym (ap (λ b. cond b None (slice_get world.seats (client - 1))) is) ∙ e in
        record { low = dite (ℕ_discrete client 0) (λ zero_is. absurd (let t = eq-eqb client 0 zero_is in cc)) (λ ne. omega arith); there = there }

-- the client is one of the World's, with its seat after the run, or the World has no seat for it
record IsSeated (world : WorldState) (client : ℕ) (run : Run) : Type 0 where
  client_is : IsClient world.limits.clients client
  seat_is : seat_of world client ≡ Some (seat_after client run)

record IsUnknown (world : WorldState) (client : ℕ) : Type 0 where
  no_client : IsClient world.limits.clients client → ⊥
  no_seat : seat_of world client ≡ None

seat_of_known : (world : WorldState) (client : ℕ) → client ≢ 0 → seat_of world client ≡ slice_get world.seats (client - 1)
seat_of_known world client ne = ap (λ b. cond b None (slice_get world.seats (client - 1))) (ne_eqb client 0 ne)

seated : (world : WorldState) (client : ℕ) (run : Run) → StandsAfter world run → IsSeated world client run ⊎ IsUnknown world client
seated world client run h =
    dite (ℕ_discrete client 0)
    (λ is. inr (record { no_client = λ i. let low = i.0 in omega arith; no_seat = ap (λ b. cond b None (slice_get world.seats (client - 1))) (eq-eqb client 0 is) }))
    (λ ne. go ne (leb client world.limits.clients) refl)
  where
    go : client ≢ 0 → (b : Bool) → leb client world.limits.clients ≡ b → IsSeated world client run ⊎ IsUnknown world client
    go ne true is =
        let high : client ≤ world.limits.clients = leb-true client world.limits.clients is in
        let same : client - 1 + 1 ≡ client = omega arith in
        inl (record {
          client_is = (omega arith, high);
          seat_is = seat_of_known world client ne ∙ h.seats_are (client - 1) (omega arith) ∙ ap (λ c. Some (seat_after c run)) same;
        })
    go ne false is =
        let high : world.limits.clients < client = leb-false client world.limits.clients is in
        inr (record { no_client = λ i. let above = i.1 in omega arith; no_seat = seat_of_known world client ne ∙ slice_get_past world.seats (client - 1) (omega (arith, h.seat_count_is)) })

pub among : (n client : ℕ) → IsClient n client → (nat_le 1 client && nat_le client n) ≡ true
among n client i = ap (λ b. b && nat_le client n) (le-leb 1 client i.0) ∙ le-leb client n i.1

not_among : (n client : ℕ) → (IsClient n client → ⊥) → (nat_le 1 client && nat_le client n) ≡ false
not_among n client no_client = go (nat_le 1 client) (nat_le client n) refl refl
  where
    go : (a b : Bool) → nat_le 1 client ≡ a → nat_le client n ≡ b → (a && b) ≡ false
    go true true low high = absurd (no_client (leb-true 1 client low, leb-true client n high))
    go true false low high = refl
    go false b low high = refl

-- by the seats it is decided who is open, who may push and who may be taken in
pub open_is : (world : WorldState) (client : ℕ) (run : Run) → StandsAfter world run → is_open_seat (seat_of world client) ≡ is_open world.limits client run
open_is world client run h =
    ⊎_elim
    (λ (s : IsSeated world client run). ap is_open_seat s.seat_is ∙ sym (ap (λ b. b && not (has_ended client run)) (among world.limits.clients client s.client_is)))
    (λ (u : IsUnknown world client). ap is_open_seat u.no_seat ∙ sym (ap (λ b. b && not (has_ended client run)) (not_among world.limits.clients client u.no_client)))
    (seated world client run h)

pub ready_is : (world : WorldState) (client : ℕ) (run : Run) → StandsAfter world run → is_ready_seat (seat_of world client) ≡ (is_open world.limits client run && has_looked client run)
ready_is world client run h =
    ⊎_elim
    (λ (s : IsSeated world client run). ap is_ready_seat s.seat_is ∙ sym (ap (λ b. b && not (has_ended client run) && has_looked client run) (among world.limits.clients client s.client_is)))
    (λ (u : IsUnknown world client). ap is_ready_seat u.no_seat ∙ sym (ap (λ b. b && not (has_ended client run) && has_looked client run) (not_among world.limits.clients client u.no_client)))
    (seated world client run h)

unended : (world : WorldState) (client : ℕ) (run : Run) → StandsAfter world run → (IsClient world.limits.clients client → ⊥) → (b : Bool) → has_ended client run ≡ b → b ≡ false
unended world client run h no_client true is = absurd (no_client (past world.limits run h.legal client is).0)
unended world client run h no_client false is = refl

pub leaving_is : (world : WorldState) (client : ℕ) (run : Run) → StandsAfter world run → is_leaving_seat (seat_of world client) ≡ (has_ended client run && not (has_joined client run))
leaving_is world client run h =
    ⊎_elim
    (λ (s : IsSeated world client run). ap is_leaving_seat s.seat_is)
    (λ (u : IsUnknown world client). ap is_leaving_seat u.no_seat ∙ sym (ap (λ b. b && not (has_joined client run)) (unended world client run h u.no_client (has_ended client run) refl)))
    (seated world client run h)

-- a seat that the World has is its client's after the run
pub seat_is_after : (world : WorldState) (client : ℕ) (seat : Seat) (run : Run) → StandsAfter world run → seat_of world client ≡ Some seat → seat_after client run ≡ seat
seat_is_after world client seat run h e =
    ⊎_elim
    (λ (s : IsSeated world client run). let i : Some (seat_after client run) ≡ Some seat = sym s.seat_is ∙ e in cc)
    (λ (u : IsUnknown world client). let none : seat_of world client ≡ None = u.no_seat in absurd (cc))
    (seated world client run h)
