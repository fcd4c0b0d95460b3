-- Readers that give way, one after another.
use Rattle.std.proofs.Common.{◌≡◌, ℕ, ◌<◌, List, [], ◌∷◌, zero, suc, length, Option, Some, None, sym, subst, arith}
use Rattle.std.specs.Prelude.{slice_get, slice_set}
use Rattle.gate_turns.specs.declared.standing.Standing.{Standing}
use Rattle.gate_turns.specs.Standing.{standings}
use Rattle.gate_turns.specs.Turns.{IsFirst}
use Rattle.gate_turns.specs.Pages.{is_slow, is_behind, kept}
use Rattle.gate_ports.specs.Room.{GiveWay, one_more}

one_fewer : (peers : List (Option Standing)) (place : ℕ) (peer : Standing) → slice_get peers place ≡ Some (Some peer)
    → length (standings (slice_set peers place None)) < length (standings peers)
one_fewer [] place peer stands = cc
one_fewer (None ∷ peers) zero peer stands = cc
one_fewer (Some other ∷ peers) zero peer stands = omega arith
one_fewer (None ∷ peers) (suc place) peer stands = one_fewer peers place peer stands
one_fewer (Some other ∷ peers) (suc place) peer stands =
    let fewer = one_fewer peers place peer stands in
    omega (arith, fewer)

-- one that gives way is gone
pub fewer_after : (now place : ℕ) (seen old new : List (Option Standing)) → seen ≡ old
    → IsFirst (is_slow now) is_behind seen None place → new ≡ slice_set old place None
    → length (standings new) < length (standings old)
fewer_after now place seen old new same first closed =
    let stands = subst (λ ys. slice_get ys place ≡ Some (Some first.peer)) same first.stands in
    subst (λ ys. length (standings ys) < length (standings old)) (sym closed) (one_fewer old place first.peer stands)

-- one more gives way
pub give_way_more : (now place count : ℕ) (before counted seen old new : List (Option Standing)) → GiveWay now before old
    → counted ≡ old → count ≡ kept counted → 134217728 < count → seen ≡ old → IsFirst (is_slow now) is_behind seen None place
    → new ≡ slice_set old place None → GiveWay now before new
give_way_more now place count before counted seen old new so_far counted_same is_kept full same first closed =
    let more = subst (λ ys. 134217728 < kept ys) counted_same (subst (λ (n : ℕ). 134217728 < n) is_kept full) in
    let slowest = subst (λ ys. IsFirst (is_slow now) is_behind ys None place) same first in
    subst (GiveWay now before) (sym closed) (one_more old place so_far more slowest)
