-- How many of the peers there are of a kind, one peer on.
use Rattle.std.proofs.Common.{◌≡◌, ◌≢◌, ℕ, ◌+◌, ◌%◌, ◌<◌, ◌≤◌, Bool, true, false, List, [], ◌∷◌, length, take, min, Option, Some, None, cond, refl, sym, ◌⊎◌, inl, inr, ap, arith, ◌∙◌, ◌==◌, set}
use Rattle.std.specs.Prelude.{slice_get, slice_index, filter}
use Rattle.std.proofs.lemmas.Bool.{false≢true}
use Rattle.std.proofs.lemmas.Bool.Decides.{nat_tests}
use Rattle.std.proofs.lemmas.List.{length_push, length-set, get_or-set_same, get_or-set_other}
use Rattle.std.proofs.lemmas.List.Sums.{length-filter, count_by-le-length}
use Rattle.gate_turns.specs.declared.standing.Standing.{Standing}
use Rattle.gate_turns.specs.Standing.{standings, connections}
use Rattle.gate_turns.specs.Turns.{those}
use Rattle.gate_turns.specs.inner.Counts.{sharing, AreCounts}
use Rattle.gate_turns.proofs.FirstSteps.{take_next, those-push_none, those-push_yes, those-push_no}

-- ---- one more peer

length-those-yes : (kind : Standing → Bool) (peers : List (Option Standing)) (place : ℕ) (peer : Standing)
    → slice_get peers place ≡ Some (Some peer) → kind peer ≡ true
    → length (those kind (take (place + 1) peers)) ≡ length (those kind (take place peers)) + 1
length-those-yes kind peers place peer stands is_one =
    ap (λ ys. length (those kind ys)) (take_next peers place (Some peer) stands)
    ∙ ap length (those-push_yes kind (take place peers) peer is_one)
    ∙ length_push (those kind (take place peers)) peer

length-those-no : (kind : Standing → Bool) (peers : List (Option Standing)) (place : ℕ) (peer : Standing)
    → slice_get peers place ≡ Some (Some peer) → kind peer ≡ false
    → length (those kind (take (place + 1) peers)) ≡ length (those kind (take place peers))
length-those-no kind peers place peer stands is_not =
    ap (λ ys. length (those kind ys)) (take_next peers place (Some peer) stands)
    ∙ ap length (those-push_no kind (take place peers) peer is_not)

length-those-none : (kind : Standing → Bool) (peers : List (Option Standing)) (place : ℕ) → slice_get peers place ≡ Some None
    → length (those kind (take (place + 1) peers)) ≡ length (those kind (take place peers))
length-those-none kind peers place stands =
    ap (λ ys. length (those kind ys)) (take_next peers place None stands) ∙ ap length (those-push_none kind (take place peers))

-- ---- of one address

abbrev from_address : ℕ → Standing → Bool
from_address address standing = standing.address == address

pub connections-yes : (peers : List (Option Standing)) (place address : ℕ) (peer : Standing)
    → slice_get peers place ≡ Some (Some peer)
    → peer.address ≡ address → connections (take (place + 1) peers) address ≡ connections (take place peers) address + 1
connections-yes peers place address peer stands same =
    let is_one : from_address address peer ≡ true = grind (arith, nat_tests) in
    length-those-yes (from_address address) peers place peer stands is_one

pub connections-no : (peers : List (Option Standing)) (place address : ℕ) (peer : Standing)
    → slice_get peers place ≡ Some (Some peer)
    → peer.address ≢ address → connections (take (place + 1) peers) address ≡ connections (take place peers) address
connections-no peers place address peer stands other =
    let is_not : from_address address peer ≡ false = grind (arith, nat_tests) in
    length-those-no (from_address address) peers place peer stands is_not

pub connections-none : (peers : List (Option Standing)) (place address : ℕ) → slice_get peers place ≡ Some None
    → connections (take (place + 1) peers) address ≡ connections (take place peers) address
connections-none peers place address stands = length-those-none (from_address address) peers place stands

-- ---- of each remainder

abbrev with_remainder : ℕ → ℕ → Standing → Bool
with_remainder divisor remainder standing = standing.address % divisor == remainder

pub counts_none : (peers : List (Option Standing)) (place : ℕ) (counts : List ℕ) → slice_get peers place ≡ Some None
    → AreCounts (take place peers) counts → AreCounts (take (place + 1) peers) counts
counts_none peers place counts stands so_far =
    λ k l. so_far k l ∙ ap (min 65535) (sym (length-those-none (with_remainder (length counts) k) peers place stands))

pub counts_more : (peers : List (Option Standing)) (place : ℕ) (peer : Standing) (counts : List ℕ) (divisor remainder count : ℕ)
    → slice_get peers place ≡ Some (Some peer) → length counts ≡ divisor → remainder ≡ peer.address % divisor
    → remainder < length counts → count ≡ min (slice_index counts remainder + 1) 65535
    → AreCounts (take place peers) counts → AreCounts (take (place + 1) peers) (set counts remainder count)
counts_more peers place peer counts divisor remainder count stands all is within one_more so_far =
    λ k l. rw (length-set counts remainder count, all) (at k (omega (arith, length-set counts remainder count)) (cases k))
  where
    cases : (k : ℕ) → (k ≡ remainder) ⊎ (k ≢ remainder)
    cases k = grind arith

    so_far_by : (k : ℕ) → k < length counts → slice_index counts k ≡ min 65535 (sharing (take place peers) divisor k)
    so_far_by k l = so_far k l ∙ ap (λ n. min 65535 (sharing (take place peers) n k)) all

    at : (k : ℕ) → k < length counts → (k ≡ remainder) ⊎ (k ≢ remainder)
        → slice_index (set counts remainder count) k ≡ min 65535 (sharing (take (place + 1) peers) divisor k)
    at k l (inl same) =
        let is_one : with_remainder divisor k peer ≡ true = grind (arith, nat_tests) in
        let more = length-those-yes (with_remainder divisor k) peers place peer stands is_one in
        let here : slice_index (set counts remainder count) k ≡ count = rw same
        (get_or-set_same counts remainder count 0 within) in
        let had : slice_index counts remainder ≡ min 65535 (sharing (take place peers) divisor k) = rw (sym same)
        (so_far_by k l) in
        here ∙ omega (arith, one_more, had, more)
    at k l (inr other) =
        let is_not : with_remainder divisor k peer ≡ false = grind (arith, nat_tests) in
        get_or-set_other counts remainder k count 0 other ∙ so_far_by k l
        ∙ ap (min 65535) (sym (length-those-no (with_remainder divisor k) peers place peer stands is_not))

-- ---- the count of an address is no more than that of its remainder

length-filter-le : (p q : Standing → Bool) → ((x : Standing) → p x ≡ true → q x ≡ true) → (xs : List Standing)
    → length (filter p xs) ≤ length (filter q xs)
length-filter-le p q weaker [] = omega arith
length-filter-le p q weaker (x ∷ xs) = step (p x) (q x) (weaker x) (length-filter-le p q weaker xs)
  where
    step : (b d : Bool) → (b ≡ true → d ≡ true) → length (filter p xs) ≤ length (filter q xs)
        → length (cond b (x ∷ filter p xs) (filter p xs)) ≤ length (cond d (x ∷ filter q xs) (filter q xs))
    step true true w l = omega arith
    step true false w l = absurd (false≢true (w refl))
    step false true w l = omega arith
    step false false w l = l

pub connections-le-sharing : (peers : List (Option Standing)) (divisor address : ℕ)
    → connections peers address ≤ sharing peers divisor (address % divisor)
connections-le-sharing peers divisor address =
    length-filter-le (from_address address) (with_remainder divisor (address % divisor)) (λ x same. grind
    (arith, nat_tests)) (standings peers)

length-standings-le : (peers : List (Option Standing)) → length (standings peers) ≤ length peers
length-standings-le [] = omega arith
length-standings-le (None ∷ peers) = omega (arith, length-standings-le peers)
length-standings-le (Some x ∷ peers) = omega (arith, length-standings-le peers)

pub connections-le-length : (peers : List (Option Standing)) (address : ℕ) → connections peers address ≤ length peers
connections-le-length peers address =
    omega (
      arith,
      length-filter (from_address address) (standings peers),
      count_by-le-length (from_address address) (standings peers),
      length-standings-le peers,
    )

-- a count that fits is one of all peers that may come from the address
pub connections-le-count : (peers : List (Option Standing)) (counts : List ℕ) (address remainder count : ℕ)
    → AreCounts peers counts
    → remainder ≡ address % length counts → remainder < length counts → count ≡ slice_index counts remainder → count < 65535
    → connections peers address ≤ count
connections-le-count peers counts address remainder count are is within read fits =
    let there : count ≡ min 65535 (sharing peers (length counts) remainder) = read ∙ are remainder within in
    let most = connections-le-sharing peers (length counts) address in
    let same = ap (sharing peers (length counts)) is in
    omega (arith, there, same, most)
