-- Whole packets at the front of bytes.
use Rattle.std.proofs.Common.{◌≡◌, ℕ, Bool, ◌+◌, ◌-◌, ◌<◌, ◌≤◌, ◌⊎◌, List, [], ◌∷◌, length, min, take, drop, refl, sym, ap, ◌∙◌, subst, true, false, arith, inl, inr}
use Rattle.std.proofs.lemmas.List.{take-append-drop, length-take-le, take-append-le, drop-drop, length-drop}
use Rattle.std.proofs.lemmas.Bool.{cases_lt}
use Rattle.gate_packet.specs.Layout.{IsPacketSize}
use Rattle.gate_packet.specs.Decoding.{is_sound}
use Rattle.gate_packet.specs.Stream.{begins_short, block_length, Begins, IsRest}
use Rattle.gate_packet.proofs.Cuts.{first_whole, rest_in_words, settled, block_size, length-begins, too_few, enough_decide, long_length, short_length, short_enough, rest_of_few, some_bytes}
use Rattle.gate_ports.specs.Held.{AreWhole}

-- fewer bytes than a packet are no whole ones
pub whole_none : (bytes : List ℕ) → IsRest bytes → AreWhole bytes bytes
whole_none bytes rest = ([], record { cut = refl; is_rest = rest })

-- one packet before others
pub whole_more : (size : ℕ) (bytes rest : List ℕ) → size ≡ block_length bytes → size ≤ length bytes → AreWhole (drop size bytes) rest → AreWhole bytes rest
whole_more size bytes rest is enough (packets, c) = (
  take size bytes ∷ packets,
  record { cut = (drop size bytes, first_whole size bytes (take size bytes) (sym is) enough refl, c.cut); is_rest = c.is_rest },
)

-- a rest doesn't begin with a short packet
pub rest_is_long : (bytes : List ℕ) → IsRest bytes → begins_short bytes ≡ false
rest_is_long bytes rest = ((rest_in_words bytes).0 rest).1

pub either : (b : Bool) → (b ≡ true) ⊎ (b ≡ false)
either true = inl refl
either false = inr refl

few_are_short : (size : ℕ) → IsPacketSize size → size < 4304 → size ≡ 720
few_are_short size (inl e) few = absurd (omega (arith, e, few))
few_are_short size (inr e) few = e

-- a whole packet among the first bytes, which are fewer than a long one, is short
pub front_short : (count : ℕ) (bytes block more : List ℕ) → count < 4304 → count ≤ length bytes → Begins (take count bytes) block more → begins_short bytes ≡ true
front_short count bytes block more few within begins =
    let whole = length-begins (take count bytes) block more begins in
    let long : length (take count bytes) ≡ count = length-take-le count bytes within in
    let same : block_length bytes ≡ block_length (take count bytes) =
    ap block_length (sym (take-append-drop count bytes)) ∙ settled (take count bytes) (drop count bytes) whole in
    let short : block_length (take count bytes) ≡ 720 =
    few_are_short (block_length (take count bytes)) (block_size (take count bytes)) (omega (arith, whole, long, few)) in
    elim (either (begins_short bytes)) [
      | inl e ↦ e
      | inr e ↦ absurd (omega (arith, same, short, long_length bytes e))
    ]

-- where the first bytes, as many as there are but fewer than a long packet, hold no whole packet, the first isn't short
pub front_not_short : (count : ℕ) (bytes : List ℕ) → count ≤ length bytes → (length bytes < 4304 → count ≡ length bytes) → (4304 ≤ length bytes → count ≡ 4303) → IsRest (take count bytes) → begins_short bytes ≡ false
front_not_short count bytes within all most rest =
    let long : length (take count bytes) ≡ count = length-take-le count bytes within in
    elim (cases_lt (length bytes) 720) [
      | inl few ↦ too_few bytes few
      | inr enough ↦ (
          let front : 720 ≤ length (take count bytes) = elim (cases_lt (length bytes) 4304) [
            | inl few ↦ (let same = all few in omega (arith, long, same, enough))
            | inr more ↦ (let same = most more in omega (arith, long, same))
          ] in
          let same : take 720 bytes ≡ take 720 (take count bytes) =
          ap (take 720) (sym (take-append-drop count bytes)) ∙ take-append-le 720 (take count bytes) (drop count bytes) front in
          enough_decide bytes enough ∙ ap is_sound same ∙ sym (enough_decide (take count bytes) front)
          ∙ rest_is_long (take count bytes) rest)
    ]

-- then it is whole where there are enough bytes, and else not
pub long_whole : (bytes : List ℕ) → begins_short bytes ≡ false → 4304 ≡ block_length bytes
long_whole bytes long = sym (long_length bytes long)

pub long_rest : (bytes : List ℕ) → begins_short bytes ≡ false → length bytes < 4304 → IsRest bytes
long_rest bytes long few = rest_of_few bytes few long

pub short_whole : (bytes : List ℕ) → begins_short bytes ≡ true → (720 ≡ block_length bytes) × (720 ≤ length bytes)
short_whole bytes short = (sym (short_length bytes short), short_enough bytes short)

-- ---- the loop over packets

-- what is known before the first one: 720 bytes and more that are no whole packet don't begin with a short one
pub begun_long : (bytes : List ℕ) (begun : ℕ) → begun ≤ length bytes → IsRest (take begun bytes) → 720 ≤ begun → begins_short bytes ≡ false
begun_long bytes begun within rest enough =
    let long : length (take begun bytes) ≡ begun = length-take-le begun bytes within in
    let front : 720 ≤ length (take begun bytes) = omega (arith, long, enough) in
    let same : take 720 bytes ≡ take 720 (take begun bytes) =
    ap (take 720) (sym (take-append-drop begun bytes)) ∙ take-append-le 720 (take begun bytes) (drop begun bytes) front in
    enough_decide bytes (omega (arith, within, enough)) ∙ ap is_sound same ∙ sym (enough_decide (take begun bytes) front)
    ∙ rest_is_long (take begun bytes) rest

-- one more packet
pub whole_next : (bytes rest : List ℕ) (whole size : ℕ) → whole ≤ length bytes → rest ≡ drop whole bytes → size ≡ block_length rest → size ≤ length rest
    → ((left : List ℕ) → AreWhole (drop whole bytes) left → AreWhole bytes left)
    → (left : List ℕ) → AreWhole (drop (whole + size) bytes) left → AreWhole bytes left
whole_next bytes rest whole size within same is enough before left after =
    before left (whole_more size (drop whole bytes) left (is ∙ ap block_length same) (subst (λ xs. size ≤ length xs) same enough) (subst (λ xs. AreWhole xs left) (sym (drop-drop size whole bytes)) after))

-- and it has some bytes
pub next_within : (bytes rest : List ℕ) (whole size : ℕ) → whole ≤ length bytes → rest ≡ drop whole bytes → size ≡ block_length rest → size ≤ length rest
    → (whole + size ≤ length bytes) × (0 < size)
next_within bytes rest whole size within same is enough =
    let some : 0 < block_length rest = some_bytes rest in
    let long : length rest ≡ length bytes - whole = ap length same ∙ length-drop whole bytes in
    (omega (arith, long, enough, within), omega (arith, some, is))

-- ---- the bytes that are fewer than a long packet

pub fewer_short : (bytes front block more : List ℕ) → front ≡ take (min (length bytes) 4303) bytes → Begins front block more → begins_short bytes ≡ true
fewer_short bytes front block more same begins =
    front_short (min (length bytes) 4303) bytes block more (omega arith) (omega arith) (subst (λ xs. Begins xs block more) same begins)

pub fewer_not_short : (bytes front : List ℕ) → front ≡ take (min (length bytes) 4303) bytes → IsRest front → begins_short bytes ≡ false
fewer_not_short bytes front same rest =
    front_not_short (min (length bytes) 4303) bytes (omega arith) (λ few. omega (arith, few)) (λ more. omega (arith, more)) (subst (λ xs. IsRest xs) same rest)
