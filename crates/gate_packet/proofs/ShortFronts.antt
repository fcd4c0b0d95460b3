-- Packets at the front of a stream: those of 720 bytes, and those of 4304 that begin with one.
use Rattle.std.proofs.Common.{◌≡◌, ℕ, zero, suc, ◌+◌, ◌-◌, ◌≤◌, Bool, true, false, cond, not, ◌&&◌, List, [], ◌∷◌, length, take, drop, inr, refl, sym, ap, ◌∙◌, arith}
use Rattle.std.specs.List.{prefix_len, before_first}
use Rattle.std.specs.Int.{w16, cast_signed}
use Rattle.std.proofs.lemmas.Bool.{eqb-true, eq-eqb}
use Rattle.std.proofs.lemmas.List.{take-take, take_all, drop-take, drop_all, length-take-le}
use Rattle.std.specs.Prelude.{◌==◌}
use Rattle.byteorder.specs.Endian.{big_number}
use Rattle.gate_packet.specs.Layout.{slice_of, text_at, output_size, plugin_output}
use Rattle.gate_packet.specs.Packet.{Content}
use Rattle.gate_packet.specs.Decoding.{IsPacket, is_sound}
use Rattle.gate_packet.specs.Stream.{begins_short, Begins, IsReadAsShort}
use Rattle.gate_packet.proofs.Cuts.{short_enough, enough_decide, short_begins, long_begins}

both_true : (a b : Bool) → (a && b) ≡ true → (a ≡ true) × (b ≡ true)
both_true true true e = (refl, refl)
both_true true false e = absurd cc
both_true false b e = absurd cc

one_more : (n : ℕ) → 1 + n ≡ suc n
one_more n = omega arith

one_step : (b : Bool) (x n i j : ℕ) (xs : List ℕ) → take i (take n xs) ≡ take n (take j xs) → take (cond b (1 + i) 0) (x ∷ take n xs) ≡ take (suc n) (take (cond b (1 + j) 0) (x ∷ xs))
one_step true x n i j xs same =
    ap (λ m. take m (x ∷ take n xs)) (one_more i)
    ∙ ap (λ l. x ∷ l) same
    ∙ ap (λ m. take (suc n) (take m (x ∷ xs))) (sym (one_more j))
one_step false x n i j xs same = refl

-- what stands before the first such element of the first n is the first n of what stands before it
before_take : (p : ℕ → Bool) (n : ℕ) (xs : List ℕ) → before_first p (take n xs) ≡ take n (before_first p xs)
before_take p zero xs = refl
before_take p (suc n) [] = refl
before_take p (suc n) (x ∷ xs) = one_step (not (p x)) x n (prefix_len (λ y. not (p y)) (take n xs)) (prefix_len (λ y. not (p y)) xs) xs (before_take p n xs)

front_slice : (bytes : List ℕ) (offset rest count : ℕ) → offset + rest ≡ 720 → count ≤ rest → slice_of (take 720 bytes) offset count ≡ slice_of bytes offset count
front_slice bytes offset rest count e fits =
    ap (λ n. take count (drop offset (take n bytes))) (sym e)
    ∙ ap (λ xs. take count xs) (drop-take offset rest bytes)
    ∙ take-take count rest (drop offset bytes) fits

pub read_as_short : (bytes : List ℕ) (p : Content) → IsReadAsShort bytes p
read_as_short bytes p h short =
    let enough : 720 ≤ length bytes = short_enough bytes short in
    let size : length (take 720 bytes) ≡ 720 = length-take-le 720 bytes enough in
    let room : 511 ≤ output_size (length bytes) - 1 = omega (arith, enough) in
    let ys = drop 206 bytes in
    let nul : ℕ → Bool = λ byte. byte == 0 in
    let there : plugin_output (take 720 bytes) ≡ before_first nul (take 511 ys) =
    ap (λ n. text_at (take 720 bytes) 206 (output_size n)) size ∙ ap (before_first nul) (front_slice bytes 206 514 511 refl (omega arith)) in
    let here : before_first nul (take 511 ys) ≡ take 511 (plugin_output bytes) =
    ap (before_first nul) (sym (take-take 511 (output_size (length bytes) - 1) ys room)) ∙ before_take nul 511 (take (output_size (length bytes) - 1) ys) in
    let tests = both_true _ _ (sym (enough_decide bytes enough) ∙ short) in
    record {
      whole = inr size;
      version = eqb-true _ _ tests.0;
      covered = eqb-true _ _ tests.1;
      sent = ap (λ xs. big_number 4 xs) (front_slice bytes 8 712 4 refl (omega arith)) ∙ h.sent;
      code = ap (λ xs. cast_signed w16 (big_number 2 xs)) (front_slice bytes 12 708 2 refl (omega arith)) ∙ h.code;
      host = ap (before_first nul) (front_slice bytes 14 706 63 refl (omega arith)) ∙ h.host;
      service = ap (before_first nul) (front_slice bytes 78 642 127 refl (omega arith)) ∙ h.service;
      output = there ∙ here ∙ ap (λ text. take 511 text) h.output;
      has_host = h.has_host;
    }

-- ---- whole packets

-- the bytes of a packet of 720 bytes are a block
pub short_is_block : (bytes : List ℕ) (p : Content) → length bytes ≡ 720 → IsPacket bytes p → Begins bytes bytes []
short_is_block bytes p size h =
    let enough : 720 ≤ length bytes = omega (arith, size) in
    let all : take 720 bytes ≡ bytes = take_all 720 bytes (omega (arith, size)) in
    let sound : is_sound bytes ≡ true = rw (eq-eqb _ _ h.version, eq-eqb _ _ h.covered) refl in
    short_begins bytes bytes [] (enough_decide bytes enough ∙ ap is_sound all ∙ sound) enough (sym all) (sym (drop_all 720 bytes (omega (arith, size))))

-- 4304 bytes are a block, where none of 720 begins them
pub long_is_block : (bytes : List ℕ) → length bytes ≡ 4304 → begins_short bytes ≡ false → Begins bytes bytes []
long_is_block bytes size other = long_begins bytes bytes [] other (omega (arith, size)) (sym (take_all 4304 bytes (omega (arith, size)))) (sym (drop_all 4304 bytes (omega (arith, size))))

-- the first 720 bytes are a block, where one of 720 begins them
pub front_is_block : (bytes : List ℕ) → begins_short bytes ≡ true → Begins bytes (take 720 bytes) (drop 720 bytes)
front_is_block bytes short = short_begins bytes (take 720 bytes) (drop 720 bytes) short (short_enough bytes short) refl refl
