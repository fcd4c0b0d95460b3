-- What a field stands for, step by step, and of the field that shows a text.
use Rattle.std.proofs.Common.{◌≡◌, ℕ, suc, ◌+◌, ◌*◌, ◌/◌, ◌%◌, ◌<◌, ◌==◌, ◌&&◌, true, false, inl, inr, List, [], ◌∷◌, ◌++◌, length, refl, sym, ap, ◌∙◌, arith, append-nil, append_assoc}
use Rattle.std.specs.Prelude.{if◌then◌else◌}
use Rattle.std.proofs.lemmas.Bool.{or_parts, cases_Bool, cond-true, cond-false}
use Rattle.std.proofs.lemmas.Grind.{common_steps}
use Rattle.gate_model.specs.Escaping.{hex_digit, is_escaped, escape_of, escaped_byte, escaped}
use Rattle.gate_grammar.specs.Spelling.{holds}
use Rattle.status_reading.specs.Plain.{is_hex_digit, hex_value, plain_bytes}

-- ---- the first byte

-- a byte other than a backslash is itself
pub kept : (byte : ℕ) (rest : List ℕ) → (byte == 92) ≡ false → plain_bytes (byte ∷ rest) ≡ byte ∷ plain_bytes rest
kept byte [] other = refl
kept byte (second ∷ []) other = rw other refl
kept byte (second ∷ third ∷ []) other = rw other refl
kept byte (second ∷ third ∷ fourth ∷ rest) other = rw other refl

-- so is one before any other byte but a backslash or an `x`
pub lone : (mark : ℕ) (rest : List ℕ) → (mark == 92) ≡ false → (mark == 120) ≡ false → plain_bytes (92 ∷ mark ∷ rest) ≡ 92 ∷ plain_bytes (mark ∷ rest)
lone mark [] other x = rw other refl
lone mark (third ∷ []) other x = rw other refl
lone mark (third ∷ fourth ∷ rest) other x = rw (other, x) refl

-- two backslashes are one
pub double : (rest : List ℕ) → plain_bytes (92 ∷ 92 ∷ rest) ≡ 92 ∷ plain_bytes rest
double [] = refl
double (third ∷ []) = refl
double (third ∷ fourth ∷ rest) = refl

-- so is one at the end
pub last_kept : (text : List ℕ) → length text ≡ 0 → plain_bytes (92 ∷ text) ≡ 92 ∷ plain_bytes text
last_kept [] none = refl
last_kept (byte ∷ text) none = absurd (omega (arith, none))

-- and one before an `x` without two digits
pub no_digit : (text : List ℕ) → length text ≡ 0 → plain_bytes (92 ∷ 120 ∷ text) ≡ 92 ∷ plain_bytes (120 ∷ text)
no_digit [] none = refl
no_digit (byte ∷ text) none = absurd (omega (arith, none))

pub one_digit : (high : ℕ) (rest : List ℕ) → length rest ≡ 0 → plain_bytes (92 ∷ 120 ∷ high ∷ rest) ≡ 92 ∷ plain_bytes (120 ∷ high ∷ rest)
one_digit high [] none = refl
one_digit high (byte ∷ rest) none = absurd (omega (arith, none))

pub bad_high : (high low : ℕ) (rest : List ℕ) → is_hex_digit high ≡ false
    → plain_bytes (92 ∷ 120 ∷ high ∷ low ∷ rest) ≡ 92 ∷ plain_bytes (120 ∷ high ∷ low ∷ rest)
bad_high high low rest bad =
    ap (λ digits. if digits && is_hex_digit low then (hex_value high * 16 + hex_value low) ∷ plain_bytes rest else (92 ∷ plain_bytes (120 ∷ high ∷ low ∷ rest))) bad

pub bad_low : (high low : ℕ) (rest : List ℕ) → is_hex_digit high ≡ true → is_hex_digit low ≡ false
    → plain_bytes (92 ∷ 120 ∷ high ∷ low ∷ rest) ≡ 92 ∷ plain_bytes (120 ∷ high ∷ low ∷ rest)
bad_low high low rest good bad =
    ap (λ digits. if digits && is_hex_digit low then (hex_value high * 16 + hex_value low) ∷ plain_bytes rest else (92 ∷ plain_bytes (120 ∷ high ∷ low ∷ rest))) good
    ∙ ap (λ digits. if digits then (hex_value high * 16 + hex_value low) ∷ plain_bytes rest else (92 ∷ plain_bytes (120 ∷ high ∷ low ∷ rest))) bad

-- with two digits it is the byte of that number
pub numbered : (high low : ℕ) (rest : List ℕ) → is_hex_digit high ≡ true → is_hex_digit low ≡ true
    → plain_bytes (92 ∷ 120 ∷ high ∷ low ∷ rest) ≡ (hex_value high * 16 + hex_value low) ∷ plain_bytes rest
numbered high low rest good other =
    ap (λ digits. if digits && is_hex_digit low then (hex_value high * 16 + hex_value low) ∷ plain_bytes rest else (92 ∷ plain_bytes (120 ∷ high ∷ low ∷ rest))) good
    ∙ ap (λ digits. if digits then (hex_value high * 16 + hex_value low) ∷ plain_bytes rest else (92 ∷ plain_bytes (120 ∷ high ∷ low ∷ rest))) other

-- a run without a backslash is itself
pub run_kept : (run rest : List ℕ) → holds 92 run ≡ false → plain_bytes (run ++ rest) ≡ run ++ plain_bytes rest
run_kept [] rest none = refl
run_kept (byte ∷ run) rest none =
    let parts = or_parts (byte == 92) (holds 92 run) none in
    kept byte (run ++ rest) parts.0 ∙ ap (λ back. byte ∷ back) (run_kept run rest parts.1)

-- so is a text without one
pub rest_kept : (rest : List ℕ) → holds 92 rest ≡ false → plain_bytes rest ≡ rest
rest_kept rest none = ap plain_bytes (sym (append-nil rest)) ∙ run_kept rest [] none ∙ append-nil rest

-- a run, and the byte of the backslash after it
pub run_undone : (front run escape after rest : List ℕ) (byte : ℕ) → rest ≡ run ++ 92 ∷ escape → holds 92 run ≡ false
    → plain_bytes (92 ∷ escape) ≡ byte ∷ plain_bytes after
    → ((front ++ run) ++ byte ∷ []) ++ plain_bytes after ≡ front ++ plain_bytes rest
run_undone front run escape after rest byte parts none is =
    append_assoc (front ++ run) (byte ∷ []) (plain_bytes after)
    ∙ append_assoc front run (byte ∷ plain_bytes after)
    ∙ ap (λ back. front ++ back)
    (ap (λ back. run ++ back) (sym is) ∙ sym (run_kept run (92 ∷ escape) none) ∙ ap plain_bytes (sym parts))

-- ---- the field that shows a text

-- the digit of a number below 16 has that number
digit_again : (n : ℕ) → n < 16 → (is_hex_digit (hex_digit n) ≡ true) × (hex_value (hex_digit n) ≡ n)
digit_again (suc (suc (suc (suc (suc (suc (suc (suc (suc (suc (suc (suc (suc (suc (suc (suc n)))))))))))))))) h = absurd (omega arith)
digit_again _ h = (refl, refl)

-- the escape of a byte stands for it
escape_again : (byte : ℕ) (rest : List ℕ) → byte < 256 → plain_bytes (escape_of byte ++ rest) ≡ byte ∷ plain_bytes rest
escape_again byte rest small =
    elim (cases_Bool (byte == 92)) [
      | inl is ↦
          let same : byte ≡ 92 = grind (arith, common_steps) in
          ap (λ front. plain_bytes (front ++ rest)) (cond-true _ _ _ is) ∙ double rest ∙ ap (λ byte. byte ∷ plain_bytes rest) (sym same)
      | inr is ↦
          let high = digit_again (byte / 16) (omega (arith, small)) in
          let low = digit_again (byte % 16) (omega (arith, small)) in
          let whole : byte / 16 * 16 + byte % 16 ≡ byte = omega arith in
          ap (λ front. plain_bytes (front ++ rest)) (cond-false _ _ _ is)
          ∙ numbered (hex_digit (byte / 16)) (hex_digit (byte % 16)) rest high.0 low.0
          ∙ ap (λ byte. byte ∷ plain_bytes rest) (ap (λ n. n * 16 + hex_value (hex_digit (byte % 16))) high.1 ∙ ap (λ n. byte / 16 * 16 + n) low.1 ∙ whole)
    ]

escaped_small : (byte : ℕ) → is_escaped byte ≡ true → byte < 256
escaped_small byte is = grind (arith, common_steps)

byte_again : (byte : ℕ) (rest : List ℕ) → plain_bytes (escaped_byte byte ++ rest) ≡ byte ∷ plain_bytes rest
byte_again byte rest =
    elim (cases_Bool (is_escaped byte)) [
      | inl is ↦ ap (λ front. plain_bytes (front ++ rest)) (cond-true _ _ _ is) ∙ escape_again byte rest (escaped_small byte is)
      | inr other ↦
          let none : (byte == 92) ≡ false = grind (arith, common_steps) in
          ap (λ front. plain_bytes (front ++ rest)) (cond-false _ _ _ other) ∙ kept byte rest none
    ]

pub plain_escaped : (text : List ℕ) → plain_bytes (escaped text) ≡ text
plain_escaped [] = refl
plain_escaped (byte ∷ rest) = byte_again byte (escaped rest) ∙ ap (λ back. byte ∷ back) (plain_escaped rest)
