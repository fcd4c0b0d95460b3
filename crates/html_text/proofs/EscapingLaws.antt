-- No text brings markup into a document.
use Rattle.std.proofs.Common.{◌≡◌, ℕ, zero, suc, ◌/◌, ◌%◌, ◌<◌, ◌==◌, ◌||◌, Bool, true, false, inl, inr, List, [], ◌∷◌, ◌++◌, length, get_or, refl, ap, ◌∙◌, arith}
use Rattle.std.specs.Prelude.{codes}
use Rattle.std.specs.List.{list_any}
use Rattle.std.proofs.lemmas.Bool.{or_from, or_parts, cases_Bool, cond-true, cond-false}
use Rattle.std.proofs.lemmas.Grind.{common_steps}
use Rattle.gate_model.specs.Escaping.{hex_digit, escape_of}
use Rattle.html_text.specs.Escaping.{is_markup, is_referred, reference_of, is_control, html_byte, html_text, is_referenced, IsMarkupFree}

-- ---- bytes of which a text has none

none_append : (test : ℕ → Bool) (front back : List ℕ) → list_any test front ≡ false → list_any test back ≡ false → list_any test (front ++ back) ≡ false
none_append test [] back one other = other
none_append test (byte ∷ front) back one other = let facts = or_parts (test byte) (list_any test front) one in or_from (test byte) (list_any test (front ++ back)) facts.0 (none_append test front back facts.1 other)

none_at : (test : ℕ → Bool) (digits : List ℕ) (index : ℕ) → index < length digits → list_any test digits ≡ false → test (get_or digits index 0) ≡ false
none_at test [] index within none = absurd (omega (arith, within))
none_at test (digit ∷ digits) zero within none = (or_parts (test digit) (list_any test digits) none).0
none_at test (digit ∷ digits) (suc index) within none = none_at test digits index (omega (arith, within)) (or_parts (test digit) (list_any test digits) none).1

-- an escape has backslashes, an `x` and digits alone
none_in_escape : (test : ℕ → Bool) → test 92 ≡ false → test 120 ≡ false → list_any test (codes "0123456789abcdef") ≡ false
    → (byte : ℕ) → byte < 256 → list_any test (escape_of byte) ≡ false
none_in_escape test mark x digits byte small =
    elim (cases_Bool (byte == 92)) [
      | inl is ↦ ap (list_any test) (cond-true _ _ _ is) ∙ or_from (test 92) (list_any test (codes "\\")) mark (or_from (test 92) false mark refl)
      | inr is ↦
          let high = none_at test (codes "0123456789abcdef") (byte / 16) (omega (arith, small)) digits in
          let low = none_at test (codes "0123456789abcdef") (byte % 16) (omega (arith, small)) digits in
          ap (list_any test) (cond-false _ _ _ is)
          ∙ or_from (test 92) (test 120 || (test (hex_digit (byte / 16)) || (test (hex_digit (byte % 16)) || false))) mark
          (or_from (test 120) (test (hex_digit (byte / 16)) || (test (hex_digit (byte % 16)) || false)) x
          (or_from (test (hex_digit (byte / 16))) (test (hex_digit (byte % 16)) || false) high
          (or_from (test (hex_digit (byte % 16))) false low refl)))
    ]

control_small : (byte : ℕ) → is_control byte ≡ true → byte < 256
control_small byte is = grind (arith, common_steps)

none_in_byte : (test : ℕ → Bool) → test 92 ≡ false → test 120 ≡ false → list_any test (codes "0123456789abcdef") ≡ false
    → ((byte : ℕ) → list_any test (reference_of byte) ≡ false)
    → ((byte : ℕ) → is_referred byte ≡ false → is_control byte ≡ false → test byte ≡ false)
    → (byte : ℕ) → list_any test (html_byte byte) ≡ false
none_in_byte test mark x digits reference kept byte =
    elim (cases_Bool (is_referred byte)) [
      | inl is ↦ ap (list_any test) (cond-true _ _ _ is) ∙ reference byte
      | inr other ↦
          ap (list_any test) (cond-false _ _ _ other)
          ∙ elim (cases_Bool (is_control byte)) [
            | inl is ↦ ap (list_any test) (cond-true _ _ _ is) ∙ none_in_escape test mark x digits byte (control_small byte is)
            | inr left ↦ ap (list_any test) (cond-false _ _ _ left) ∙ or_from (test byte) false (kept byte other left) refl
          ]
    ]

none_in_text : (test : ℕ → Bool) → ((byte : ℕ) → list_any test (html_byte byte) ≡ false) → (text : List ℕ) → list_any test (html_text text) ≡ false
none_in_text test none [] = refl
none_in_text test none (byte ∷ rest) = none_append test (html_byte byte) (html_text rest) (none byte) (none_in_text test none rest)

unmarked_reference : (byte : ℕ) → list_any is_markup (reference_of byte) ≡ false
unmarked_reference byte = grind (arith, common_steps)

unmarked_byte : (byte : ℕ) → is_referred byte ≡ false → is_control byte ≡ false → is_markup byte ≡ false
unmarked_byte byte other left = (or_parts (is_markup byte) (byte == 38) other).0

uncontrolled_reference : (byte : ℕ) → list_any is_control (reference_of byte) ≡ false
uncontrolled_reference byte = grind (arith, common_steps)

-- ---- references

passed : (front rest : List ℕ) → list_any (λ byte. byte == 38) front ≡ false → is_referenced (front ++ rest) ≡ is_referenced rest
passed [] rest none = refl
passed (byte ∷ front) rest none =
    let facts = or_parts (byte == 38) (list_any (λ byte. byte == 38) front) none in
    rw facts.0 (passed front rest facts.1)

reference_referenced : (byte : ℕ) (rest : List ℕ) → is_referenced (reference_of byte ++ rest) ≡ is_referenced rest
reference_referenced byte rest = grind (arith, common_steps)

byte_referenced : (byte : ℕ) (rest : List ℕ) → is_referenced (html_byte byte ++ rest) ≡ is_referenced rest
byte_referenced byte rest =
    elim (cases_Bool (is_referred byte)) [
      | inl is ↦ ap (λ front. is_referenced (front ++ rest)) (cond-true _ _ _ is) ∙ reference_referenced byte rest
      | inr other ↦
          ap (λ front. is_referenced (front ++ rest)) (cond-false _ _ _ other)
          ∙ elim (cases_Bool (is_control byte)) [
            | inl is ↦
                ap (λ front. is_referenced (front ++ rest)) (cond-true _ _ _ is)
                ∙ passed (escape_of byte) rest (none_in_escape (λ byte. byte == 38) refl refl refl byte (control_small byte is))
            | inr left ↦
                ap (λ front. is_referenced (front ++ rest)) (cond-false _ _ _ left)
                ∙ passed (byte ∷ []) rest (or_from (byte == 38) false (or_parts (is_markup byte) (byte == 38) other).1 refl)
          ]
    ]

text_referenced : (text : List ℕ) → is_referenced (html_text text) ≡ true
text_referenced [] = refl
text_referenced (byte ∷ rest) = byte_referenced byte (html_text rest) ∙ text_referenced rest

-- ---- all of it

pub free : (text : List ℕ) → IsMarkupFree (html_text text)
free text = record {
  markup = none_in_text is_markup (none_in_byte is_markup refl refl refl unmarked_reference unmarked_byte) text;
  references = text_referenced text;
  controls = none_in_text is_control (none_in_byte is_control refl refl refl uncontrolled_reference (λ byte other left. left)) text;
}
