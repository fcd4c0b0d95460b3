-- The fields that a gateway writes: none holds an LF, and none but a line's last a semicolon.
use Rattle.std.proofs.Common.{◌≡◌, ℕ, zero, suc, ◌/◌, ◌%◌, ◌==◌, ◌||◌, Bool, true, false, inl, inr, List, [], ◌∷◌, ◌++◌, get_or, Option, Some, None, refl, ap, ◌∙◌, arith, append-nil}
use Rattle.std.specs.Prelude.{codes, nat_lt}
use Rattle.std.specs.List.{AllByRecursion}
use Rattle.std.specs.Fmt.{decimal}
use Rattle.std.proofs.lemmas.Bool.{or_parts, or_from, cases_Bool, cond-true, cond-false, ltb-false, ne_eqb}
use Rattle.gate_model.specs.declared.state.State.{State}
use Rattle.gate_model.specs.declared.state.State.TheVariants.{Pending}
use Rattle.gate_grammar.specs.Spelling.{joined, holds}
use Rattle.gate_grammar.proofs.Numerals.{decimal_digits, none_in_digits, digit_isnt}
use Rattle.gate_model.specs.Escaping.{hex_digit, is_escaped, escape_of, escaped_byte, escaped}
use Rattle.gate_lines.specs.Lines.{service_text, state_name, optional_number, freshness_name, persistence_digit, plan_name}
use Rattle.status_reading.specs.declared.rows.ShownAcknowledgement.{ShownAcknowledgement}
use Rattle.status_reading.specs.declared.rows.ShownAcknowledgement.TheVariants.{Missing, Normal, Sticky}
use Rattle.status_reading.specs.declared.rows.ShownSource.{ShownSource}
use Rattle.status_reading.specs.declared.rows.ShownSource.TheVariants as source
use Rattle.status_reading.specs.Page.{shown_acknowledgement, shown_source}
use Rattle.status_reading.specs.Readable.{AreApart, Fits, MayFit}
use Rattle.status_reading.specs.Board.{HoldsNone, MayHoldNone}
use Rattle.status_reading.proofs.CutSteps.{none_together}
use Rattle.status_reading.proofs.FieldSteps.{AreClean, split_last}
use Rattle.status_reading.proofs.FaultSteps.{number_in_line}

-- neither a semicolon nor an LF
abbrev pub IsField : List ℕ → Type 0
IsField text = (holds 59 text ≡ false) × (holds 10 text ≡ false)

-- ---- escaped texts

digit_at_isnt : (mark : ℕ) (digits : List ℕ) (index : ℕ) → holds mark digits ≡ false → (0 == mark) ≡ false → (get_or digits index 0 == mark) ≡ false
digit_at_isnt mark [] index none zero_isnt = zero_isnt
digit_at_isnt mark (digit ∷ digits) zero none zero_isnt = (or_parts (digit == mark) (holds mark digits) none).0
digit_at_isnt mark (digit ∷ digits) (suc index) none zero_isnt = digit_at_isnt mark digits index (or_parts (digit == mark) (holds mark digits) none).1 zero_isnt

hex_isnt : (mark number : ℕ) → holds mark (codes "0123456789abcdef") ≡ false → (0 == mark) ≡ false → (hex_digit number == mark) ≡ false
hex_isnt mark number none zero_isnt = digit_at_isnt mark (codes "0123456789abcdef") number none zero_isnt

escape_holds_none : (mark byte : ℕ) → holds mark (codes "\\x") ≡ false → holds mark (codes "0123456789abcdef") ≡ false → (0 == mark) ≡ false → holds mark (escape_of byte) ≡ false
escape_holds_none mark byte front none zero_isnt =
    let parts = or_parts (92 == mark) (holds mark (codes "x")) front in
    elim (cases_Bool (byte == 92)) [
      | inl is ↦ ap (holds mark) (cond-true _ _ _ is) ∙ or_from (92 == mark) (holds mark (codes "\\")) parts.0 (or_from (92 == mark) false parts.0 refl)
      | inr is ↦
          ap (holds mark) (cond-false _ _ _ is)
          ∙ none_together mark (codes "\\x") (hex_digit (byte / 16) ∷ hex_digit (byte % 16) ∷ []) front
          (or_from (hex_digit (byte / 16) == mark) (holds mark (hex_digit (byte % 16) ∷ [])) (hex_isnt mark (byte / 16) none zero_isnt)
          (or_from (hex_digit (byte % 16) == mark) false (hex_isnt mark (byte % 16) none zero_isnt) refl))
    ]

byte_in_line : (byte : ℕ) → holds 10 (escaped_byte byte) ≡ false
byte_in_line byte =
    elim (cases_Bool (is_escaped byte)) [
      | inl is ↦ ap (holds 10) (cond-true _ _ _ is) ∙ escape_holds_none 10 byte refl refl refl
      | inr is ↦
          let parts = or_parts ((byte == 92) || nat_lt byte 32) (byte == 127) is in
          let low = ltb-false byte 32 (or_parts (byte == 92) (nat_lt byte 32) parts.0).1 in
          ap (holds 10) (cond-false _ _ _ is) ∙ or_from (byte == 10) false (ne_eqb byte 10 (λ e. omega (arith, low))) refl
    ]

byte_unsplit : (byte : ℕ) → (byte == 59) ≡ false → holds 59 (escaped_byte byte) ≡ false
byte_unsplit byte other =
    elim (cases_Bool (is_escaped byte)) [
      | inl is ↦ ap (holds 59) (cond-true _ _ _ is) ∙ escape_holds_none 59 byte refl refl refl
      | inr is ↦ ap (holds 59) (cond-false _ _ _ is) ∙ or_from (byte == 59) false other refl
    ]

pub text_in_line : (text : List ℕ) → holds 10 (escaped text) ≡ false
text_in_line [] = refl
text_in_line (byte ∷ text) = none_together 10 (escaped_byte byte) (escaped text) (byte_in_line byte) (text_in_line text)

text_unsplit : (text : List ℕ) → HoldsNone text → holds 59 (escaped text) ≡ false
text_unsplit [] none = refl
text_unsplit (byte ∷ text) none =
    let parts = or_parts (byte == 59) (holds 59 text) none in
    none_together 59 (escaped_byte byte) (escaped text) (byte_unsplit byte parts.0) (text_unsplit text parts.1)

pub text_field : (text : List ℕ) → HoldsNone text → IsField (escaped text)
text_field text none = (text_unsplit text none, text_in_line text)

pub service_field : (service : Option (List ℕ)) → MayHoldNone service → IsField (service_text service)
service_field None none = (refl, refl)
service_field (Some name) none = text_field name none

-- ---- numbers and words

number_unsplit : (number : ℕ) → Fits number → holds 59 (decimal number) ≡ false
number_unsplit number fits = none_in_digits (λ byte. byte == 59) (λ byte low high. digit_isnt 59 byte low high (λ e. omega arith)) (decimal number) (decimal_digits number (omega arith))

pub number_field : (number : ℕ) → Fits number → IsField (decimal number)
number_field number fits = (number_unsplit number fits, number_in_line number fits)

pub optional_field : (number : Option ℕ) → MayFit number → IsField (optional_number number)
optional_field None fits = (refl, refl)
optional_field (Some number) fits = number_field number fits

pub state_field : (state : State) → IsField (state_name state)
state_field Pending = (refl, refl)
state_field _ = (refl, refl)

pub freshness_field : (stale : Bool) → IsField (freshness_name stale)
freshness_field true = (refl, refl)
freshness_field false = (refl, refl)

pub persistence_field : (persistent : Bool) → IsField (persistence_digit persistent)
persistence_field true = (refl, refl)
persistence_field false = (refl, refl)

pub plan_field : (fixed : Bool) → IsField (plan_name fixed)
plan_field true = (refl, refl)
plan_field false = (refl, refl)

pub acknowledgement_field : (made : ShownAcknowledgement) → IsField (shown_acknowledgement made)
acknowledgement_field Missing = (refl, refl)
acknowledgement_field Normal = (refl, refl)
acknowledgement_field Sticky = (refl, refl)

pub source_field : (from : ShownSource) → IsField (shown_source from)
source_field source.User = (refl, refl)
source_field source.Acknowledgement = (refl, refl)
source_field source.Downtime = (refl, refl)

-- ---- the fields of a line

fields_clean : (fields : List (List ℕ)) → AllByRecursion IsField fields → AreClean fields
fields_clean [] all = tt
fields_clean (field ∷ fields) all = (all.0.0, fields_clean fields all.1)

fields_in_line : (fields : List (List ℕ)) (last : List ℕ) → AllByRecursion IsField fields → holds 10 last ≡ false → holds 10 (joined (fields ++ last ∷ [])) ≡ false
fields_in_line [] last all one_line = ap (holds 10) (append-nil last) ∙ one_line
fields_in_line (field ∷ fields) last all one_line = none_together 10 (59 ∷ field) (joined (fields ++ last ∷ [])) all.0.1 (fields_in_line fields last all.1 one_line)

pub fields_apart : (fields : List (List ℕ)) (last : List ℕ) → AllByRecursion IsField fields → holds 10 last ≡ false → AreApart (fields ++ last ∷ [])
fields_apart fields last all one_line = record { split = split_last fields last (fields_clean fields all); one_line = fields_in_line fields last all one_line }
