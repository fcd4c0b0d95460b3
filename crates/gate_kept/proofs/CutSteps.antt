-- Bytes that are cut at a byte.
use Rattle.std.proofs.Common.{◌≡◌, ℕ, suc, ◌+◌, ◌-◌, ◌<◌, false, List, ◌∷◌, ◌++◌, length, take, drop, get_or, ◌==◌, sym, ap, ◌∙◌, arith, add-one, drop-cons}
use Rattle.std.specs.List.{position_or_len}
use Rattle.std.proofs.lemmas.List.{take-append-drop, take_rest, take_all}
use Rattle.gate_grammar.specs.Spelling.{holds}
use Rattle.gate_grammar.proofs.Cuts.{before_clean}

-- the text is cut where the byte was found
pub cut_parts : (mark : ℕ) (text : List ℕ) (index : ℕ) → position_or_len (λ byte. byte == mark) text ≡ index → index < length text → get_or text index 0 ≡ mark
    → (text ≡ take index text ++ mark ∷ take (length text - (index + 1)) (drop (index + 1) text)) × (holds mark (take index text) ≡ false)
cut_parts mark text index at within is = (
  rw (take_rest text (index + 1), add-one)
      (sym (take-append-drop index text)
      ∙ ap (λ rest. take index text ++ rest) (drop-cons text index 0 within ∙ ap (λ byte. byte ∷ drop (suc index) text) is)),
  ap (λ count. holds mark (take count text)) (sym at) ∙ before_clean mark text,
)

-- a text in which the byte was not found
pub cut_none : (mark : ℕ) (text : List ℕ) → position_or_len (λ byte. byte == mark) text ≡ length text → holds mark text ≡ false
cut_none mark text at =
    ap (holds mark) (sym (take_all (length text) text (omega arith)))
    ∙ ap (λ count. holds mark (take count text)) (sym at) ∙ before_clean mark text
