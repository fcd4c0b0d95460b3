-- A text that is cut at a byte.
use Rattle.std.proofs.Common.{◌≡◌, ℕ, suc, ◌+◌, ◌-◌, ◌<◌, Bool, true, false, List, [], ◌∷◌, ◌++◌, length, take, drop, get_or, ◌==◌, ◌||◌, refl, sym, ap, ◌∙◌, arith, add-one, drop-cons}
use Rattle.std.specs.List.{position_or_len}
use Rattle.std.proofs.lemmas.Bool.{or_parts, or_from, eq-eqb}
use Rattle.std.proofs.lemmas.List.{take-append-drop, take_rest, take_all}
use Rattle.std.proofs.lemmas.List.Folds.{list_any-append}
use Rattle.gate_grammar.specs.Spelling.{holds}
use Rattle.gate_grammar.specs.Faults.{Begins}
use Rattle.gate_grammar.specs.Parsing.{text_before, text_from}
use Rattle.gate_grammar.proofs.Cuts.{before_clean, before_again, from_again}

or_true : (one other : Bool) → other ≡ true → (one || other) ≡ true
or_true true other is = refl
or_true false other is = is

-- a text holds the byte that stands in it
holds_at : (mark : ℕ) (front rest : List ℕ) → holds mark (front ++ mark ∷ rest) ≡ true
holds_at mark [] rest = ap (λ is. is || holds mark rest) (eq-eqb mark mark refl)
holds_at mark (byte ∷ front) rest = or_true (byte == mark) (holds mark (front ++ mark ∷ rest)) (holds_at mark front rest)

pub never_holds : (mark : ℕ) (front rest text : List ℕ) → text ≡ front ++ mark ∷ rest → holds mark text ≡ false → ⊥
never_holds mark front rest text is clean =
    let both : true ≡ false = sym (holds_at mark front rest) ∙ ap (holds mark) (sym is) ∙ clean in cc

-- what stands before the mark, and from the mark on, is known from the whole
pub same_front : (mark : ℕ) (front rest other after : List ℕ) → holds mark front ≡ false → holds mark other ≡ false → Begins mark rest → Begins mark after
    → front ++ rest ≡ other ++ after → (front ≡ other) × (rest ≡ after)
same_front mark front rest other after clean unmarked begins starts is = (
  sym (before_again mark front rest clean begins) ∙ ap (text_before mark) is ∙ before_again mark other after unmarked starts,
  sym (from_again mark front rest clean begins) ∙ ap (text_from mark) is ∙ from_again mark other after unmarked starts,
)

abbrev pub tail : List ℕ → List ℕ
tail [] = []
tail (byte ∷ rest) = rest

pub same_cut : (mark : ℕ) (front rest other after : List ℕ) → holds mark front ≡ false → holds mark other ≡ false
    → front ++ mark ∷ rest ≡ other ++ mark ∷ after → (front ≡ other) × (rest ≡ after)
same_cut mark front rest other after clean unmarked is =
    let both = same_front mark front (mark ∷ rest) other (mark ∷ after) clean unmarked refl refl is in
    (both.0, ap tail both.1)

pub none_together : (mark : ℕ) (front back : List ℕ) → holds mark front ≡ false → holds mark back ≡ false → holds mark (front ++ back) ≡ false
none_together mark front back one other = list_any-append (λ byte. byte == mark) front back ∙ or_from (holds mark front) (holds mark back) one other

-- the text is cut where the byte was found
pub cut_parts : (mark : ℕ) (text : List ℕ) (index : ℕ) → position_or_len (λ byte. byte == mark) text ≡ index → index < length text → get_or text index 0 ≡ mark
    → (text ≡ take index text ++ mark ∷ take (length text - (index + 1)) (drop (index + 1) text)) × (holds mark (take index text) ≡ false)
cut_parts mark text index at within is = (
  rw (take_rest text (index + 1), add-one)
      (sym (take-append-drop index text)
      ∙ ap (λ rest. take index text ++ rest) (drop-cons text index 0 within ∙ ap (λ byte. byte ∷ drop (suc index) text) is)),
  ap (λ count. holds mark (take count text)) (sym at) ∙ before_clean mark text,
)

-- a text in which the byte was not found
pub cut_none : (mark : ℕ) (text : List ℕ) → position_or_len (λ byte. byte == mark) text ≡ length text → holds mark text ≡ false
cut_none mark text at =
    ap (holds mark) (sym (take_all (length text) text (omega arith)))
    ∙ ap (λ count. holds mark (take count text)) (sym at) ∙ before_clean mark text
