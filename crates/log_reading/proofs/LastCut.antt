-- A text that is cut at the last such byte, or at its beginning or its end.
use Rattle.std.proofs.Common.{◌≡◌, ℕ, suc, ◌+◌, ◌-◌, ◌≤◌, ◌<◌, true, false, List, [], ◌∷◌, ◌++◌, length, take, drop, get_or, ◌==◌, refl, sym, ap, ◌∙◌, arith, add-one, drop-cons}
use Rattle.std.specs.Str.{bytes_eq}
use Rattle.std.proofs.lemmas.Bool.{or_from, false_from_ne_true, eqb-true, false≢true}
use Rattle.std.proofs.lemmas.List.{take-append-drop, take_rest, take_at, drop_at, get_or-drop, length-drop, length-append}
use Rattle.std.proofs.lemmas.Slice.Eq.{bytes_eq-Decides}
use Rattle.gate_grammar.specs.Spelling.{holds}
use Rattle.status_reading.proofs.CutSteps.{never_holds, tail}

none_at : (mark : ℕ) (text : List ℕ) → ((k : ℕ) → k < length text → (get_or text k 0 == mark) ≡ true → ⊥) → holds mark text ≡ false
none_at mark [] none = refl
none_at mark (byte ∷ text) none =
    or_from (byte == mark) (holds mark text) (false_from_ne_true _ (none 0 (omega arith))) (none_at mark text (λ k low is. none (suc k) (omega arith) is))

pub none_held : (mark : ℕ) (text : List ℕ) → ((k : ℕ) → 0 ≤ k → k < length text → (get_or text k 0 == mark) ≡ true → ⊥) → holds mark text ≡ false
none_held mark text none = none_at mark text (λ k low is. none k (omega arith) low is)

none_after : (mark : ℕ) (text : List ℕ) (index : ℕ) → ((k : ℕ) → index + 1 ≤ k → k < length text → (get_or text k 0 == mark) ≡ true → ⊥)
    → holds mark (drop (index + 1) text) ≡ false
none_after mark text index none =
    none_at mark (drop (index + 1) text)
    (λ k low is. none (index + 1 + k) (omega arith) (omega (arith, low, length-drop (index + 1) text))
    (ap (λ byte. byte == mark) (sym (get_or-drop (index + 1) text k 0)) ∙ is))

pub last_parts : (mark : ℕ) (text : List ℕ) (index : ℕ) → index < length text → (get_or text index 0 == mark) ≡ true
    → ((k : ℕ) → index + 1 ≤ k → k < length text → (get_or text k 0 == mark) ≡ true → ⊥)
    → (text ≡ take index text ++ mark ∷ take (length text - (index + 1)) (drop (index + 1) text))
    × (holds mark (take (length text - (index + 1)) (drop (index + 1) text)) ≡ false)
last_parts mark text index within is none = (
  rw (take_rest text (index + 1), add-one)
      (sym (take-append-drop index text)
      ∙ ap (λ rest. take index text ++ rest) (drop-cons text index 0 within ∙ ap (λ byte. byte ∷ drop (suc index) text) (eqb-true (get_or text index 0) mark is))),
  rw (take_rest text (index + 1)) (none_after mark text index none),
)

-- what stands before the last mark, and after it, is known from the whole
pub same_last : (mark : ℕ) (front rest other after : List ℕ) → holds mark rest ≡ false → holds mark after ≡ false
    → front ++ mark ∷ rest ≡ other ++ mark ∷ after → (front ≡ other) × (rest ≡ after)
same_last mark [] rest [] after clean unmarked is = (refl, ap tail is)
same_last mark [] rest (byte ∷ other) after clean unmarked is = absurd (never_holds mark other after rest (ap tail is) clean)
same_last mark (byte ∷ front) rest [] after clean unmarked is = absurd (never_holds mark front rest after (sym (ap tail is)) unmarked)
same_last mark (byte ∷ front) rest (next ∷ other) after clean unmarked is =
    let both = same_last mark front rest other after clean unmarked (ap tail is) in
    let first : byte ≡ next = ap (λ text. get_or text 0 0) is in
    (ap (λ head. head ∷ front) first ∙ ap (λ back. next ∷ back) both.0, both.1)

-- ---- what a text begins or ends with

pub begun : (text front rest : List ℕ) → bytes_eq (take (length front) text) front ≡ true → rest ≡ drop (length front) text → text ≡ front ++ rest
begun text front rest same is =
    sym (take-append-drop (length front) text)
    ∙ ap (λ start. start ++ drop (length front) text) ((bytes_eq-Decides (take (length front) text) front).0 same)
    ∙ ap (λ back. front ++ back) (sym is)

pub not_begun : (text front rest : List ℕ) → bytes_eq (take (length front) text) front ≡ false → text ≡ front ++ rest → ⊥
not_begun text front rest other is =
    let start : take (length front) text ≡ front = ap (take (length front)) is ∙ take_at front rest (length front) refl in
    false≢true (sym other ∙ (bytes_eq-Decides (take (length front) text) front).1 start)

pub ended : (text front back : List ℕ) → bytes_eq (drop (length text - length back) text) back ≡ true → front ≡ take (length text - length back) text
    → text ≡ front ++ back
ended text front back same is =
    let count = length text - length back in
    sym (take-append-drop count text)
    ∙ ap (λ end. take count text ++ end) ((bytes_eq-Decides (drop count text) back).0 same)
    ∙ ap (λ start. start ++ back) (sym is)

pub not_ended : (text front back : List ℕ) → bytes_eq (drop (length text - length back) text) back ≡ false → text ≡ front ++ back → ⊥
not_ended text front back other is =
    let count : length front ≡ length text - length back = omega (arith, ap length is, length-append front back) in
    let end : drop (length text - length back) text ≡ back = ap (drop (length text - length back)) is ∙ drop_at front back _ count in
    false≢true (sym other ∙ (bytes_eq-Decides (drop (length text - length back) text) back).1 end)
