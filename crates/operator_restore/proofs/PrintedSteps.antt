-- Where log pages begin in a text.
use Rattle.std.proofs.Common.{◌≡◌, ℕ, ◌+◌, ◌<◌, ◌≤◌, List, [], ◌∷◌, ◌++◌, length, take, drop, refl, sym, ap, ◌∙◌, subst, arith, append_assoc, inl, inr}
use Rattle.std.specs.Prelude.{codes, ◌⊎◌, Option, Some, None, MatchOption}
use Rattle.std.proofs.lemmas.List.{take-append-drop, take_at, drop_at, length-append, length-take-le, drop-drop}
use Rattle.std.specs.Borrow.{Bor}
use Rattle.memchr.specs.Find.{OccursAt, Nowhere}
use Rattle.memchr.proofs.lemmas.MatchLemmas.{OccursAt-split, OccursAt-from_part}
use Rattle.operator_restore.specs.Printed.{BeginsAtLine, BeginsPage, HasNoPage, IsLastPage}

abbrev pub first_word : List ℕ
first_word = codes "log "

-- an LF, and how a page begins
abbrev needle : List ℕ
needle = codes "\nlog "

occurs : (text front after : List ℕ) → text ≡ front ++ (needle ++ after) → OccursAt text needle (length front)
occurs text front after is =
    let fits : length front + length needle ≤ length text =
    omega (arith, ap length is, length-append front (needle ++ after), length-append needle after) in
    let part : take (length needle) (drop (length front) text) ≡ needle =
    ap (λ (whole : List ℕ). take (length needle) (drop (length front) whole)) is
    ∙ ap (take (length needle)) (drop_at front (needle ++ after) (length front) refl)
    ∙ take_at needle after (length needle) refl in
    OccursAt-from_part text needle (length front) fits part

in_line : (text front later : List ℕ) → text ≡ front ++ 10 ∷ later → BeginsPage later → OccursAt text needle (length front)
in_line text front later is page =
    occurs text front page.0 (is ∙ ap (λ (rest : List ℕ). front ++ 10 ∷ rest) page.1)

pub no_page : (text : List ℕ) → Nowhere (OccursAt text needle) 0 (length text + 1) → (BeginsPage text → ⊥)
    → (rest : List ℕ) → BeginsAtLine text rest → BeginsPage rest → ⊥
no_page text none first rest (inl is) page = first (subst BeginsPage is page)
no_page text none first rest (inr (front, is)) page =
    none (length front) (omega arith) (omega (arith, ap length is, length-append front (10 ∷ rest)))
    (in_line text front rest is page)

later_is : (text front page : List ℕ) → text ≡ front ++ 10 ∷ page
    → Nowhere (OccursAt text needle) (length front + 1) (length text + 1)
    → (later : List ℕ) → BeginsAtLine page later → BeginsPage later → later ≡ page
later_is text front page whole none later (inl same) begins = same
later_is text front page whole none later (inr (more, is)) begins =
    let start : List ℕ = front ++ 10 ∷ more in
    let all : text ≡ start ++ 10 ∷ later =
    whole ∙ ap (λ (rest : List ℕ). front ++ 10 ∷ rest) is ∙ sym (append_assoc front (10 ∷ more) (10 ∷ later)) in
    absurd (
    none (length start) (omega (arith, length-append front (10 ∷ more)))
    (omega (arith, ap length all, length-append start (10 ∷ later))) (in_line text start later all begins)
    )

pub last_page : (text : List ℕ) (index : ℕ) (page : List ℕ) → OccursAt text needle index
    → Nowhere (OccursAt text needle) (index + 1) (length text + 1) → page ≡ drop (index + 1) text → IsLastPage text page
last_page text index page at none is =
    let front : List ℕ = take index text in
    let after : List ℕ = drop (index + 5) text in
    let split : drop index text ≡ needle ++ after = OccursAt-split text needle index at in
    let begins : page ≡ codes "log " ++ after = is ∙ sym (drop-drop 1 index text) ∙ ap (drop 1) split in
    let whole : text ≡ front ++ 10 ∷ page =
    sym (take-append-drop index text)
    ∙ ap (λ (rest : List ℕ). front ++ rest) (split ∙ ap (λ (rest : List ℕ). 10 ∷ rest) (sym begins)) in
    let size : length front ≡ index = length-take-le index text (omega (arith, at.fits)) in
    record {
      line = inr (front, whole);
      begins = (after, begins);
      last = later_is text front page whole (subst (λ (count : ℕ). Nowhere (OccursAt text needle) (count + 1) (length text + 1)) (sym size) none);
    }

-- where a page begins at no LF, the text is the only one, if it is
pub only_page : (text : List ℕ) (found : Option (Bor (List ℕ))) → Nowhere (OccursAt text needle) 0 (length text + 1)
    → MatchOption found (BeginsPage text → ⊥) (λ page. (page.now ≡ text) × BeginsPage text)
    → MatchOption found (HasNoPage text) (λ page. IsLastPage text page.now)
only_page text None none first = no_page text none first
only_page text (Some page) none is = subst (IsLastPage text) (sym is.0) (record {
  line = inl refl;
  begins = is.1;
  last = λ later at begins. elim at [
    | inl same ↦ same
    | inr parts ↦ absurd (
        none (length parts.0) (omega arith) (omega (arith, ap length parts.1, length-append parts.0 (10 ∷ later)))
        (in_line text parts.0 later parts.1 begins)
        )
  ];
})
