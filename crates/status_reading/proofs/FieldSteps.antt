-- The fields of a line, cut one after another.
use Rattle.std.proofs.Common.{◌≡◌, ℕ, ◌+◌, ◌<◌, ◌≤◌, false, List, [], ◌∷◌, ◌++◌, length, take, set, Bor, refl, sym, ap, subst, ◌∙◌, arith, append-nil, append_assoc}
use Rattle.std.specs.List.{AllByRecursion}
use Rattle.std.proofs.lemmas.Grind.{flat_map-append}
use Rattle.std.proofs.lemmas.List.{map-set, take_more_set, take_all, length-map, length-take, length-set}
use Rattle.gate_grammar.specs.Spelling.{joined, holds, IsSplit}
use Rattle.gate_grammar.specs.Faults.{Begins}
use Rattle.status_reading.specs.inner.Reading.{AreFieldsOf, texts_of}
use Rattle.status_reading.proofs.CutSteps.{never_holds, same_front, tail}

-- no text holds a semicolon
abbrev pub AreClean : List (List ℕ) → Type 0
AreClean texts = AllByRecursion (λ text. holds 59 text ≡ false) texts

joined_append : (front back : List (List ℕ)) → joined (front ++ back) ≡ joined front ++ joined back
joined_append front back = flat_map-append (λ text. 59 ∷ text) front back

joined_last : (front : List (List ℕ)) (text : List ℕ) → joined (front ++ text ∷ []) ≡ joined front ++ 59 ∷ text
joined_last front text = joined_append front (text ∷ []) ∙ ap (λ rest. joined front ++ 59 ∷ rest) (append-nil text)

clean_more : (front : List (List ℕ)) (text : List ℕ) → AreClean front → holds 59 text ≡ false → AreClean (front ++ text ∷ [])
clean_more [] text clean one = (one, tt)
clean_more (first ∷ front) text clean one = (clean.0, clean_more front text clean.1 one)

pub split_last : (front : List (List ℕ)) (text : List ℕ) → AreClean front → IsSplit (front ++ text ∷ [])
split_last [] text clean = tt
split_last (first ∷ []) text clean = (clean.0, tt)
split_last (first ∷ next ∷ front) text clean = (clean.0, split_last (next ∷ front) text clean.1)

begins_more : (front : List (List ℕ)) (rest : List ℕ) → Begins 59 (joined front ++ 59 ∷ rest)
begins_more [] rest = refl
begins_more (text ∷ front) rest = refl

-- a text whose rest has no semicolon has no more fields
too_few : (front : List (List ℕ)) (rest : List ℕ) (others : List (List ℕ)) → AreClean front → holds 59 rest ≡ false → length front + 1 < length others
    → IsSplit others → joined front ++ 59 ∷ rest ≡ joined others → ⊥
too_few front rest [] clean none few split is = omega arith
too_few [] rest (one ∷ []) clean none few split is = omega arith
too_few (first ∷ front) rest (one ∷ []) clean none few split is = omega arith
too_few [] rest (one ∷ next ∷ others) clean none few split is = never_holds 59 one (next ++ joined others) rest (ap tail is) none
too_few (first ∷ front) rest (one ∷ next ∷ others) clean none few split is =
    let parts = same_front 59 first (joined front ++ 59 ∷ rest) one (joined (next ∷ others)) clean.0 split.0 (begins_more front rest) refl (sym (append_assoc first (joined front) (59 ∷ rest)) ∙ ap tail is) in
    too_few front rest (next ∷ others) clean.1 none (omega arith) split.1 parts.1

-- ---- the fields that were taken so far

pub record IsTaken (text : List ℕ) (fields : List (Bor (List ℕ))) (count : ℕ) (rest : List ℕ) : Type 0 where
  pub front : 59 ∷ text ≡ joined (take count (texts_of fields)) ++ 59 ∷ rest
  pub clean : AreClean (take count (texts_of fields))

took : (fields : List (Bor (List ℕ))) (index : ℕ) (field : Bor (List ℕ)) → index < length fields
    → take (index + 1) (texts_of (set fields index field)) ≡ take index (texts_of fields) ++ field.now ∷ []
took fields index field within =
    ap (take (index + 1)) (map-set (λ (reference : Bor (List ℕ)). reference.now) fields index field)
    ∙ take_more_set (texts_of fields) index field.now (omega (arith, length-map fields (λ (reference : Bor (List ℕ)). reference.now)))

pub taken_more : (text : List ℕ) (fields : List (Bor (List ℕ))) (index : ℕ) (rest after : List ℕ) (field : Bor (List ℕ)) → index < length fields
    → IsTaken text fields index rest → rest ≡ field.now ++ 59 ∷ after → holds 59 field.now ≡ false
    → IsTaken text (set fields index field) (index + 1) after
taken_more text fields index rest after field within taken is clean =
    let front = take index (texts_of fields) in
    let more = took fields index field within in
    record {
      front =
          taken.front
          ∙ ap (λ x. joined front ++ 59 ∷ x) is
          ∙ sym (append_assoc (joined front) (59 ∷ field.now) (59 ∷ after))
          ∙ ap (λ x. x ++ 59 ∷ after) (sym (joined_last front field.now) ∙ ap joined (sym more));
      clean = subst AreClean (sym more) (clean_more front field.now taken.clean clean);
    }

pub all_taken : (text : List ℕ) (fields : List (Bor (List ℕ))) (count last : ℕ) (rest : Bor (List ℕ)) → count ≡ last → length fields ≡ last + 1
    → IsTaken text fields count rest.now
    → AreFieldsOf (texts_of (set fields last rest)) text
all_taken text fields count last rest at size before =
    let taken : IsTaken text fields last rest.now = subst (λ n. IsTaken text fields n rest.now) at before in
    let front = take last (texts_of fields) in
    let known : length (texts_of (set fields last rest)) ≤ last + 1 = omega (arith, length-map (set fields last rest) (λ (reference : Bor (List ℕ)). reference.now), length-set fields last rest) in
    let whole : texts_of (set fields last rest) ≡ front ++ rest.now ∷ [] = sym (take_all (last + 1) (texts_of (set fields last rest)) known) ∙ took fields last rest (omega arith) in
    (taken.front ∙ sym (joined_last front rest.now) ∙ ap joined (sym whole), subst IsSplit (sym whole) (split_last front rest.now taken.clean))

pub none_fits : (text : List ℕ) (fields : List (Bor (List ℕ))) (count : ℕ) (rest : List ℕ) → IsTaken text fields count rest → holds 59 rest ≡ false
    → count + 1 < length fields → (others : List (List ℕ)) → length others ≡ length fields → AreFieldsOf others text → ⊥
none_fits text fields count rest taken none few others size are =
    too_few (take count (texts_of fields)) rest others taken.clean none
    (omega (arith, length-take count (texts_of fields), length-map fields (λ (reference : Bor (List ℕ)). reference.now)))
    are.1 (sym taken.front ∙ are.0)

-- ---- the same fields

pub same_fields : (fields others : List (List ℕ)) → length fields ≡ length others → IsSplit fields → IsSplit others → joined fields ≡ joined others → fields ≡ others
same_fields [] [] size split splits is = refl
same_fields [] (other ∷ others) size split splits is = absurd (omega arith)
same_fields (one ∷ fields) [] size split splits is = absurd (omega arith)
same_fields (one ∷ []) (other ∷ []) size split splits is = ap (λ text. text ∷ []) (sym (append-nil one) ∙ ap tail is ∙ append-nil other)
same_fields (one ∷ []) (other ∷ after ∷ others) size split splits is = absurd (omega arith)
same_fields (one ∷ next ∷ fields) (other ∷ []) size split splits is = absurd (omega arith)
same_fields (one ∷ next ∷ fields) (other ∷ after ∷ others) size split splits is =
    let parts = same_front 59 one (joined (next ∷ fields)) other (joined (after ∷ others)) split.0 splits.0 refl refl (ap tail is) in
    let rest = same_fields (next ∷ fields) (after ∷ others) (omega arith) split.1 splits.1 parts.1 in
    ap (λ text. text ∷ next ∷ fields) parts.0 ∙ ap (λ texts. other ∷ texts) rest
