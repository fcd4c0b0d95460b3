-- Filters and searches of lists.
use Rattle.std.proofs.Common.{◌≡◌, Bool, true, false, cond, ◌&&◌, ◌||◌, List, [], ◌∷◌, ◌++◌, Option, Some, None, reverse, refl, sym, ap, ◌∙◌}
use Rattle.std.specs.Prelude.{filter, find, option_map}
use Rattle.std.specs.List.{list_any, list_all}
use Rattle.std.proofs.lemmas.List.{reverse-append}
use Rattle.gate_model.proofs.Lists.{some_is}

-- two filters, in either order
filter-swap : {X : Type 0} (p q : X → Bool) (x : X) (xs : List X) (a b : Bool) → p x ≡ a → q x ≡ b → filter p (filter q xs) ≡ filter q (filter p xs)
    → filter p (cond b (x ∷ filter q xs) (filter q xs)) ≡ filter q (cond a (x ∷ filter p xs) (filter p xs))
filter-swap p q x xs true true e f more = ap (λ c. cond c (x ∷ filter p (filter q xs)) (filter p (filter q xs))) e ∙ ap (λ r. x ∷ r) more ∙ sym (ap (λ c. cond c (x ∷ filter q (filter p xs)) (filter q (filter p xs))) f)
filter-swap p q x xs true false e f more = more ∙ sym (ap (λ c. cond c (x ∷ filter q (filter p xs)) (filter q (filter p xs))) f)
filter-swap p q x xs false true e f more = ap (λ c. cond c (x ∷ filter p (filter q xs)) (filter p (filter q xs))) e ∙ more
filter-swap p q x xs false false e f more = more

pub filter-filter : {X : Type 0} (p q : X → Bool) (xs : List X) → filter p (filter q xs) ≡ filter q (filter p xs)
filter-filter p q [] = refl
filter-filter p q (x ∷ xs) = filter-swap p q x xs (p x) (q x) refl refl (filter-filter p q xs)

filter-both-at : {X : Type 0} (p q r : X → Bool) (x : X) (xs : List X) (a b : Bool) → p x ≡ a → q x ≡ b → r x ≡ (a && b) → filter q (filter p xs) ≡ filter r xs
    → filter q (cond a (x ∷ filter p xs) (filter p xs)) ≡ cond (r x) (x ∷ filter r xs) (filter r xs)
filter-both-at p q r x xs true true at_p at_q at_r more =
    ap (λ c. cond c (x ∷ filter q (filter p xs)) (filter q (filter p xs))) at_q ∙ ap (λ rest. x ∷ rest) more ∙ sym (ap (λ c. cond c (x ∷ filter r xs) (filter r xs)) at_r)
filter-both-at p q r x xs true false at_p at_q at_r more =
    ap (λ c. cond c (x ∷ filter q (filter p xs)) (filter q (filter p xs))) at_q ∙ more ∙ sym (ap (λ c. cond c (x ∷ filter r xs) (filter r xs)) at_r)
filter-both-at p q r x xs false b at_p at_q at_r more = more ∙ sym (ap (λ c. cond c (x ∷ filter r xs) (filter r xs)) at_r)

-- two filters, one after the other, are that of what both leave
pub filter-both : {X : Type 0} (p q r : X → Bool) → ((x : X) → r x ≡ (p x && q x)) → (xs : List X) → filter q (filter p xs) ≡ filter r xs
filter-both p q r is [] = refl
filter-both p q r is (x ∷ xs) = filter-both-at p q r x xs (p x) (q x) refl refl (is x) (filter-both p q r is xs)

both-true : (a b : Bool) → (a && b) ≡ true → (a ≡ true) × (b ≡ true)
both-true true true e = (refl, refl)
both-true true false e = cc
both-true false b e = cc

filter-agree-at : {X : Type 0} (p q known : X → Bool) (x : X) (xs : List X) (a : Bool) → p x ≡ a → list_all known (cond a (x ∷ filter p xs) (filter p xs)) ≡ true
    → (known x ≡ true → a ≡ true → q x ≡ true) → (a ≡ false → q x ≡ false)
    → (list_all known (filter p xs) ≡ true → filter p xs ≡ filter q xs)
    → cond a (x ∷ filter p xs) (filter p xs) ≡ cond (q x) (x ∷ filter q xs) (filter q xs)
filter-agree-at p q known x xs true at all on off more =
    let here = both-true (known x) (list_all known (filter p xs)) all in
    ap (λ rest. x ∷ rest) (more here.1) ∙ sym (ap (λ c. cond c (x ∷ filter q xs) (filter q xs)) (on here.0 refl))
filter-agree-at p q known x xs false at all on off more = more all ∙ sym (ap (λ c. cond c (x ∷ filter q xs) (filter q xs)) (off refl))

-- two tests leave the same, where what the one leaves is known and passes the other, and what it removes doesn't
pub filter-agree : {X : Type 0} (p q known : X → Bool) (xs : List X) → list_all known (filter p xs) ≡ true
    → ((x : X) → known x ≡ true → p x ≡ true → q x ≡ true) → ((x : X) → p x ≡ false → q x ≡ false)
    → filter p xs ≡ filter q xs
filter-agree p q known [] all on off = refl
filter-agree p q known (x ∷ xs) all on off =
    filter-agree-at p q known x xs (p x) refl all (on x) (off x) (λ rest. filter-agree p q known xs rest on off)

filter-all-at : {X : Type 0} (known p : X → Bool) (x : X) (xs : List X) (a : Bool) → (known x && list_all known xs) ≡ true → (list_all known xs ≡ true → list_all known (filter p xs) ≡ true)
    → list_all known (cond a (x ∷ filter p xs) (filter p xs)) ≡ true
filter-all-at known p x xs true all more =
    let here = both-true (known x) (list_all known xs) all in
    ap (λ b. b && list_all known (filter p xs)) here.0 ∙ more here.1
filter-all-at known p x xs false all more = more (both-true (known x) (list_all known xs) all).1

-- what is so of all is so of all that a filter leaves
pub filter-all : {X : Type 0} (known p : X → Bool) (xs : List X) → list_all known xs ≡ true → list_all known (filter p xs) ≡ true
filter-all known p [] all = refl
filter-all known p (x ∷ xs) all = filter-all-at known p x xs (p x) all (filter-all known p xs)

pub all-weaker : {X : Type 0} (known other : X → Bool) → ((x : X) → known x ≡ true → other x ≡ true) → (xs : List X) → list_all known xs ≡ true → list_all other xs ≡ true
all-weaker known other weaker [] all = refl
all-weaker known other weaker (x ∷ xs) all =
    let here = both-true (known x) (list_all known xs) all in
    ap (λ b. b && list_all other xs) (weaker x here.0) ∙ all-weaker known other weaker xs here.1

pub all-append : {X : Type 0} (known : X → Bool) (xs : List X) (x : X) → list_all known xs ≡ true → known x ≡ true → list_all known (xs ++ x ∷ []) ≡ true
all-append known [] x all here = ap (λ b. b && true) here
all-append known (y ∷ xs) x all here =
    let first = both-true (known y) (list_all known xs) all in
    ap (λ b. b && list_all known (xs ++ x ∷ [])) first.0 ∙ all-append known xs x first.1 here

-- ---- searches

pub option_map-none : {A B : Type 0} (f : A → B) (o : Option A) → option_map f o ≡ None → o ≡ None
option_map-none f None e = refl
option_map-none f (Some x) e = cc

find-none-at : {X : Type 0} (test : X → Bool) (x : X) (xs : List X) (a : Bool) → cond a (Some x) (find test xs) ≡ None → (find test xs ≡ None → list_any test xs ≡ false) → (a || list_any test xs) ≡ false
find-none-at test x xs true e more = cc
find-none-at test x xs false e more = more e

-- a search that finds nothing
pub find-none : {X : Type 0} (test : X → Bool) (xs : List X) → find test xs ≡ None → list_any test xs ≡ false
find-none test [] e = refl
find-none test (x ∷ xs) e = find-none-at test x xs (test x) e (find-none test xs)

or-false : (a b : Bool) → (a || b) ≡ false → (a ≡ false) × (b ≡ false)
or-false true b e = cc
or-false false b e = (refl, e)

or-comes : (a b c : Bool) → (a || (b || c)) ≡ (b || (a || c))
or-comes true true c = refl
or-comes true false c = refl
or-comes false true c = refl
or-comes false false c = refl

pub any-append : {X : Type 0} (test : X → Bool) (xs : List X) (x : X) → list_any test (xs ++ x ∷ []) ≡ (test x || list_any test xs)
any-append test [] x = refl
any-append test (y ∷ xs) x = ap (λ b. test y || b) (any-append test xs x) ∙ or-comes (test y) (test x) (list_any test xs)

pub any-reverse : {X : Type 0} (test : X → Bool) (xs : List X) → list_any test (reverse xs) ≡ list_any test xs
any-reverse test [] = refl
any-reverse test (x ∷ xs) =
    ap (list_any test) (reverse-append (x ∷ []) xs) ∙ any-append test (reverse xs) x ∙ ap (λ b. test x || b) (any-reverse test xs)

find-some-at : {X : Type 0} (test other : X → Bool) (y x : X) (xs : List X) (a : Bool) → test y ≡ a → cond a (Some y) (find test xs) ≡ Some x → other x ≡ true
    → (find test xs ≡ Some x → (list_any other xs ≡ true) × (test x ≡ true))
    → ((other y || list_any other xs) ≡ true) × (test x ≡ true)
find-some-at test other y x xs true at e here more =
    let same : y ≡ x = some_is y x e in
    (ap (λ z. other z || list_any other xs) same ∙ ap (λ b. b || list_any other xs) here, ap test (sym same) ∙ at)
find-some-at test other y x xs false at e here more =
    let rest = more e in
    (ap (λ b. other y || b) rest.0 ∙ or-true (other y), rest.1)
  where
    or-true : (b : Bool) → (b || true) ≡ true
    or-true true = refl
    or-true false = refl

-- what a search finds is in the list, and passes the test
pub find-some : {X : Type 0} (test other : X → Bool) (xs : List X) (x : X) → find test xs ≡ Some x → other x ≡ true → (list_any other xs ≡ true) × (test x ≡ true)
find-some test other [] x e here = cc
find-some test other (y ∷ xs) x e here = find-some-at test other y x xs (test y) refl e here (λ rest. find-some test other xs x rest here)
