-- One more item of a text: taken or named.
use Rattle.std.proofs.Common.{◌≡◌, ℕ, ◌+◌, List, [], ◌∷◌, ◌++◌, length, inl, inr, refl, subst, ap, ◌∙◌, arith}
use Rattle.std.specs.List.{concat, AllByRecursion}
use Rattle.std.proofs.lemmas.List.{append-nil}
use Rattle.std.proofs.lemmas.List.Folds.{concat-append}
use Rattle.std.proofs.lemmas.Grind.{flat_map-append}
use Rattle.gate_kept.specs.declared.fault.KeptFault.{KeptFault}
use Rattle.gate_kept.specs.Kept.{Gives, lines_text}

pub takes : (G : List ℕ → Type 0) (B : ℕ → List ℕ → KeptFault → Type 0) (number : ℕ) (items : List (List ℕ)) (item : List ℕ) (taken : List (List ℕ)) (faults : List KeptFault)
    → Gives G B number items taken faults → G item → Gives G B number (items ++ item ∷ []) (taken ++ item ∷ []) faults
takes G B number [] item taken faults (none, unnamed) good = inl ([], good, ap (λ l. l ++ item ∷ []) none, (refl, unnamed))
takes G B number (first ∷ items) item taken faults (inl (others, one, is, rest)) good =
    inl (others ++ item ∷ [], one, ap (λ l. l ++ item ∷ []) is, takes G B (number + 1) items item others faults rest good)
takes G B number (first ∷ items) item taken faults (inr (fault, others, bad, is, rest)) good =
    inr (fault, others, bad, is, takes G B (number + 1) items item taken others rest good)

none_before : (number at : ℕ) → at ≡ number + 0 → at ≡ number
none_before number at is = omega (arith, is)

next_at : (number at count : ℕ) → at ≡ number + (1 + count) → at ≡ number + 1 + count
next_at number at count is = omega (arith, is)

later : (number at : ℕ) (first : List ℕ) (items : List (List ℕ)) → at ≡ number + length (first ∷ items) → at ≡ number + 1 + length items
later number at first items is = omega (arith, is)

pub names : (G : List ℕ → Type 0) (B : ℕ → List ℕ → KeptFault → Type 0) (number at : ℕ) (items : List (List ℕ)) (item : List ℕ) (taken : List (List ℕ)) (faults : List KeptFault)
    (fault : KeptFault) → Gives G B number items taken faults → at ≡ number + length items → B at item fault
    → Gives G B number (items ++ item ∷ []) taken (faults ++ fault ∷ [])
names G B number at [] item taken faults fault (none, unnamed) is bad =
    inr (fault, [], subst (λ n. B n item fault) (none_before number at is) bad, ap (λ l. l ++ fault ∷ []) unnamed, (none, refl))
names G B number at (first ∷ items) item taken faults fault (inl (others, one, same, rest)) is bad =
    inl (others, one, same, names G B (number + 1) at items item others faults fault rest (later number at first items is) bad)
names G B number at (first ∷ items) item taken faults fault (inr (one, others, worse, same, rest)) is bad =
    inr (one, others ++ fault ∷ [], worse, ap (λ l. l ++ fault ∷ []) same, names G B (number + 1) at items item taken others fault rest (later number at first items is) bad)

pub all_with : (P : List ℕ → Type 0) (items : List (List ℕ)) (item : List ℕ) → AllByRecursion P items → P item → AllByRecursion P (items ++ item ∷ [])
all_with P [] item all one = (one, tt)
all_with P (first ∷ items) item (here, all) one = (here, all_with P items item all one)

pub concat_with : (items : List (List ℕ)) (item : List ℕ) → concat (items ++ item ∷ []) ≡ concat items ++ item
concat_with items item = concat-append items (item ∷ []) ∙ ap (λ l. concat items ++ l) (append-nil item)

pub lines_with : (lines : List (List ℕ)) (line : List ℕ) → lines_text (lines ++ line ∷ []) ≡ lines_text lines ++ (line ++ 10 ∷ [])
lines_with lines line =
    flat_map-append (λ one. one ++ 10 ∷ []) lines (line ∷ []) ∙ ap (λ l. lines_text lines ++ l) (append-nil (line ++ 10 ∷ []))
