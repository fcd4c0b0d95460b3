-- A text that contains a part, place by place.
use Rattle.std.proofs.Common.{◌≡◌, ℕ, suc, ◌+◌, ◌-◌, ◌<◌, ◌≤◌, min, take, arith, List, [], ◌∷◌, length, drop, true, false, refl, ap, sym, ◌∙◌, subst}
use Rattle.std.proofs.Math.Seq.{drop-cons}
use Rattle.std.proofs.lemmas.List.{take_min, drop_min, take_all, length-drop}
use Rattle.std.proofs.Math.ListN.{drop_of_length-le}
use Rattle.status_merge.specs.Selecting.{begins, has_part}

found : (text part : List ℕ) → begins text part ≡ true → has_part text part ≡ true
found [] part begun = begun
found (byte ∷ rest) part begun = rw begun refl

missed : (byte : ℕ) (rest part : List ℕ) → begins (byte ∷ rest) part ≡ false
    → has_part (byte ∷ rest) part ≡ has_part rest part
missed byte rest part other = rw other refl

-- it begins here with the part
pub found_at : (text part : List ℕ) (place : ℕ) → has_part (drop place text) part ≡ has_part text part
    → begins (drop place text) part ≡ true → true ≡ has_part text part
found_at text part place same begun = sym (found (drop place text) part begun) ∙ same

-- it doesn't, so only its rest can contain it
pub missed_at : (text part : List ℕ) (place : ℕ) → place < length text
    → has_part (drop place text) part ≡ has_part text part → begins (drop place text) part ≡ false
    → has_part (drop (place + 1) text) part ≡ has_part text part
missed_at text part place inside same other =
    let cut = drop-cons text place 0 inside in
    let next : place + 1 ≡ suc place = omega arith in
    ap (λ n. has_part (drop n text) part) next
    ∙ sym
    (ap (λ (rest : List ℕ). has_part rest part) cut
    ∙ missed _ _ part (subst (λ (rest : List ℕ). begins rest part ≡ false) cut other))
    ∙ same

-- the rest of a text from a place on
pub rest_of : (text : List ℕ) (place : ℕ) → take (length text - place) (drop place text) ≡ drop place text
rest_of text place = take_all (length text - place) (drop place text) (omega (arith, length-drop place text))

-- the text has ended
pub ended : (text part : List ℕ) (place : ℕ) → length text ≤ place
    → has_part (drop place text) part ≡ has_part text part → begins [] part ≡ has_part text part
ended text part place past same = ap (λ (rest : List ℕ). has_part rest part) (sym (drop_of_length-le text past)) ∙ same

-- ---- pages

-- so many items from a place on, which a slice may not pass
pub sliced : {X : Type 0} (items : List X) (before count : ℕ)
    → take (min count (length (take (length items - min before (length items)) (drop (min before (length items)) items))))
    (take (length items - min before (length items)) (drop (min before (length items)) items))
    ≡ take count (drop before items)
sliced items before count =
    let first = min before (length items) in
    let rest = drop first items in
    let whole : take (length items - first) rest ≡ rest =
    take_all (length items - first) rest (omega (arith, length-drop first items)) in
    take_min count (take (length items - first) rest) ∙ ap (take count) (whole ∙ drop_min before items)
