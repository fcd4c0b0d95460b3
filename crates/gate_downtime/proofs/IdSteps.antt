-- Ascending ids: those of the rows that are live, and those that are left after a removal.
use Rattle.std.proofs.Common.{◌≡◌, ◌≢◌, ℕ, zero, suc, ◌+◌, ◌-◌, ◌≤◌, ◌<◌, Bool, true, false, cond, not, ◌&&◌, List, [], ◌∷◌, ◌++◌, map, get_or, take, drop, length, refl, sym, ap, ◌∙◌, subst, arith, inl, inr, eqb, ltb, lit<}
use Rattle.std.specs.Prelude.{Some, None, Contains, filter, slice_get}
use Rattle.std.specs.List.{position_from, remove, copy_within}
use Rattle.std.proofs.Math.Seq.{paste}
use Rattle.std.proofs.lemmas.Bool.Decides.{eqb_tells}
use Rattle.std.proofs.lemmas.Bool.{true≢false, lt-ltb, le-leb}
use Rattle.std.proofs.lemmas.List.{get_or-map, length-map, append_assoc, drop_at, drop-drop, length-take-le, take-append-drop}
use Rattle.std.proofs.lemmas.List.Edits.{remove-append_right}
use Rattle.std.proofs.lemmas.List.Elements.{Contains-append_cases, Contains-append_left, Contains-append_right}
use Rattle.gate_model.proofs.Lists.{position_from-found, position_from-within}
use Rattle.gate_downtime.specs.declared.row.Row.{Row}
use Rattle.gate_downtime.specs.inner.Rows.{live_at, is_live_row, some-row}
use Rattle.gate_downtime.specs.inner.Gone.{returned_ids}
use Rattle.gate_downtime.specs.inner.Live.{AreFrom, AreAscending, AreInside, index_among, live_ids}
use Rattle.gate_downtime.proofs.AscendingSteps.{same_as, at-least}

-- the ids but for this one
abbrev pub others : ℕ → List ℕ → List ℕ
others id ids = filter (λ (other : ℕ). not (same_as id other)) ids

eqb-apart : (m n : ℕ) → m ≢ n → eqb m n ≡ false
eqb-apart m n apart = elim (eqb_tells m n) [ inl w ↦ absurd (apart w.1) | inr w ↦ w.0 ]

eqb-same : (m n : ℕ) → m ≡ n → eqb m n ≡ true
eqb-same m n same = elim (eqb_tells m n) [ inl w ↦ w.0 | inr w ↦ absurd (w.1 same) ]

-- ---- a removal by an index

none-is : (id low : ℕ) (ids : List ℕ) → id < low → AreFrom low ids → others id ids ≡ ids
none-is id low [] lt h = refl
none-is id low (first ∷ ids) lt h =
    ap (λ b. cond (not b) (first ∷ others id ids) (others id ids)) (eqb-apart first id (λ e. absurd (omega (arith, e, lt, h.0))))
    ∙ ap (λ rest. first ∷ rest) (none-is id (first + 1) ids (omega (arith, lt, h.0)) h.1)

removed-at : (low : ℕ) (ids : List ℕ) → AreFrom low ids → (index id : ℕ) → slice_get ids index ≡ Some id → remove ids index ≡ others id ids
removed-at low [] h index id at = absurd (none_is_not_some at)
  where
    none_is_not_some : slice_get [] index ≡ Some id → ⊥
    none_is_not_some e = cc
removed-at low (first ∷ ids) h zero id at =
    let same : first ≡ id = some_is first id at in
    sym (ap (λ b. cond (not b) (first ∷ others id ids) (others id ids)) (eqb-same first id same) ∙ none-is id (first + 1) ids (omega (arith, same)) h.1)
  where
    some_is : (x y : ℕ) → Some x ≡ Some y → x ≡ y
    some_is x y e = cc
removed-at low (first ∷ ids) h (suc index) id at =
    let higher : first + 1 ≤ id = at-least (first + 1) ids h.1 index id at in
    ap (λ rest. first ∷ rest) (removed-at (first + 1) ids h.1 index id at)
    ∙ sym (ap (λ b. cond (not b) (first ∷ others id ids) (others id ids)) (eqb-apart first id (λ e. absurd (omega (arith, e, higher)))))

pub removed-is : (id index : ℕ) (ids : List ℕ) → AreAscending ids → Some index ≡ index_among id ids → remove ids index ≡ others id ids
removed-is id index ids ascending found =
    let w = position_from-found (same_as id) ids index (sym found) in
    let same : w.0 ≡ id = equal_from w.0 w.2 in
    removed-at 0 ids ascending index id (w.1 ∙ ap (λ (n : ℕ). Some n) same)
  where
    equal_from : (m : ℕ) → eqb m id ≡ true → m ≡ id
    equal_from m e = elim (eqb_tells m id) [ inl w ↦ w.1 | inr w ↦ absurd (true≢false (sym e ∙ w.0)) ]

pub found-within : (id index : ℕ) (ids : List ℕ) → Some index ≡ index_among id ids → index < length ids
found-within id index ids found = let h = position_from-within (same_as id) 0 ids index (sym found) in omega (arith, h.1)

missing-is : (id from : ℕ) (ids : List ℕ) → position_from (same_as id) from ids ≡ None → others id ids ≡ ids
missing-is id from [] e = refl
missing-is id from (first ∷ ids) e = split (same_as id first) (missing-is id (from + 1) ids) e
  where
    split : (b : Bool) → (position_from (same_as id) (from + 1) ids ≡ None → others id ids ≡ ids)
        → cond b (Some from) (position_from (same_as id) (from + 1) ids) ≡ None → cond (not b) (first ∷ others id ids) (others id ids) ≡ first ∷ ids
    split true rest e = cc
    split false rest e = ap (λ ids. first ∷ ids) (rest e)

pub unfound-is : (id : ℕ) (ids : List ℕ) → None ≡ index_among id ids → ids ≡ others id ids
unfound-is id ids missing = sym (missing-is id 0 ids (sym missing))

-- the ids before the one that goes move up, and the front is one longer
pub front-moved : (ids : List ℕ) (start index : ℕ) → start + index < length ids → drop (start + 1) (copy_within ids start (start + index) (start + 1)) ≡ remove (drop start ids) index
front-moved ids start index lt =
    let count : (start + index) - start ≡ index = omega arith in
    let next : start + 1 + index ≡ start + suc index = omega arith in
    let moved : List ℕ = take index (drop start ids) in
    let after : List ℕ = drop (start + 1 + index) ids in
    ap (λ n. drop (start + 1) (paste ids (start + 1) (drop start ids) n)) count
    ∙ ap (drop (start + 1)) (append_assoc (take (start + 1) ids) moved after)
    ∙ drop_at (take (start + 1) ids) (moved ++ after) (start + 1) (length-take-le (start + 1) ids (omega (arith, lt)))
    ∙ ap (λ n. moved ++ drop n ids) next ∙ ap (λ rest. moved ++ rest) (sym (drop-drop (suc index) start ids))

-- the ids after the one that goes move down
pub back-moved : (ids : List ℕ) (start index : ℕ) → start + index < length ids → drop start (remove ids (start + index)) ≡ remove (drop start ids) index
back-moved ids start index lt =
    let long : length (take start ids) ≡ start = length-take-le start ids (omega (arith, lt)) in
    let count : (start + index) - start ≡ index = omega arith in
    ap (λ all. drop start (remove all (start + index))) (sym (take-append-drop start ids))
    ∙ ap (drop start) (remove-append_right (take start ids) (drop start ids) start (start + index) long (omega arith))
    ∙ drop_at (take start ids) (remove (drop start ids) ((start + index) - start)) start long
    ∙ ap (remove (drop start ids)) count

-- ---- what a filter leaves

lower : (low above : ℕ) (ids : List ℕ) → low ≤ above → AreFrom above ids → AreFrom low ids
lower low above [] le h = h
lower low above (id ∷ ids) le h = (omega (arith, le, h.0), h.1)

filter-from : (P : ℕ → Bool) (low : ℕ) (ids : List ℕ) → AreFrom low ids → AreFrom low (filter P ids)
filter-from P low [] h = h
filter-from P low (id ∷ ids) h = split (P id) h.0 (filter-from P (id + 1) ids h.1)
  where
    split : (b : Bool) → low ≤ id → AreFrom (id + 1) (filter P ids) → AreFrom low (cond b (id ∷ filter P ids) (filter P ids))
    split true le rest = (le, rest)
    split false le rest = lower low (id + 1) (filter P ids) (omega (arith, le)) rest

pub filter-ascending : (P : ℕ → Bool) (ids : List ℕ) → AreAscending ids → AreAscending (filter P ids)
filter-ascending P ids h = filter-from P 0 ids h

pub length-filter : (P : ℕ → Bool) (ids : List ℕ) → length (filter P ids) ≤ length ids
length-filter P [] = omega arith
length-filter P (id ∷ ids) = split (P id) (length-filter P ids)
  where
    split : (b : Bool) → length (filter P ids) ≤ length ids → length (cond b (id ∷ filter P ids) (filter P ids)) ≤ length (id ∷ ids)
    split true h = omega (arith, h)
    split false h = omega (arith, h)

-- an id that the filter doesn't keep may be removed before
pub filter-others : (P : ℕ → Bool) (id : ℕ) (ids : List ℕ) → P id ≡ false → filter P (others id ids) ≡ filter P ids
filter-others P id [] off = refl
filter-others P id (first ∷ ids) off = elim (eqb_tells first id) [
  | inl w ↦
      ap (λ b. filter P (cond (not b) (first ∷ others id ids) (others id ids))) w.0 ∙ filter-others P id ids off
      ∙ sym (ap (λ b. cond b (first ∷ filter P ids) (filter P ids)) (ap P w.1 ∙ off))
  | inr w ↦
      ap (λ b. filter P (cond (not b) (first ∷ others id ids) (others id ids))) w.0
      ∙ ap (λ rest. cond (P first) (first ∷ rest) rest) (filter-others P id ids off)
]

head-in : (id : ℕ) (ids : List ℕ) → Contains (id ∷ ids) id
head-in id ids = Contains-append_left (id ∷ []) ids id (0, lit< tt, refl)

tail-in : (first id : ℕ) (ids : List ℕ) → Contains ids id → Contains (first ∷ ids) id
tail-in first id ids has = Contains-append_right (first ∷ []) ids id has

pub filter-all : (P : ℕ → Bool) (ids : List ℕ) → ((id : ℕ) → Contains ids id → P id ≡ false → ⊥) → ids ≡ filter P ids
filter-all P [] none = refl
filter-all P (id ∷ ids) none =
    sym (ap (λ b. cond b (id ∷ filter P ids) (filter P ids)) (on (P id) refl)
    ∙ ap (λ rest. id ∷ rest) (sym (filter-all P ids (λ other has off. none other (tail-in id other ids has) off))))
  where
    on : (b : Bool) → P id ≡ b → P id ≡ true
    on true e = e
    on false e = absurd (none id (head-in id ids) e)

cons-cases : (first id : ℕ) (ids : List ℕ) (X : Type 0) → Contains (first ∷ ids) id → (first ≡ id → X) → (Contains ids id → X) → X
cons-cases first id ids X has one rest = elim (Contains-append_cases (first ∷ []) ids id has) [
  | inl w ↦ one (only w.0 w.1 w.2)
  | inr w ↦ rest w
]
  where
    only : (k : ℕ) → k < length (first ∷ []) → get_or (first ∷ []) k id ≡ id → first ≡ id
    only zero lt is = is
    only (suc k) lt is = absurd (omega (arith, lt))

-- what is left is among what there was, and passes
pub filter-in : (P : ℕ → Bool) (id : ℕ) (ids : List ℕ) → Contains (filter P ids) id → Contains ids id × (P id ≡ true)
filter-in P id [] has = absurd (omega (arith, has.1))
filter-in P id (first ∷ ids) has = split (P first) refl (filter-in P id ids) has
  where
    split : (b : Bool) → P first ≡ b → (Contains (filter P ids) id → Contains ids id × (P id ≡ true)) → Contains (cond b (first ∷ filter P ids) (filter P ids)) id
        → Contains (first ∷ ids) id × (P id ≡ true)
    split true is rest has = cons-cases first id (filter P ids) (Contains (first ∷ ids) id × (P id ≡ true)) has
        (λ same. let Q : ℕ → Type 0 = λ x. Contains (first ∷ ids) x × (P x ≡ true) in subst Q same (head-in first ids, is))
        (λ more. let h = rest more in (tail-in first id ids h.0, h.1))
    split false is rest has = let h = rest has in (tail-in first id ids h.0, h.1)

pub others-in : (id other : ℕ) (ids : List ℕ) → Contains (others id ids) other → Contains ids other × (other ≢ id)
others-in id other ids has =
    let h = filter-in (λ (x : ℕ). not (same_as id x)) other ids has in
    (h.0, λ same. true≢false (sym h.1 ∙ ap not (eqb-same other id same)))

-- ---- the ids of flags

flags-from : (n : ℕ) (flags : List Bool) → AreFrom n (returned_ids n flags)
flags-from n [] = tt
flags-from n (true ∷ flags) = (omega arith, flags-from (n + 1) flags)
flags-from n (false ∷ flags) = lower n (n + 1) (returned_ids (n + 1) flags) (omega arith) (flags-from (n + 1) flags)

pub flags-ascending : (n : ℕ) (flags : List Bool) → AreAscending (returned_ids n flags)
flags-ascending n flags = lower 0 n (returned_ids n flags) (omega arith) (flags-from n flags)

pub flags-inside : (n : ℕ) (flags : List Bool) (id : ℕ) → Contains (returned_ids n flags) id → (n ≤ id) × (id < n + length flags)
flags-inside n [] id has = absurd (omega (arith, has.1))
flags-inside n (true ∷ flags) id has = cons-cases n id (returned_ids (n + 1) flags) ((n ≤ id) × (id < n + length (true ∷ flags))) has
    (λ same. (omega (arith, same), omega (arith, same)))
    (λ more. let h = flags-inside (n + 1) flags id more in (omega (arith, h.0), omega (arith, h.1)))
flags-inside n (false ∷ flags) id has = let h = flags-inside (n + 1) flags id has in (omega (arith, h.0), omega (arith, h.1))

-- an id of the flags has its flag
pub flag-of : (n k : ℕ) (flags : List Bool) → Contains (returned_ids n flags) (n + k) → get_or flags k false ≡ true
flag-of n k [] has = absurd (omega (arith, has.1))
flag-of n zero (true ∷ flags) has = refl
flag-of n zero (false ∷ flags) has = let h = flags-inside (n + 1) flags (n + 0) has in absurd (omega (arith, h.0))
flag-of n (suc k) (true ∷ flags) has = cons-cases n (n + suc k) (returned_ids (n + 1) flags) (get_or flags k false ≡ true) has
    (λ same. absurd (omega (arith, same)))
    (λ more. flag-of (n + 1) k flags (next more))
  where
    next : Contains (returned_ids (n + 1) flags) (n + suc k) → Contains (returned_ids (n + 1) flags) ((n + 1) + k)
    next more = let P : ℕ → Type 0 = λ x. Contains (returned_ids (n + 1) flags) x in let is : n + suc k ≡ (n + 1) + k = omega arith in subst P is more
flag-of n (suc k) (false ∷ flags) has = flag-of (n + 1) k flags (next has)
  where
    next : Contains (returned_ids (n + 1) flags) (n + suc k) → Contains (returned_ids (n + 1) flags) ((n + 1) + k)
    next more = let P : ℕ → Type 0 = λ x. Contains (returned_ids (n + 1) flags) x in let is : n + suc k ≡ (n + 1) + k = omega arith in subst P is more

pub flags-push : (n : ℕ) (flags : List Bool) (b : Bool) → returned_ids n (flags ++ b ∷ []) ≡ cond b (returned_ids n flags ++ (n + length flags) ∷ []) (returned_ids n flags)
flags-push n [] true = ap (λ id. id ∷ []) (omega arith)
flags-push n [] false = refl
flags-push n (true ∷ flags) b = ap (λ ids. n ∷ ids) (flags-push (n + 1) flags b) ∙ out b
  where
    out : (b : Bool) → n ∷ cond b (returned_ids (n + 1) flags ++ ((n + 1) + length flags) ∷ []) (returned_ids (n + 1) flags)
        ≡ cond b ((n ∷ returned_ids (n + 1) flags) ++ (n + length (true ∷ flags)) ∷ []) (n ∷ returned_ids (n + 1) flags)
    out true = ap (λ (id : ℕ). n ∷ (returned_ids (n + 1) flags ++ id ∷ [])) (let is : (n + 1) + length flags ≡ n + suc (length flags) = omega arith in is)
    out false = refl
flags-push n (false ∷ flags) b = flags-push (n + 1) flags b ∙ out b
  where
    out : (b : Bool) → cond b (returned_ids (n + 1) flags ++ ((n + 1) + length flags) ∷ []) (returned_ids (n + 1) flags)
        ≡ cond b (returned_ids (n + 1) flags ++ (n + length (false ∷ flags)) ∷ []) (returned_ids (n + 1) flags)
    out true = ap (λ (id : ℕ). returned_ids (n + 1) flags ++ id ∷ []) (let is : (n + 1) + length flags ≡ n + suc (length flags) = omega arith in is)
    out false = refl

-- a filter leaves the ids of fewer flags
pub flags-filter : (P : ℕ → Bool) (n : ℕ) (flags flags' : List Bool) → length flags' ≡ length flags → ((k : ℕ) → k < length flags' → P (n + k) ≡ get_or flags' k false)
    → ((k : ℕ) → k < length flags' → get_or flags' k false ≡ true → get_or flags k false ≡ true) → filter P (returned_ids n flags) ≡ returned_ids n flags'
flags-filter P n [] [] long is less = refl
flags-filter P n [] (b ∷ flags') long is less = absurd (omega (arith, long))
flags-filter P n (a ∷ flags) [] long is less = absurd (omega (arith, long))
flags-filter P n (a ∷ flags) (b ∷ flags') long is less =
    split a b (ap P (let z : n ≡ n + 0 = omega arith in z) ∙ is 0 (omega arith)) (less 0 (omega arith))
    (flags-filter P (n + 1) flags flags' (omega (arith, long))
    (λ k lt. ap P (let next : (n + 1) + k ≡ n + suc k = omega arith in next) ∙ is (suc k) (omega (arith, lt)))
    (λ k lt. less (suc k) (omega (arith, lt))))
  where
    split : (a b : Bool) → P n ≡ b → (b ≡ true → a ≡ true) → filter P (returned_ids (n + 1) flags) ≡ returned_ids (n + 1) flags'
        → filter P (returned_ids n (a ∷ flags)) ≡ returned_ids n (b ∷ flags')
    split true true is less rest = ap (λ b. cond b (n ∷ filter P (returned_ids (n + 1) flags)) (filter P (returned_ids (n + 1) flags))) is ∙ ap (λ ids. n ∷ ids) rest
    split true false is less rest = ap (λ b. cond b (n ∷ filter P (returned_ids (n + 1) flags)) (filter P (returned_ids (n + 1) flags))) is ∙ rest
    split false false is less rest = rest
    split false true is less rest = absurd (true≢false (sym (less refl)))

-- ---- the ids of live rows

-- a row of an id that was given is live by what it keeps
pub live-id : (first t k : ℕ) (rows : List Row) → k < length rows → is_live_row first rows t (first + k) ≡ live_at t (get_or rows k some-row)
live-id first t k rows lt =
    ap (λ b. (b && ltb (first + k) (first + length rows)) && live_at t (get_or rows ((first + k) - first) some-row)) (le-leb first (first + k) (omega arith))
    ∙ ap (λ b. (true && b) && live_at t (get_or rows ((first + k) - first) some-row)) (lt-ltb (first + k) (first + length rows) (omega (arith, lt)))
    ∙ ap (λ j. live_at t (get_or rows j some-row)) (let back : (first + k) - first ≡ k = omega arith in back)

flag-at : (t k : ℕ) (rows : List Row) → k < length rows → get_or (map (live_at t) rows) k false ≡ live_at t (get_or rows k some-row)
flag-at t k rows lt = get_or-map (live_at t) rows k some-row false lt

-- after a call that begins no row's life anew, a filter leaves the ids of those that are live
pub live-filter : (first t t' : ℕ) (rows rows' : List Row) → length rows' ≡ length rows
    → ((k : ℕ) → k < length rows' → live_at t' (get_or rows' k some-row) ≡ true → live_at t (get_or rows k some-row) ≡ true)
    → filter (is_live_row first rows' t') (live_ids first t rows) ≡ live_ids first t' rows'
live-filter first t t' rows rows' long less =
    let size : length (map (live_at t') rows') ≡ length rows' = length-map rows' (live_at t') in
    flags-filter (is_live_row first rows' t') first (map (live_at t) rows) (map (live_at t') rows') (size ∙ long ∙ sym (length-map rows (live_at t)))
    (λ k lt. live-id first t' k rows' (omega (arith, lt, size)) ∙ sym (flag-at t' k rows' (omega (arith, lt, size))))
    (λ k lt on. flag-at t k rows (omega (arith, lt, size, long)) ∙ less k (omega (arith, lt, size)) (sym (flag-at t' k rows' (omega (arith, lt, size))) ∙ on))

pub live-ascending : (first t : ℕ) (rows : List Row) → AreAscending (live_ids first t rows)
live-ascending first t rows = flags-ascending first (map (live_at t) rows)

pub live-in : (first t : ℕ) (rows : List Row) (id : ℕ) → Contains (live_ids first t rows) id → (first ≤ id) × (id < first + length rows)
live-in first t rows id has = let h = flags-inside first (map (live_at t) rows) id has in (h.0, omega (arith, h.1, length-map rows (live_at t)))

pub live-inside : (first t : ℕ) (rows : List Row) → AreInside first rows (live_ids first t rows)
live-inside first t rows k d lt = live-in first t rows (get_or (live_ids first t rows) k d) (k, lt, there)
  where
    there : get_or (live_ids first t rows) k (get_or (live_ids first t rows) k d) ≡ get_or (live_ids first t rows) k d
    there = same (live_ids first t rows) k (get_or (live_ids first t rows) k d) d lt
      where
        same : (xs : List ℕ) (k x y : ℕ) → k < length xs → get_or xs k x ≡ get_or xs k y
        same [] k x y lt = absurd (omega (arith, lt))
        same (z ∷ xs) zero x y lt = refl
        same (z ∷ xs) (suc k) x y lt = same xs k x y (omega (arith, lt))

-- a row whose id is there is live
pub live-of : (first t k : ℕ) (rows : List Row) → k < length rows → Contains (live_ids first t rows) (first + k) → live_at t (get_or rows k some-row) ≡ true
live-of first t k rows lt has = sym (flag-at t k rows lt) ∙ flag-of first k (map (live_at t) rows) has
