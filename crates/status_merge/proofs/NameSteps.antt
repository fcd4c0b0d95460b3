-- A pass over the rows that keeps, for each name, the latest row so far: `with_next`.
use Rattle.std.proofs.Common.{◌≡◌, ℕ, ◌+◌, ◌<◌, Bool, true, false, not, cond, ◌||◌, if◌then◌else◌, List, [], ◌∷◌, ◌++◌, map, length, take, get_or, set, append-nil, append_assoc, one-add, Some, None, refl, sym, ap, ◌∙◌, arith, inl, inr, filter, unwrap_or}
use Rattle.std.specs.List.{AllByRecursion, Contains, IsDistinct, list_any, position_or_len}
use Rattle.std.proofs.lemmas.Bool.{cases_Bool}
use Rattle.std.proofs.lemmas.List.{length-map, map-append, take_more}
use Rattle.std.proofs.lemmas.List.Elements.{filter-append}
use Rattle.std.proofs.lemmas.Map.Keys.{IsDistinct-head, IsDistinct-tail}
use Rattle.indexmap.specs.IndexSet.{insert_key}
use Rattle.itertools.specs.Consumer.{firsts_from}
use Rattle.status_merge.specs.declared.gateway.MergedObject.{MergedObject}
use Rattle.status_merge.specs.Groups.{firsts}
use Rattle.status_merge.specs.Objects.{latest, same_name}
use Rattle.status_merge.specs.inner.Names.{Name, same_key, key_of, newer, with_row}
use Rattle.status_merge.proofs.FirstLaws.{weaker, or_parts, has_like, has_like-more, has_like-same, firsts-among, firsts-distinct}
use Rattle.status_merge.proofs.LatestSteps.{kept, kept-latest}
use Rattle.status_merge.proofs.MergeLaws.{names_alike, kept-some, of_name, shown_for, first_of_name}

-- ---- names as keys

pub any_key : (row : MergedObject) (rows : List MergedObject) → list_any (same_key (key_of row)) (map key_of rows) ≡ list_any (same_name row) rows
any_key row [] = refl
any_key row (next ∷ rows) = ap (λ (b : Bool). same_name row next || b) (any_key row rows)

pub place_key : (row : MergedObject) (rows : List MergedObject) → position_or_len (same_key (key_of row)) (map key_of rows) ≡ position_or_len (same_name row) rows
place_key row [] = refl
place_key row (next ∷ rows) = ap (λ (n : ℕ). cond (not (same_name row next)) (1 + n) 0) (place_key row rows)

place_within : {X : Type 0} (test : X → Bool) (xs : List X) → list_any test xs ≡ true → position_or_len test xs < length xs
place_within test [] some = cc
place_within test (x ∷ xs) some = elim (cases_Bool (test x)) [
  | inl own ↦ rw own (omega arith)
  | inr other ↦
      let rest = place_within test xs (sym (ap (λ (b : Bool). b || list_any test xs) other) ∙ some) in rw other (omega (arith, rest))
]

-- ---- the first rows

either_way : (before here rest : Bool) → (here ≡ true → before ≡ true) → (before || rest) ≡ (before || (here || rest))
either_way true here rest seen = refl
either_way false true rest seen = let no : false ≡ true = seen refl in cc
either_way false false rest seen = refl

or_inner : (before here rest : Bool) → ((before || (here || false)) || rest) ≡ (before || (here || rest))
or_inner true here rest = refl
or_inner false true rest = refl
or_inner false false rest = refl

-- a row is the same as one of the rows, or as one of the first rows
like_first : (before rows : List MergedObject) (row : MergedObject)
    → (has_like same_name before row || has_like same_name (firsts_from same_name before rows) row) ≡ (has_like same_name before row || has_like same_name rows row)
like_first before [] row = refl
like_first before (next ∷ rows) row =
    let own = has_like same_name before row in
    let here = same_name next row in
    let later = firsts_from same_name (before ++ next ∷ []) rows in
    let rest : (own || (here || has_like same_name later row)) ≡ (own || (here || has_like same_name rows row)) =
    sym (or_inner own here (has_like same_name later row))
    ∙ ap (λ (b : Bool). b || has_like same_name later row) (sym (has_like-more same_name before next row))
    ∙ like_first (before ++ next ∷ []) rows row
    ∙ ap (λ (b : Bool). b || has_like same_name rows row) (has_like-more same_name before next row)
    ∙ or_inner own here (has_like same_name rows row) in
    elim (cases_Bool (has_like same_name before next)) [
      | inl seen ↦
          rw seen (either_way own here (has_like same_name later row) (λ hit. sym (has_like-same names_alike before next row hit) ∙ seen) ∙ rest)
      | inr new ↦ rw new rest
    ]

-- the rows and one more
firsts_more : (before rows : List MergedObject) (row : MergedObject)
    → firsts_from same_name before (rows ++ row ∷ []) ≡ firsts_from same_name before rows ++ (if has_like same_name (before ++ rows) row then [] else row ∷ [])
firsts_more before [] row = rw (append-nil before, append-nil (if has_like same_name before row then [] else row ∷ [])) refl
firsts_more before (next ∷ rows) row =
    let here = if has_like same_name before next then [] else next ∷ [] in
    let more = λ (b : Bool). if b then [] else row ∷ [] in
    ap (λ rest. here ++ rest) (firsts_more (before ++ next ∷ []) rows row)
    ∙ ap (λ list. here ++ (firsts_from same_name (before ++ next ∷ []) rows ++ more (has_like same_name list row))) (append_assoc before (next ∷ []) rows)
    ∙ sym (append_assoc here (firsts_from same_name (before ++ next ∷ []) rows) (more (has_like same_name (before ++ next ∷ rows) row)))

any_like : (row : MergedObject) (rows : List MergedObject) → list_any (same_name row) rows ≡ has_like same_name rows row
any_like row [] = refl
any_like row (next ∷ rows) =
    ap (λ (b : Bool). b || list_any (same_name row) rows) (names_alike.symm row next)
    ∙ ap (λ (b : Bool). same_name next row || b) (any_like row rows)

-- ---- the latest row of a name, and one more row

kept_more : (known : MergedObject) (rows : List MergedObject) (row last : MergedObject) → kept (Some known) rows ≡ Some last
    → kept (Some known) (rows ++ row ∷ []) ≡ Some (newer row last)
kept_more known [] row last is =
    let here : Some known ≡ Some last = is in
    let same : known ≡ last = cc in ap (λ (object : MergedObject). Some (newer row object)) same
kept_more known (next ∷ rows) row last is = kept_more (newer next known) rows row last is

latest_kept : (first : MergedObject) (rows : List MergedObject) → latest (first, rows) ≡ unwrap_or (kept None rows) first
latest_kept first rows = ap (λ found. unwrap_or found first) (sym (kept-latest rows))

latest_more : (first : MergedObject) (rows : List MergedObject) (row : MergedObject) → 0 < length rows
    → latest (first, rows ++ row ∷ []) ≡ newer row (latest (first, rows))
latest_more first [] row some = absurd (omega (arith, some))
latest_more first (next ∷ rows) row some =
    let last = kept-some next rows in
    let before : latest (first, next ∷ rows) ≡ last.0 = latest_kept first (next ∷ rows) ∙ ap (λ found. unwrap_or found first) last.1 in
    latest_kept first (next ∷ (rows ++ row ∷ []))
    ∙ ap (λ found. unwrap_or found first) (kept_more next rows row last.0 last.1)
    ∙ ap (newer row) (sym before)

-- ---- the rows of a name, and one more row

of_more : (rows : List MergedObject) (row first : MergedObject) → of_name (rows ++ row ∷ []) first ≡ of_name rows first ++ (if same_name row first then row ∷ [] else [])
of_more rows row first = filter-append (λ other. same_name other first) rows (row ∷ [])

of_own : (rows : List MergedObject) (row first : MergedObject) → same_name row first ≡ true → of_name (rows ++ row ∷ []) first ≡ of_name rows first ++ row ∷ []
of_own rows row first own = of_more rows row first ∙ ap (λ (b : Bool). of_name rows first ++ (if b then row ∷ [] else [])) own

of_other : (rows : List MergedObject) (row first : MergedObject) → same_name row first ≡ false → of_name (rows ++ row ∷ []) first ≡ of_name rows first
of_other rows row first other =
    of_more rows row first ∙ ap (λ (b : Bool). of_name rows first ++ (if b then row ∷ [] else [])) other ∙ append-nil (of_name rows first)

none_of : (test : MergedObject → Bool) (rows : List MergedObject) → list_any test rows ≡ false → filter test rows ≡ []
none_of test [] none = refl
none_of test (row ∷ rows) none =
    let parts = or_parts (test row) (list_any test rows) none in rw (parts.0, none_of test rows parts.1) refl

-- the rows of other names stay
stay : (rows : List MergedObject) (row : MergedObject) (firsts : List MergedObject) → list_any (same_name row) firsts ≡ false
    → map (shown_for (rows ++ row ∷ [])) firsts ≡ map (shown_for rows) firsts
stay rows row [] none = refl
stay rows row (first ∷ firsts) none =
    let parts = or_parts (same_name row first) (list_any (same_name row) firsts) none in
    let here : shown_for (rows ++ row ∷ []) first ≡ shown_for rows first =
    ap (λ list. latest (first, list)) (of_other rows row first parts.0) in
    let rest = stay rows row firsts parts.1 in cc

-- the list with a row of the name that stands at this place
abbrev taken : List MergedObject → ℕ → MergedObject → List MergedObject
taken shown place row = set shown place (newer row (get_or shown place row))

after_one : (known : MergedObject) (shown : List MergedObject) (place : ℕ) (row : MergedObject) → taken (known ∷ shown) (1 + place) row ≡ known ∷ taken shown place row
after_one known shown place row = ap (λ (n : ℕ). taken (known ∷ shown) n row) (one-add place)

no_other : (row first : MergedObject) (firsts : List MergedObject) → same_name row first ≡ true → AllByRecursion (λ other. same_name first other ≡ false) firsts
    → list_any (same_name row) firsts ≡ false
no_other row first [] own apart = refl
no_other row first (other ∷ firsts) own apart =
    ap (λ (b : Bool). b || list_any (same_name row) firsts) (names_alike.congr row first other own ∙ apart.0)
    ∙ no_other row first firsts own apart.1

-- where the name is one of these, its row is the newer one
grow : (rows : List MergedObject) (row : MergedObject) (firsts : List MergedObject) → list_any (same_name row) firsts ≡ true → IsDistinct same_name firsts
    → AllByRecursion (λ first. 0 < length (of_name rows first)) firsts
    → taken (map (shown_for rows) firsts) (position_or_len (same_name row) firsts) row ≡ map (shown_for (rows ++ row ∷ [])) firsts
grow rows row [] some once full = cc
grow rows row (first ∷ firsts) some once full = elim (cases_Bool (same_name row first)) [
  | inl own ↦
      let place : position_or_len (same_name row) (first ∷ firsts) ≡ 0 = ap (λ (b : Bool). cond (not b) (1 + position_or_len (same_name row) firsts) 0) own in
      let here : newer row (shown_for rows first) ≡ shown_for (rows ++ row ∷ []) first =
      sym (ap (λ list. latest (first, list)) (of_own rows row first own) ∙ latest_more first (of_name rows first) row full.0) in
      let rest = stay rows row firsts (no_other row first firsts own (IsDistinct-head same_name first firsts once)) in
      ap (λ (n : ℕ). taken (map (shown_for rows) (first ∷ firsts)) n row) place ∙ cc
  | inr other ↦
      let place : position_or_len (same_name row) (first ∷ firsts) ≡ 1 + position_or_len (same_name row) firsts =
      ap (λ (b : Bool). cond (not b) (1 + position_or_len (same_name row) firsts) 0) other in
      let later : list_any (same_name row) firsts ≡ true = sym (ap (λ (b : Bool). b || list_any (same_name row) firsts) other) ∙ some in
      let here : shown_for (rows ++ row ∷ []) first ≡ shown_for rows first =
      ap (λ list. latest (first, list)) (of_other rows row first other) in
      let rest = grow rows row firsts later (IsDistinct-tail same_name first firsts once) full.1 in
      ap (λ (n : ℕ). taken (map (shown_for rows) (first ∷ firsts)) n row) place
      ∙ after_one (shown_for rows first) (map (shown_for rows) firsts) (position_or_len (same_name row) firsts) row ∙ cc
]

-- ---- the pass

-- the names of the rows, each once, and the latest row of each
pub record AreLatest (rows : List MergedObject) (keys : List Name) (list : List MergedObject) : Type 0 where
  pub names : keys ≡ map key_of (firsts same_name rows)
  pub shown : list ≡ map (shown_for rows) (firsts same_name rows)

pub none_yet : AreLatest [] [] []
none_yet = record { names = refl; shown = refl }

full_names : (rows : List MergedObject) → AllByRecursion (λ first. 0 < length (of_name rows first)) (firsts same_name rows)
full_names rows =
    weaker (Contains rows) (λ first. 0 < length (of_name rows first)) (λ first is. let inside = (first_of_name rows first is).1 in omega (arith, inside))
    (firsts same_name rows) (firsts-among same_name [] rows)

alone : (rows : List MergedObject) (row : MergedObject) → has_like same_name rows row ≡ false → shown_for (rows ++ row ∷ []) row ≡ row
alone rows row none =
    ap (λ list. latest (row, list)) (of_own rows row row (names_alike.refl row) ∙ ap (λ list. list ++ row ∷ []) (none_of (λ other. same_name other row) rows none))
    ∙ latest_kept row (row ∷ [])

module _ (rows : List MergedObject) (row : MergedObject) (names : List Name) (shown : List MergedObject) (are : AreLatest rows names shown) where
  abbrev known : List MergedObject
  known = firsts same_name rows

  any_known : list_any (same_key (key_of row)) names ≡ list_any (same_name row) (firsts same_name rows)
  any_known = ap (list_any (same_key (key_of row))) are.names ∙ any_key row (firsts same_name rows)

  any_row : list_any (same_name row) (firsts same_name rows) ≡ has_like same_name rows row
  any_row = any_like row (firsts same_name rows) ∙ like_first [] rows row

  firsts_with : firsts same_name (rows ++ row ∷ []) ≡ firsts same_name rows ++ (if list_any (same_key (key_of row)) names then [] else row ∷ [])
  firsts_with =
      firsts_more [] rows row
      ∙ ap (λ (b : Bool). firsts same_name rows ++ (if b then [] else row ∷ [])) (sym (any_known ∙ any_row))

  pub is_within : list_any (same_key (key_of row)) names ≡ true → position_or_len (same_key (key_of row)) names < length shown
  is_within some =
      let inside = place_within (same_key (key_of row)) names some in
      omega (arith, inside, ap length are.names, ap length are.shown, length-map known key_of, length-map known (shown_for rows))

  pub with_next : AreLatest (rows ++ row ∷ []) (insert_key same_key names (key_of row))
      (with_row shown (position_or_len (same_key (key_of row)) names) (not (list_any (same_key (key_of row)) names)) row)
  with_next = elim (cases_Bool (list_any (same_key (key_of row)) names)) [
    | inl seen ↦
        let some : list_any (same_name row) known ≡ true = sym any_known ∙ seen in
        let same : firsts same_name (rows ++ row ∷ []) ≡ known =
        firsts_with ∙ ap (λ (b : Bool). known ++ (if b then [] else row ∷ [])) seen ∙ append-nil known in
        let place = ap (position_or_len (same_key (key_of row))) are.names ∙ place_key row known in
        rw seen (record {
          names = are.names ∙ ap (map key_of) (sym same);
          shown = ap (λ (n : ℕ). taken shown n row) place
              ∙ ap (λ list. taken list (position_or_len (same_name row) known) row) are.shown
              ∙ grow rows row known some (firsts-distinct same_name [] rows) (full_names rows)
              ∙ ap (map (shown_for (rows ++ row ∷ []))) (sym same);
        })
    | inr new ↦
        let none : list_any (same_name row) known ≡ false = sym any_known ∙ new in
        let same : firsts same_name (rows ++ row ∷ []) ≡ known ++ row ∷ [] =
        firsts_with ∙ ap (λ (b : Bool). known ++ (if b then [] else row ∷ [])) new in
        let all = shown_for (rows ++ row ∷ []) in
        rw new (record {
          names = ap (λ list. list ++ key_of row ∷ []) are.names ∙ sym (map-append key_of known (row ∷ [])) ∙ ap (map key_of) (sym same);
          shown = ap (λ list. list ++ row ∷ []) (are.shown ∙ sym (stay rows row known none))
              ∙ ap (λ object. map all known ++ object ∷ []) (sym (alone rows row (sym any_row ∙ none)))
              ∙ sym (map-append all known (row ∷ []))
              ∙ ap (map all) (sym same);
        })
  ]

-- ---- a turn of the pass

module _ (rows : List MergedObject) (index : ℕ) (other : MergedObject) (names : List Name) (shown : List MergedObject) (place : ℕ) (is_new : Bool)
    (are : AreLatest (take index rows) names shown)
    (at : place ≡ position_or_len (same_key (key_of (get_or rows index other))) names)
    (new : is_new ≡ not (list_any (same_key (key_of (get_or rows index other))) names)) where
  pub known_place : is_new ≡ false → place < length shown
  known_place old = elim (cases_Bool (list_any (same_key (key_of (get_or rows index other))) names)) [
    | inl some ↦
        let inside = is_within (take index rows) (get_or rows index other) names shown are some in omega (arith, at, inside)
    | inr none ↦ let no : false ≡ true = sym old ∙ new ∙ ap not none in cc
  ]

  pub turn : index < length rows → (more : List Name) → more ≡ insert_key same_key names (key_of (get_or rows index other))
      → (after : List MergedObject) → after ≡ with_row shown place is_new (get_or rows index other)
      → AreLatest (take (index + 1) rows) more after
  turn inside more added after taken_in =
      let row = get_or rows index other in
      let next = take_more rows index other inside in
      let step = with_next (take index rows) row names shown are in
      record {
        names = added ∙ step.names ∙ ap (λ list. map key_of (firsts same_name list)) (sym next);
        shown = taken_in
            ∙ ap (λ (n : ℕ). with_row shown n is_new row) at
            ∙ ap (λ (b : Bool). with_row shown (position_or_len (same_key (key_of row)) names) b row) new
            ∙ step.shown
            ∙ ap (λ list. map (shown_for list) (firsts same_name list)) (sym next);
      }
