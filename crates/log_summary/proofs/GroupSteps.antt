-- One more record, at the hosts and the groups so far: `step`.
use Rattle.std.proofs.Common.{◌≡◌, ℕ, ◌+◌, ◌<◌, Bool, true, false, not, cond, if◌then◌else◌, ◌||◌, List, [], ◌∷◌, ◌++◌, length, map, filter, get_or, set, refl, sym, ap, subst, ◌∙◌, arith, inl, inr}
use Rattle.std.specs.List.{list_any, position_or_len}
use Rattle.std.specs.Str.{bytes_eq}
use Rattle.std.specs.Cmp.Lexicographic.{bytes_decides}
use Rattle.std.proofs.lemmas.Bool.{cases_Bool, true≢false, or_from, or_parts}
use Rattle.std.proofs.lemmas.List.{length-map, length-append, map-append, append-nil}
use Rattle.std.proofs.lemmas.List.Elements.{filter-append}
use Rattle.std.proofs.lemmas.List.Folds.{list_any-append}
use Rattle.std.proofs.lemmas.List.Sums.{fold-append}
use Rattle.std.proofs.Math.Seq.{set-append_seam, get_or-append_seam}
use Rattle.std.proofs.Math.Numerals.{one-add}
use Rattle.indexmap.specs.IndexSet.{insert_key, insert_all}

-- ---- a text among texts

place_own : (p : List ℕ → Bool) (k : List ℕ) (ks : List (List ℕ)) → p k ≡ true → position_or_len p (k ∷ ks) ≡ 0
place_own p k ks own = ap (λ (b : Bool). cond (not b) (1 + position_or_len p ks) 0) own

place_other : (p : List ℕ → Bool) (k : List ℕ) (ks : List (List ℕ)) → p k ≡ false → position_or_len p (k ∷ ks) ≡ 1 + position_or_len p ks
place_other p k ks other = ap (λ (b : Bool). cond (not b) (1 + position_or_len p ks) 0) other

place_none : (p : List ℕ → Bool) (ks : List (List ℕ)) → list_any p ks ≡ false → position_or_len p ks ≡ length ks
place_none p [] none = refl
place_none p (k ∷ ks) none =
    let parts = or_parts (p k) (list_any p ks) none in
    let rest = place_none p ks parts.1 in
    let here = place_other p k ks parts.0 in omega arith

place_within : (p : List ℕ → Bool) (ks : List (List ℕ)) → list_any p ks ≡ true → position_or_len p ks < length ks
place_within p [] some = absurd (true≢false (sym some))
place_within p (k ∷ ks) some = elim (cases_Bool (p k)) [
  | inl own ↦ let here = place_own p k ks own in omega arith
  | inr other ↦
      let later : list_any p ks ≡ true = sym (ap (λ (b : Bool). b || list_any p ks) other) ∙ some in
      let rest = place_within p ks later in
      let here = place_other p k ks other in omega arith
]

same_text : (a b : List ℕ) → bytes_eq a b ≡ true → a ≡ b
same_text a b same = (bytes_decides a b).0 same

other_way : (a b : List ℕ) → bytes_eq a b ≡ false → bytes_eq b a ≡ false
other_way a b other = elim (cases_Bool (bytes_eq b a)) [
  | inl same ↦ absurd (true≢false (sym ((bytes_decides a b).1 (sym (same_text b a same))) ∙ other))
  | inr apart ↦ apart
]

-- no text stands after its equal
abbrev IsOnce : List (List ℕ) → Type 0
IsOnce [] = Unit {0}
IsOnce (k ∷ ks) = (list_any (bytes_eq k) ks ≡ false) × IsOnce ks

once_more : (h : List ℕ) (ks : List (List ℕ)) → list_any (bytes_eq h) ks ≡ false → IsOnce ks → IsOnce (ks ++ h ∷ [])
once_more h [] absent once = (refl, tt)
once_more h (k ∷ ks) absent once =
    let parts = or_parts (bytes_eq h k) (list_any (bytes_eq h) ks) absent in (
      list_any-append (bytes_eq k) ks (h ∷ [])
          ∙ or_from (list_any (bytes_eq k) ks) (bytes_eq k h || false) once.0 (or_from (bytes_eq k h) false (other_way h k parts.0) refl),
      once_more h ks parts.1 once.1,
    )

-- ---- groups

-- one more element in the group at this index
abbrev pub with_more : {A : Type 0} → List (List A) → ℕ → A → List (List A)
with_more groups index x = set groups index (get_or groups index [] ++ x ∷ [])

after_one : {A : Type 0} (group : List A) (groups : List (List A)) (index : ℕ) (x : A) → with_more (group ∷ groups) (1 + index) x ≡ group ∷ with_more groups index x
after_one group groups index x = ap (λ (i : ℕ). with_more (group ∷ groups) i x) (one-add index)

module _ {A : Type 0} (key : A → List ℕ) where
  -- the elements of a key
  abbrev pub of : List A → List ℕ → List A
  of xs k = filter (λ x. bytes_eq (key x) k) xs

  of_more : (xs : List A) (x : A) (k : List ℕ) → of (xs ++ x ∷ []) k ≡ of xs k ++ (if bytes_eq (key x) k then x ∷ [] else [])
  of_more xs x k = filter-append (λ y. bytes_eq (key y) k) xs (x ∷ [])

  of_other : (xs : List A) (x : A) (k : List ℕ) → bytes_eq (key x) k ≡ false → of (xs ++ x ∷ []) k ≡ of xs k
  of_other xs x k other = of_more xs x k ∙ ap (λ (b : Bool). of xs k ++ (if b then x ∷ [] else [])) other ∙ append-nil (of xs k)

  of_own : (xs : List A) (x : A) (k : List ℕ) → bytes_eq (key x) k ≡ true → of (xs ++ x ∷ []) k ≡ of xs k ++ x ∷ []
  of_own xs x k own = of_more xs x k ∙ ap (λ (b : Bool). of xs k ++ (if b then x ∷ [] else [])) own

  -- groups of other keys stay
  stay : (xs : List A) (x : A) (ks : List (List ℕ)) → list_any (bytes_eq (key x)) ks ≡ false → map (of (xs ++ x ∷ [])) ks ≡ map (of xs) ks
  stay xs x [] none = refl
  stay xs x (k ∷ ks) none =
      let parts = or_parts (bytes_eq (key x) k) (list_any (bytes_eq (key x)) ks) none in
      let here = of_other xs x k parts.0 in
      let rest = stay xs x ks parts.1 in cc

  -- where the key is one of these, once, its group has one more
  grow : (xs : List A) (x : A) (ks : List (List ℕ)) → list_any (bytes_eq (key x)) ks ≡ true → IsOnce ks
      → with_more (map (of xs) ks) (position_or_len (bytes_eq (key x)) ks) x ≡ map (of (xs ++ x ∷ [])) ks
  grow xs x [] some once = absurd (true≢false (sym some))
  grow xs x (k ∷ ks) some once = elim (cases_Bool (bytes_eq (key x) k)) [
    | inl own ↦
        let here = of_own xs x k own in
        let rest = stay xs x ks (ap (λ (h : List ℕ). list_any (bytes_eq h) ks) (same_text (key x) k own) ∙ once.0) in
        ap (λ (i : ℕ). with_more (map (of xs) (k ∷ ks)) i x) (place_own (bytes_eq (key x)) k ks own) ∙ cc
    | inr other ↦
        let later : list_any (bytes_eq (key x)) ks ≡ true = sym (ap (λ (b : Bool). b || list_any (bytes_eq (key x)) ks) other) ∙ some in
        let here = of_other xs x k other in
        let rest = grow xs x ks later once.1 in
        ap (λ (i : ℕ). with_more (map (of xs) (k ∷ ks)) i x) (place_other (bytes_eq (key x)) k ks other)
        ∙ after_one (of xs k) (map (of xs) ks) (position_or_len (bytes_eq (key x)) ks) x ∙ cc
  ]

  -- these are the keys of the elements, each once, and their groups
  pub record IsGrouped (xs : List A) (ks : List (List ℕ)) (gs : List (List A)) : Type 0 where
    pub keys : ks ≡ insert_all bytes_eq [] (map key xs)
    pub groups : gs ≡ map (of xs) ks
    pub once : IsOnce ks
    pub none : (k : List ℕ) → list_any (bytes_eq k) ks ≡ false → of xs k ≡ []

  pub nothing : IsGrouped [] [] []
  nothing = record { keys = refl; groups = refl; once = tt; none = λ k absent. refl }

  keys_more : (xs : List A) (x : A) (ks : List (List ℕ)) → ks ≡ insert_all bytes_eq [] (map key xs)
      → insert_key bytes_eq ks (key x) ≡ insert_all bytes_eq [] (map key (xs ++ x ∷ []))
  keys_more xs x ks so_far =
      ap (λ (old : List (List ℕ)). insert_key bytes_eq old (key x)) so_far
      ∙ sym (fold-append (insert_key bytes_eq) [] (map key xs) (key x ∷ []))
      ∙ ap (insert_all bytes_eq []) (sym (map-append key xs (x ∷ [])))

  known : (xs : List A) (x : A) (ks : List (List ℕ)) (groups : List (List A)) → list_any (bytes_eq (key x)) ks ≡ true → IsGrouped xs ks groups
      → IsGrouped (xs ++ x ∷ []) ks (with_more groups (position_or_len (bytes_eq (key x)) ks) x)
  known xs x ks groups some was = record {
    keys = sym (ap (λ (b : Bool). if b then ks else ks ++ key x ∷ []) some) ∙ keys_more xs x ks was.keys;
    groups = ap (λ (old : List (List A)). with_more old (position_or_len (bytes_eq (key x)) ks) x) was.groups ∙ grow xs x ks some was.once;
    once = was.once;
    none = λ k absent. elim (cases_Bool (bytes_eq (key x) k)) [
      | inl own ↦ absurd (true≢false (sym some ∙ ap (λ (h : List ℕ). list_any (bytes_eq h) ks) (same_text (key x) k own) ∙ absent))
      | inr other ↦ of_other xs x k other ∙ was.none k absent
    ];
  }

  new : (xs : List A) (x : A) (ks : List (List ℕ)) (groups : List (List A)) → list_any (bytes_eq (key x)) ks ≡ false → IsGrouped xs ks groups
      → IsGrouped (xs ++ x ∷ []) (ks ++ key x ∷ []) (with_more (groups ++ [] ∷ []) (position_or_len (bytes_eq (key x)) ks) x)
  new xs x ks groups absent was =
      let long : position_or_len (bytes_eq (key x)) ks ≡ length groups =
      place_none (bytes_eq (key x)) ks absent ∙ sym (ap length was.groups ∙ length-map ks (of xs)) in
      let own : of (xs ++ x ∷ []) (key x) ≡ x ∷ [] =
      of_own xs x (key x) ((bytes_decides (key x) (key x)).1 refl) ∙ ap (λ (l : List A). l ++ x ∷ []) (was.none (key x) absent) in
      let before : map (of (xs ++ x ∷ [])) ks ≡ groups = stay xs x ks absent ∙ sym was.groups in record {
        keys = sym (ap (λ (b : Bool). if b then ks else ks ++ key x ∷ []) absent) ∙ keys_more xs x ks was.keys;
        groups =
            ap (λ (i : ℕ). with_more (groups ++ [] ∷ []) i x) long
            ∙ ap (λ (last : List A). set (groups ++ [] ∷ []) (length groups) (last ++ x ∷ [])) (get_or-append_seam groups [] [] [])
            ∙ set-append_seam groups [] [] (x ∷ [])
            ∙ sym (map-append (of (xs ++ x ∷ [])) ks (key x ∷ []) ∙ ap (λ (l : List (List A)). l ++ of (xs ++ x ∷ []) (key x) ∷ []) before
            ∙ ap (λ (l : List A). groups ++ l ∷ []) own);
        once = once_more (key x) ks absent was.once;
        none = λ k none.
            let parts = or_parts (list_any (bytes_eq k) ks) (bytes_eq k (key x) || false) (sym (list_any-append (bytes_eq k) ks (key x ∷ [])) ∙ none) in
            let apart = or_parts (bytes_eq k (key x)) false parts.1 in
            of_other xs x k (other_way k (key x) apart.0) ∙ was.none k parts.0;
      }

  -- one more element: its key is added, if it is new, with a group, and the group of its key has one more
  pub step : (xs : List A) (x : A) (ks : List (List ℕ)) (groups begun : List (List A)) → IsGrouped xs ks groups
      → begun ≡ (if not (list_any (bytes_eq (key x)) ks) then groups ++ [] ∷ [] else groups)
      → IsGrouped (xs ++ x ∷ []) (insert_key bytes_eq ks (key x)) (with_more begun (position_or_len (bytes_eq (key x)) ks) x)
  step xs x ks groups begun was is = subst after (sym is) (by (list_any (bytes_eq (key x)) ks) refl)
    where
      after : List (List A) → Type 0
      after grown = IsGrouped (xs ++ x ∷ []) (insert_key bytes_eq ks (key x)) (with_more grown (position_or_len (bytes_eq (key x)) ks) x)

      chosen : Bool → Type 0
      chosen b = IsGrouped (xs ++ x ∷ []) (if b then ks else ks ++ key x ∷ [])
          (with_more (if not b then groups ++ [] ∷ [] else groups) (position_or_len (bytes_eq (key x)) ks) x)

      by : (b : Bool) → list_any (bytes_eq (key x)) ks ≡ b → chosen (list_any (bytes_eq (key x)) ks)
      by true some = subst chosen (sym some) (known xs x ks groups some was)
      by false absent = subst chosen (sym absent) (new xs x ks groups absent was)

  -- the group is there
  pub within : (xs : List A) (x : A) (ks : List (List ℕ)) (groups begun : List (List A)) → IsGrouped xs ks groups
      → begun ≡ (if not (list_any (bytes_eq (key x)) ks) then groups ++ [] ∷ [] else groups)
      → position_or_len (bytes_eq (key x)) ks < length begun
  within xs x ks groups begun was is = elim (cases_Bool (list_any (bytes_eq (key x)) ks)) [
    | inl some ↦
        let long : length begun ≡ length ks =
        ap length (is ∙ ap (λ (b : Bool). if not b then groups ++ [] ∷ [] else groups) some ∙ was.groups) ∙ length-map ks (of xs) in
        let here = place_within (bytes_eq (key x)) ks some in omega arith
    | inr absent ↦
        let long : length begun ≡ length groups + 1 =
        ap length (is ∙ ap (λ (b : Bool). if not b then groups ++ [] ∷ [] else groups) absent) ∙ length-append groups ([] ∷ []) in
        let same : length groups ≡ length ks = ap length was.groups ∙ length-map ks (of xs) in
        let here = place_none (bytes_eq (key x)) ks absent in omega arith
  ]

  -- ---- what a turn of the loop does

  -- this is the key, where it stands, and whether it is new
  pub record IsAdded (x : A) (host : List ℕ) (ks : List (List ℕ)) (index : ℕ) (is_new : Bool) : Type 0 where
    pub own : host ≡ key x
    pub place : index ≡ position_or_len (bytes_eq host) ks
    pub new : is_new ≡ not (list_any (bytes_eq host) ks)

  begun_as : (x : A) (host : List ℕ) (ks : List (List ℕ)) (groups begun : List (List A)) (index : ℕ) (is_new : Bool) → IsAdded x host ks index is_new
      → begun ≡ (if is_new then groups ++ [] ∷ [] else groups)
      → begun ≡ (if not (list_any (bytes_eq (key x)) ks) then groups ++ [] ∷ [] else groups)
  begun_as x host ks groups begun index is_new added is =
      is ∙ ap (λ (b : Bool). if b then groups ++ [] ∷ [] else groups) (added.new ∙ ap (λ (h : List ℕ). not (list_any (bytes_eq h) ks)) added.own)

  placed : (x : A) (host : List ℕ) (ks : List (List ℕ)) (index : ℕ) (is_new : Bool) → IsAdded x host ks index is_new
      → index ≡ position_or_len (bytes_eq (key x)) ks
  placed x host ks index is_new added = added.place ∙ ap (λ (h : List ℕ). position_or_len (bytes_eq h) ks) added.own

  pub turn_within : (xs : List A) (x : A) (host : List ℕ) (ks : List (List ℕ)) (groups begun : List (List A)) (index : ℕ) (is_new : Bool)
      → IsGrouped xs ks groups → IsAdded x host ks index is_new → begun ≡ (if is_new then groups ++ [] ∷ [] else groups) → index < length begun
  turn_within xs x host ks groups begun index is_new was added is =
      subst (λ (i : ℕ). i < length begun) (sym (placed x host ks index is_new added))
      (within xs x ks groups begun was (begun_as x host ks groups begun index is_new added is))

  pub turn : (xs more : List A) (x : A) (host : List ℕ) (ks known : List (List ℕ)) (groups begun grown : List (List A)) (index : ℕ) (is_new : Bool)
      → IsGrouped xs ks groups → IsAdded x host ks index is_new → begun ≡ (if is_new then groups ++ [] ∷ [] else groups)
      → more ≡ xs ++ x ∷ [] → known ≡ insert_key bytes_eq ks host → grown ≡ with_more begun index x → IsGrouped more known grown
  turn xs more x host ks known groups begun grown index is_new was added is is_more is_known is_grown =
      let keys : known ≡ insert_key bytes_eq ks (key x) = is_known ∙ ap (insert_key bytes_eq ks) added.own in
      let whole : grown ≡ with_more begun (position_or_len (bytes_eq (key x)) ks) x =
      is_grown ∙ ap (λ (i : ℕ). with_more begun i x) (placed x host ks index is_new added) in
      subst (λ (all : List A). IsGrouped all known grown) (sym is_more)
      (subst (λ (texts : List (List ℕ)). IsGrouped (xs ++ x ∷ []) texts grown) (sym keys)
      (subst (λ (all : List (List A)). IsGrouped (xs ++ x ∷ []) (insert_key bytes_eq ks (key x)) all) (sym whole)
      (step xs x ks groups begun was (begun_as x host ks groups begun index is_new added is))))
