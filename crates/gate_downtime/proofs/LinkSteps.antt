-- The lists of children and of waiting rows, with one more row.
use Rattle.std.proofs.Common.{◌≡◌, ℕ, ◌+◌, ◌-◌, ◌≤◌, ◌<◌, Bool, true, false, List, [], ◌∷◌, ◌++◌, set, get_or, length, Option, refl, sym, ap, ◌∙◌, subst, arith, ◌⊎◌, inl, inr, length-set, get_or-set_same, get_or-set_other}
use Rattle.std.specs.Prelude.{Some, None}
use Rattle.std.proofs.lemmas.Bool.{cases_lt, cases_eq}
use Rattle.std.proofs.lemmas.List.{get_or_append_left, get_or_push, length_push}
use Rattle.gate_downtime.specs.declared.row.Row.{Row}
use Rattle.gate_downtime.specs.declared.links.Link.{Link}
use Rattle.gate_downtime.specs.inner.Links.{trig, Newest, Linked, PlacedAt, with_child, lone_link, child_link, waiting_link, triggered_links, IsLinkedMore}
use Rattle.gate_downtime.specs.inner.Walk.{IsFlex, Waits, NewestFlex, FlexLinked, AllFlexLinked}

-- the links with one more, for a row r at the end
pub record MoreLinks (first : ℕ) (rows : List Row) (r : Row) (links links' : List Link) : Type 0 where
  pub len : length links' ≡ length links + 1
  pub kids : (k : ℕ) (m : Link) → k < length links → (trig r ≡ first + k → ⊥) → (get_or links' k m).child ≡ (get_or links k m).child
  pub kid : (k : ℕ) (m : Link) → k < length links → trig r ≡ first + k → (get_or links' k m).child ≡ Some (length links)
  pub sibs : (k : ℕ) (m : Link) → k < length links → (get_or links' k m).sibling ≡ (get_or links k m).sibling
  pub waits : (k : ℕ) (m : Link) → k < length links → (get_or links' k m).waiting ≡ (get_or links k m).waiting
  pub last-child : (m : Link) → (get_or links' (length links) m).child ≡ None
  pub last-sib : (m : Link) → (trig r ≡ 0 → ⊥) → Newest rows (trig r) (length rows) (get_or links' (length links) m).sibling

-- one more at the end, in no list of children
more-alone : (first : ℕ) (rows : List Row) (r : Row) (links : List Link) (l : Link) → 0 < first → trig r ≡ 0 → l.child ≡ None → MoreLinks first rows r links (links ++ l ∷ [])
more-alone first rows r links l from free child = record {
  len = length_push links l;
  kids = λ k m lt ne. ap (λ (x : Link). x.child) (get_or_append_left links (l ∷ []) m k lt);
  kid = λ k m lt is. absurd (omega (arith, is, free, from));
  sibs = λ k m lt. ap (λ (x : Link). x.sibling) (get_or_append_left links (l ∷ []) m k lt);
  waits = λ k m lt. ap (λ (x : Link). x.waiting) (get_or_append_left links (l ∷ []) m k lt);
  last-child = λ m. ap (λ (x : Link). x.child) (get_or_push links l m (length links) refl) ∙ child;
  last-sib = λ m ne. absurd (ne free);
}

-- a link whose newest child was set
set-link : (links : List Link) (at k : ℕ) (m : Link) → at < length links → ((get_or (set links at (with_child (length links) (get_or links at m))) k m).sibling ≡ (get_or links k m).sibling)
    × ((get_or (set links at (with_child (length links) (get_or links at m))) k m).waiting ≡ (get_or links k m).waiting)
set-link links at k m in' =
    elim (cases_eq k at) [
      | inl same ↦
          let v : Link = with_child (length links) (get_or links at m) in
          let P : ℕ → Type 0 = λ i. ((get_or (set links at v) i m).sibling ≡ (get_or links i m).sibling) × ((get_or (set links at v) i m).waiting ≡ (get_or links i m).waiting) in
          subst P (sym same) (
            ap (λ (x : Link). x.sibling) (get_or-set_same links at v m in'),
            ap (λ (x : Link). x.waiting) (get_or-set_same links at v m in'),
          )
      | inr ne ↦
          let v : Link = with_child (length links) (get_or links at m) in (
            ap (λ (x : Link). x.sibling) (get_or-set_other links at k v m ne),
            ap (λ (x : Link). x.waiting) (get_or-set_other links at k v m ne),
          )
    ]

-- one more at the end, the newest child of the row at an index
more-triggered : (first : ℕ) (rows : List Row) (r : Row) (links links' : List Link) (at : ℕ) → Linked first rows links → trig r ≡ first + at → at < length links
    → ((d : Link) → links' ≡ triggered_links links at (get_or links at d)) → MoreLinks first rows r links links'
more-triggered first rows r links links' at linked trigger in' is = record {
  len = ap length (is lone_link) ∙ length_push (base lone_link) (last lone_link) ∙ ap (λ n. n + 1) (length-set links at (with_child (length links) (get_or links at lone_link)));
  kids = λ k m lt ne. ap (λ (x : Link). x.child) (old k m lt ∙ get_or-set_other links at k (with_child (length links) (get_or links at m)) m (λ e. ne (omega (arith, e, trigger))));
  kid = λ k m lt own.
      let same : k ≡ at = omega (arith, own, trigger) in
      ap (λ (x : Link). x.child) (old k m lt ∙ ap (λ i. get_or (base m) i m) same ∙ get_or-set_same links at (with_child (length links) (get_or links at m)) m in');
  sibs = λ k m lt. ap (λ (x : Link). x.sibling) (old k m lt) ∙ (set-link links at k m in').0;
  waits = λ k m lt. ap (λ (x : Link). x.waiting) (old k m lt) ∙ (set-link links at k m in').1;
  last-child = λ m. ap (λ (x : Link). x.child) (new m);
  last-sib = λ m ne.
      let P : Option ℕ → Type 0 = Newest rows (trig r) (length rows) in
      let Q : ℕ → Type 0 = λ x. Newest rows x (length rows) (get_or links at m).child in
      subst P (sym (ap (λ (x : Link). x.sibling) (new m))) (subst Q (sym trigger) (linked.child at m (omega (arith, in', linked.len))));
}
  where
    base : Link → List Link
    base m = set links at (with_child (length links) (get_or links at m))

    last : Link → Link
    last m = child_link (get_or links at m).child

    old : (k : ℕ) (m : Link) → k < length links → get_or links' k m ≡ get_or (base m) k m
    old k m lt = ap (λ ls. get_or ls k m) (is m) ∙ get_or_append_left (base m) (last m ∷ []) m k (omega (arith, lt, length-set links at (with_child (length links) (get_or links at m))))

    new : (m : Link) → get_or links' (length links) m ≡ last m
    new m = ap (λ ls. get_or ls (length links) m) (is m) ∙ get_or_push (base m) (last m) m (length links) (length-set links at (with_child (length links) (get_or links at m)))

-- the lists of the rows before a new one don't depend on it
newest-before : (rows : List Row) (r : Row) (x n : ℕ) (o : Option ℕ) → n ≤ length rows → Newest rows x n o → Newest (rows ++ r ∷ []) x n o
newest-before rows r x n None le none = λ j d lt is. none j d lt (sym (ap trig (get_or_append_left rows (r ∷ []) d j (omega (arith, lt, le)))) ∙ is)
newest-before rows r x n (Some f) le some = (
  some.0,
  λ d. ap trig (get_or_append_left rows (r ∷ []) d f (omega (arith, some.0, le))) ∙ some.1 d,
  λ j d after lt is. some.2 j d after lt (sym (ap trig (get_or_append_left rows (r ∷ []) d j (omega (arith, lt, le)))) ∙ is),
)

-- and neither do the lists of another trigger
newest-other : (rows : List Row) (r : Row) (x : ℕ) (o : Option ℕ) → (trig r ≡ x → ⊥) → Newest rows x (length rows) o → Newest (rows ++ r ∷ []) x (length rows + 1) o
newest-other rows r x None other none = λ j d lt is.
    elim (cases_lt j (length rows)) [
      | inl low ↦ none j d low (sym (ap trig (get_or_append_left rows (r ∷ []) d j low)) ∙ is)
      | inr high ↦ other (sym (ap trig (get_or_push rows r d j (omega (arith, high, lt)))) ∙ is)
    ]
newest-other rows r x (Some f) other some = (
  omega (arith, some.0),
  λ d. ap trig (get_or_append_left rows (r ∷ []) d f some.0) ∙ some.1 d,
  λ j d after lt is.
      elim (cases_lt j (length rows)) [
        | inl low ↦ some.2 j d after low (sym (ap trig (get_or_append_left rows (r ∷ []) d j low)) ∙ is)
        | inr high ↦ other (sym (ap trig (get_or_push rows r d j (omega (arith, high, lt)))) ∙ is)
      ],
)

newest-self : (rows : List Row) (r : Row) (x : ℕ) → trig r ≡ x → Newest (rows ++ r ∷ []) x (length rows + 1) (Some (length rows))
newest-self rows r x is = (omega arith, λ d. ap trig (get_or_push rows r d (length rows) refl) ∙ is, λ j d after lt own. omega (arith, after, lt))

pub linked-push : (first : ℕ) (rows : List Row) (r : Row) (links links' : List Link) → 0 < first → ((k : ℕ) (d : Row) → k < length rows → PlacedAt first k (get_or rows k d))
    → trig r < first + length rows → Linked first rows links → MoreLinks first rows r links links' → Linked first (rows ++ r ∷ []) links'
linked-push first rows r links links' from placed low linked more = record {
  len = more.len ∙ ap (λ n. n + 1) linked.len ∙ sym (length_push rows r);
  child = λ k m lt.
      let size : length (rows ++ r ∷ []) ≡ length rows + 1 = length_push rows r in
      let P : ℕ → Type 0 = λ n. Newest (rows ++ r ∷ []) (first + k) n (get_or links' k m).child in
      subst P (sym size)
      (elim (cases_lt k (length rows)) [
        | inl old ↦
            let there : k < length links = omega (arith, old, linked.len) in
            let Q : Option ℕ → Type 0 = Newest (rows ++ r ∷ []) (first + k) (length rows + 1) in
            elim (cases_eq (trig r) (first + k)) [
              | inl own ↦ subst Q (sym (more.kid k m there own ∙ ap Some linked.len)) (newest-self rows r (first + k) own)
              | inr ne ↦ subst Q (sym (more.kids k m there ne)) (newest-other rows r (first + k) _ ne (linked.child k m old))
            ]
        | inr high ↦
            let is : k ≡ length links = omega (arith, high, lt, size, linked.len) in
            let Q : Option ℕ → Type 0 = Newest (rows ++ r ∷ []) (first + k) (length rows + 1) in
            let R : ℕ → Type 0 = λ i. (get_or links' i m).child ≡ None in
            subst Q (sym (subst R (sym is) (more.last-child m))) (none k (omega (arith, high, lt, size)))
      ]);
  sibling = λ k m d lt has.
      let size : length (rows ++ r ∷ []) ≡ length rows + 1 = length_push rows r in
      elim (cases_lt k (length rows)) [
        | inl old ↦
            let there : k < length links = omega (arith, old, linked.len) in
            let row : get_or (rows ++ r ∷ []) k d ≡ get_or rows k d = get_or_append_left rows (r ∷ []) d k old in
            let P : Option ℕ → Type 0 = Newest (rows ++ r ∷ []) (trig (get_or (rows ++ r ∷ []) k d)) k in
            let Q : ℕ → Type 0 = λ x. Newest (rows ++ r ∷ []) x k (get_or links k m).sibling in
            subst P (sym (more.sibs k m there)) (subst Q (sym (ap trig row)) (newest-before rows r (trig (get_or rows k d)) k _ (omega (arith, old)) (linked.sibling k m d old (λ z. has (ap trig row ∙ z)))))
        | inr high ↦
            let is : k ≡ length rows = omega (arith, high, lt, size) in
            let row : get_or (rows ++ r ∷ []) k d ≡ r = get_or_push rows r d k (sym is) in
            let P : ℕ → Type 0 = λ x. Newest (rows ++ r ∷ []) x k (get_or links' k m).sibling in
            let Q : ℕ → Type 0 = λ i. Newest (rows ++ r ∷ []) (trig r) i (get_or links' i m).sibling in
            let R : ℕ → Type 0 = λ i. Newest rows (trig r) (length rows) (get_or links' i m).sibling in
            subst P (sym (ap trig row)) (subst Q (sym is) (newest-before rows r (trig r) (length rows) _ (omega arith) (subst R linked.len (more.last-sib m (λ z. has (ap trig row ∙ z))))))
      ];
}
  where
    none : (k : ℕ) → k ≡ length rows → (j : ℕ) (d : Row) → j < length rows + 1 → trig (get_or (rows ++ r ∷ []) j d) ≡ first + k → ⊥
    none k is j d lt own =
        elim (cases_lt j (length rows)) [
          | inl old ↦
              let row : trig (get_or (rows ++ r ∷ []) j d) ≡ trig (get_or rows j d) = ap trig (get_or_append_left rows (r ∷ []) d j old) in
              elim (placed j d old).linked [
                | inl free ↦ omega (arith, row, own, free, from)
                | inr w ↦ omega (arith, row, own, w.1, old, is)
              ]
          | inr high ↦
              let row : trig (get_or (rows ++ r ∷ []) j d) ≡ trig r = ap trig (get_or_push rows r d j (omega (arith, high, lt))) in
              omega (arith, row, own, low, is)
        ]

-- the lists of waiting rows, before the new one
flex-before : (t p n : ℕ) (rows : List Row) (r : Row) (o : Option ℕ) → n ≤ length rows → NewestFlex t rows p n o → NewestFlex t (rows ++ r ∷ []) p n o
flex-before t p n rows r None le none = λ j d lt w.
    let P : Row → Type 0 = λ x. Waits t p x.entry in
    none j d lt (subst P (get_or_append_left rows (r ∷ []) d j (omega (arith, lt, le))) w)
flex-before t p n rows r (Some f) le some = (
  some.0,
  λ d. let P : Row → Type 0 = λ x. IsFlex p x.entry in subst P (sym (get_or_append_left rows (r ∷ []) d f (omega (arith, some.0, le)))) (some.1 d),
  λ j d after lt w.
      let P : Row → Type 0 = λ x. Waits t p x.entry in
      some.2 j d after lt (subst P (get_or_append_left rows (r ∷ []) d j (omega (arith, lt, le))) w),
)

flex-other : (t p : ℕ) (rows : List Row) (r : Row) (o : Option ℕ) → (IsFlex p r.entry → ⊥) → NewestFlex t rows p (length rows) o → NewestFlex t (rows ++ r ∷ []) p (length rows + 1) o
flex-other t p rows r None other none = λ j d lt w.
    let P : Row → Type 0 = λ x. Waits t p x.entry in
    elim (cases_lt j (length rows)) [
      | inl low ↦ none j d low (subst P (get_or_append_left rows (r ∷ []) d j low) w)
      | inr high ↦ let own : Waits t p r.entry = subst P (get_or_push rows r d j (omega (arith, high, lt))) w in other own.flex
    ]
flex-other t p rows r (Some f) other some = (
  omega (arith, some.0),
  λ d. let P : Row → Type 0 = λ x. IsFlex p x.entry in subst P (sym (get_or_append_left rows (r ∷ []) d f some.0)) (some.1 d),
  λ j d after lt w.
      let P : Row → Type 0 = λ x. Waits t p x.entry in
      elim (cases_lt j (length rows)) [
        | inl low ↦ some.2 j d after low (subst P (get_or_append_left rows (r ∷ []) d j low) w)
        | inr high ↦ let own : Waits t p r.entry = subst P (get_or_push rows r d j (omega (arith, high, lt))) w in other own.flex
      ],
)

-- the list of an object, with one more row: it is in no list, or the first of this one
flex-push : (first t p : ℕ) (rows : List Row) (r : Row) (links links' : List Link) (head head' : Option ℕ) → length links ≡ length rows → MoreLinks first rows r links links'
    → ((IsFlex p r.entry → ⊥) × (head' ≡ head)) ⊎ (IsFlex p r.entry × (head' ≡ Some (length links)) × ((m : Link) → (get_or links' (length links) m).waiting ≡ head))
    → FlexLinked t rows links p head → FlexLinked t (rows ++ r ∷ []) links' p head'
flex-push first t p rows r links links' head head' len more new f =
    let size : length (rows ++ r ∷ []) ≡ length rows + 1 = length_push rows r in
    let P : ℕ → Type 0 = λ n. NewestFlex t (rows ++ r ∷ []) p n head' in
    let Q : Option ℕ → Type 0 = NewestFlex t (rows ++ r ∷ []) p (length rows + 1) in
    record {
      head_is = subst P (sym size)
          (elim new [
            | inl w ↦ subst Q (sym w.1) (flex-other t p rows r head w.0 f.head_is)
            | inr w ↦ subst Q (sym (w.1 ∙ ap Some len)) (self w.0)
          ]);
      next_is = λ k l d lt flex.
          let S : Row → Type 0 = λ x. IsFlex p x.entry in
          let R : Option ℕ → Type 0 = NewestFlex t (rows ++ r ∷ []) p k in
          elim (cases_lt k (length rows)) [
            | inl old ↦
                subst R (sym (more.waits k l (omega (arith, old, len))))
                (flex-before t p k rows r _ (omega (arith, old)) (f.next_is k l d old (subst S (get_or_append_left rows (r ∷ []) d k old) flex)))
            | inr high ↦
                let is : k ≡ length rows = omega (arith, high, lt, size) in
                let own : IsFlex p r.entry = subst S (get_or_push rows r d k (sym is)) flex in
                elim new [
                  | inl w ↦ absurd (w.0 own)
                  | inr w ↦
                      let T : ℕ → Type 0 = λ i. (get_or links' i l).waiting ≡ head in
                      let U : ℕ → Type 0 = λ i. NewestFlex t (rows ++ r ∷ []) p i head in
                      subst R (sym (subst T (len ∙ sym is) (w.2 l))) (subst U (sym is) (flex-before t p (length rows) rows r head (omega arith) f.head_is))
                ]
          ];
    }
  where
    self : IsFlex p r.entry → NewestFlex t (rows ++ r ∷ []) p (length rows + 1) (Some (length rows))
    self flex = (
      omega arith,
      λ d. let P : Row → Type 0 = λ x. IsFlex p x.entry in subst P (sym (get_or_push rows r d (length rows) refl)) flex,
      λ j d after lt w. omega (arith, after, lt),
    )

-- both kinds of lists, after the links of a new row were made
pub record MoreLists (first t : ℕ) (rows : List Row) (r : Row) (links' : List Link) (heads' : List (Option ℕ)) : Type 0 where
  pub linked : Linked first (rows ++ r ∷ []) links'
  pub waiting : AllFlexLinked t (rows ++ r ∷ []) links' heads'

pub lists-push : (first t : ℕ) (rows : List Row) (r : Row) (links links' : List Link) (heads heads' : List (Option ℕ)) (at : Option ℕ) → 0 < first
    → ((k : ℕ) (d : Row) → k < length rows → PlacedAt first k (get_or rows k d)) → Linked first rows links → AllFlexLinked t rows links heads
    → ((trig r ≡ 0) × (at ≡ None)) ⊎ ((first ≤ trig r) × (trig r < first + length rows) × (at ≡ Some (trig r - first)))
    → IsLinkedMore links heads at r.entry.scheduled.plan.fixed r.entry.scheduled.object.place links' heads'
    → MoreLists first t rows r links' heads'
lists-push first t rows r links links' heads heads' at from placed linked waiting trigger more =
    elim trigger [
      | inl w ↦
          let P : Option ℕ → Type 0 = λ o. IsLinkedMore links heads o r.entry.scheduled.plan.fixed r.entry.scheduled.object.place links' heads' in
          alone w.0 r.entry.scheduled.plan.fixed refl (subst P w.1 more)
      | inr w ↦
          let P : Option ℕ → Type 0 = λ o. IsLinkedMore links heads o r.entry.scheduled.plan.fixed r.entry.scheduled.object.place links' heads' in
          let is : IsLinkedMore links heads (Some (trig r - first)) r.entry.scheduled.plan.fixed r.entry.scheduled.object.place links' heads' = subst P w.2 more in
          let own : trig r ≡ first + (trig r - first) = omega (arith, w.0) in
          let in' : trig r - first < length links = omega (arith, w.0, w.1, linked.len) in
          let links-more : MoreLinks first rows r links links' = more-triggered first rows r links links' (trig r - first) linked own in' is.0 in
          record {
            linked = linked-push first rows r links links' from placed w.1 linked links-more;
            waiting = λ p lt.
                flex-push first t p rows r links links' (get_or heads p None) (get_or heads' p None) linked.len links-more
                (inl (λ flex. let zero' : trig r ≡ 0 = flex.free in omega (arith, zero', w.0, from), ap (λ hs. get_or hs p None) is.1))
                (waiting p (omega (arith, lt, ap length is.1)));
          }
    ]
  where
    alone : trig r ≡ 0 → (fixed : Bool) → r.entry.scheduled.plan.fixed ≡ fixed → IsLinkedMore links heads None fixed r.entry.scheduled.object.place links' heads' → MoreLists first t rows r links' heads'
    alone free true fixed is =
        let P : List Link → Type 0 = MoreLinks first rows r links in
        let links-more : MoreLinks first rows r links links' = subst P (sym is.0) (more-alone first rows r links lone_link from free refl) in
        record {
          linked = linked-push first rows r links links' from placed (omega (arith, free, from)) linked links-more;
          waiting = λ p lt.
              flex-push first t p rows r links links' (get_or heads p None) (get_or heads' p None) linked.len links-more
              (inl (λ flex. both fixed flex.flexible, ap (λ hs. get_or hs p None) is.1))
              (waiting p (omega (arith, lt, ap length is.1)));
        }
      where
        both : {b : Bool} → b ≡ true → b ≡ false → ⊥
        both x y = cc
    alone free false fixed is =
        let q : ℕ = r.entry.scheduled.object.place in
        let l : Link = waiting_link (get_or heads q None) in
        let P : List Link → Type 0 = MoreLinks first rows r links in
        let links-more : MoreLinks first rows r links links' = subst P (sym is.0) (more-alone first rows r links l from free refl) in
        record {
          linked = linked-push first rows r links links' from placed (omega (arith, free, from)) linked links-more;
          waiting = λ p lt.
              let low : p < length heads = omega (arith, lt, ap length is.1, length-set heads q (Some (length links))) in
              flex-push first t p rows r links links' (get_or heads p None) (get_or heads' p None) linked.len links-more
              (elim (cases_eq p q) [
                | inl same ↦ inr (
                  record { free = free; flexible = fixed; here = sym same },
                  ap (λ hs. get_or hs p None) is.1 ∙ ap (λ i. get_or (set heads q (Some (length links))) i None) same ∙ get_or-set_same heads q (Some (length links)) None (omega (arith, low, same)),
                  λ m. ap (λ ls. (get_or ls (length links) m).waiting) is.0 ∙ ap (λ (x : Link). x.waiting) (get_or_push links l m (length links) refl) ∙ ap (λ i. get_or heads i None) (sym same),
                )
                | inr ne ↦ inl (
                  λ flex. ne (sym flex.here),
                  ap (λ hs. get_or hs p None) is.1 ∙ get_or-set_other heads q p (Some (length links)) None ne,
                )
              ])
              (waiting p low);
        }
