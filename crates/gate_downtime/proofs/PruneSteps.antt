-- Rows that wait no more leave the list of their object.
use Rattle.std.proofs.Common.{◌≡◌, ℕ, ◌+◌, ◌≤◌, ◌<◌, Bool, true, false, not, ◌&&◌, List, [], set, get_or, length, Option, refl, sym, ap, ◌∙◌, subst, arith, inl, inr, length-set, get_or-set_same, get_or-set_other}
use Rattle.std.specs.Prelude.{Some, None, is_none, nat_lt}
use Rattle.std.proofs.lemmas.Bool.{cases_lt, cases_eq, lt-ltb}
use Rattle.std.proofs.lemmas.List.{get_or_default}
use Rattle.gate_model.specs.declared.downtime.Entry.{Entry}
use Rattle.gate_downtime.specs.declared.row.Row.{Row}
use Rattle.gate_downtime.specs.declared.links.Link.{Link}
use Rattle.gate_downtime.specs.inner.Rows.{some-row}
use Rattle.gate_downtime.specs.inner.Links.{lone_link, Linked, Newest, trig, Spreading}
use Rattle.gate_downtime.specs.inner.Walk.{IsFlex, Waits, may_begin, NewestFlex, FlexLinked, AllFlexLinked, IsCursor, cursor_size}
use Rattle.gate_downtime.specs.inner.Pruning.{with_waiting, IsLastWithin, SetsNext, IsAfter, SameKin}

-- an entry that waits may begin
waits-may : (t p : ℕ) (e : Entry) → may_begin t e ≡ false → Waits t p e → ⊥
waits-may t p e off w = never (is_none e.transition) e.deleted (nat_lt t e.scheduled.plan.ends.0) off (ap is_none w.unturned) w.kept (lt-ltb t e.scheduled.plan.ends.0 w.open')
  where
    never : (a d b : Bool) → (a && not d && b) ≡ false → a ≡ true → d ≡ false → b ≡ true → ⊥
    never true false true off x y z = cc
    never false d b off x y z = cc
    never true true b off x y z = cc
    never true false false off x y z = cc

-- the rows up to which the cursor is the newest
abbrev pub bound : List Row → Option ℕ → ℕ
bound rows None = length rows
bound rows (Some at) = at

pub newest-after : (t p : ℕ) (rows : List Row) (links : List Link) (heads : List (Option ℕ)) (last cursor : Option ℕ) → AllFlexLinked t rows links heads → p < length heads → IsCursor rows p last → IsAfter links heads p last cursor
    → NewestFlex t rows p (bound rows last) cursor
newest-after t p rows links heads None cursor all lt in' after =
    let P : Option ℕ → Type 0 = λ o. NewestFlex t rows p (length rows) o in
    subst P (sym after) (all p lt).head_is
newest-after t p rows links heads (Some a) cursor all lt in' after =
    let P : Option ℕ → Type 0 = λ o. NewestFlex t rows p a o in
    subst P (sym (after lone_link)) ((all p lt).next_is a lone_link some-row in'.0 (in'.1 some-row))

below : (p : ℕ) (rows : List Row) (last : Option ℕ) → IsCursor rows p last → bound rows last ≤ length rows
below p rows None in' = omega arith
below p rows (Some a) in' = omega (arith, in'.0)

-- the row at the cursor
pub cursor-at : (t p : ℕ) (rows : List Row) (links : List Link) (heads : List (Option ℕ)) (last cursor : Option ℕ) (at : ℕ) → AllFlexLinked t rows links heads → p < length heads → IsCursor rows p last → IsAfter links heads p last cursor → cursor ≡ Some at
    → (at < bound rows last) × (at < length rows) × ((d : Row) → IsFlex p (get_or rows at d).entry)
cursor-at t p rows links heads last cursor at all lt in' after is =
    let P : Option ℕ → Type 0 = λ o. NewestFlex t rows p (bound rows last) o in
    let n : NewestFlex t rows p (bound rows last) (Some at) = subst P is (newest-after t p rows links heads last cursor all lt in' after) in
    (n.0, omega (arith, n.0, below p rows last in'), n.1)

-- the next row is older
pub prune-smaller : (t p : ℕ) (rows : List Row) (links : List Link) (heads : List (Option ℕ)) (last cursor next : Option ℕ) (at : ℕ) (l : Link) → AllFlexLinked t rows links heads → p < length heads → IsCursor rows p last → IsAfter links heads p last cursor
    → cursor ≡ Some at → next ≡ (get_or links at l).waiting → cursor_size next < cursor_size cursor
prune-smaller t p rows links heads last cursor next at l all lt in' after is next-is =
    let h = cursor-at t p rows links heads last cursor at all lt in' after is in
    let P : Option ℕ → Type 0 = λ o. cursor_size o < cursor_size cursor in
    let Q : Option ℕ → Type 0 = λ o. cursor_size (get_or links at l).waiting < cursor_size o in
    subst P (sym next-is) (subst Q (sym is) (smaller (get_or links at l).waiting ((all p lt).next_is at l some-row h.1 (h.2 some-row))))
  where
    smaller : (o : Option ℕ) → NewestFlex t rows p at o → cursor_size o < cursor_size (Some at)
    smaller None n = omega arith
    smaller (Some f) n = omega (arith, n.0)

-- a row that waits no more is passed
flex-skip : (t p : ℕ) (rows : List Row) (n at : ℕ) (next : Option ℕ) → NewestFlex t rows p n (Some at) → ((d : Row) → Waits t p (get_or rows at d).entry → ⊥) → NewestFlex t rows p at next → NewestFlex t rows p n next
flex-skip t p rows n at None here idle none = λ j d lt w.
    elim (cases_lt j at) [
      | inl before ↦ none j d before w
      | inr from ↦ elim (cases_eq j at) [
        | inl same ↦ let P : ℕ → Type 0 = λ i. Waits t p (get_or rows i d).entry in idle d (subst P same w)
        | inr ne ↦ here.2 j d (omega (arith, from, ne)) lt w
      ]
    ]
flex-skip t p rows n at (Some f) here idle some = (
  omega (arith, here.0, some.0),
  some.1,
  λ j d after lt w.
      elim (cases_lt j at) [
        | inl before ↦ some.2 j d after before w
        | inr from ↦ elim (cases_eq j at) [
          | inl same ↦ let P : ℕ → Type 0 = λ i. Waits t p (get_or rows i d).entry in idle d (subst P same w)
          | inr ne ↦ here.2 j d (omega (arith, from, ne)) lt w
        ]
      ],
)

-- the list of the object begins with a later one of its rows
head-set : (t p : ℕ) (rows : List Row) (links : List Link) (heads : List (Option ℕ)) (next : Option ℕ) → p < length heads → NewestFlex t rows p (length rows) next → AllFlexLinked t rows links heads → AllFlexLinked t rows links (set heads p next)
head-set t p rows links heads next lt newest all q low =
    let low' : q < length heads = omega (arith, low, length-set heads p next) in
    elim (cases_eq q p) [
      | inl same ↦
          let P : ℕ → Type 0 = λ i. FlexLinked t rows links i (get_or (set heads p next) i None) in
          let Q : Option ℕ → Type 0 = λ o. FlexLinked t rows links p o in
          subst P (sym same) (subst Q (sym (get_or-set_same heads p next None lt)) (record { head_is = newest; next_is = (all p lt).next_is }))
      | inr ne ↦
          let Q : Option ℕ → Type 0 = λ o. FlexLinked t rows links q o in
          subst Q (sym (get_or-set_other heads p q next None ne)) (all q low')
    ]

-- a row of the list is followed by a later one
link-set : (t p a : ℕ) (rows : List Row) (links links' : List Link) (heads : List (Option ℕ)) (next : Option ℕ) → a < length links → ((d : Row) → IsFlex p (get_or rows a d).entry) → ((l : Link) → links' ≡ set links a (with_waiting next (get_or links a l)))
    → NewestFlex t rows p a next → AllFlexLinked t rows links heads → AllFlexLinked t rows links' heads
link-set t p a rows links links' heads next in' flex is newest all q low = record {
  head_is = (all q low).head_is;
  next_is = λ k l d lt flex'.
      let v : Link = with_waiting next (get_or links a l) in
      let P : List Link → Type 0 = λ ls. NewestFlex t rows q k (get_or ls k l).waiting in
      subst P (sym (is l))
      (elim (cases_eq k a) [
        | inl same ↦
            let R : ℕ → Type 0 = λ i. IsFlex q (get_or rows i d).entry in
            let own : IsFlex q (get_or rows a d).entry = subst R same flex' in
            let place : q ≡ p = sym own.here ∙ (flex d).here in
            let Q : ℕ → Type 0 = λ i. NewestFlex t rows q i (get_or (set links a v) i l).waiting in
            let S : Link → Type 0 = λ x. NewestFlex t rows q a x.waiting in
            let T : ℕ → Type 0 = λ x. NewestFlex t rows x a next in
            subst Q (sym same) (subst S (sym (get_or-set_same links a v l in')) (subst T (sym place) newest))
        | inr ne ↦
            let S : Link → Type 0 = λ x. NewestFlex t rows q k x.waiting in
            subst S (sym (get_or-set_other links a k v l ne)) ((all q low).next_is k l d lt flex')
      ]);
}

skipped : (t p : ℕ) (rows : List Row) (links : List Link) (heads : List (Option ℕ)) (last cursor next : Option ℕ) (at : ℕ) (d : Row) → p < length heads → IsCursor rows p last → IsAfter links heads p last cursor → cursor ≡ Some at
    → ((l : Link) → next ≡ (get_or links at l).waiting) → may_begin t (get_or rows at d).entry ≡ false → AllFlexLinked t rows links heads → NewestFlex t rows p (bound rows last) next
skipped t p rows links heads last cursor next at d lt in' after is next-is off all =
    let h = cursor-at t p rows links heads last cursor at all lt in' after is in
    let P : Option ℕ → Type 0 = λ o. NewestFlex t rows p (bound rows last) o in
    let Q : Option ℕ → Type 0 = λ o. NewestFlex t rows p at o in
    flex-skip t p rows (bound rows last) at next (subst P is (newest-after t p rows links heads last cursor all lt in' after))
    (λ e w. waits-may t p (get_or rows at e).entry (ap (λ (r : Row). may_begin t r.entry) (get_or_default rows at e d h.1) ∙ off) w)
    (subst Q (sym (next-is lone_link)) ((all p lt).next_is at lone_link some-row h.1 (h.2 some-row)))

-- the row at the cursor waits no more, and is passed
pub prune-skip : (t p : ℕ) (rows : List Row) (links links' : List Link) (heads heads' : List (Option ℕ)) (last cursor next : Option ℕ) (at : ℕ) (d : Row) → length links ≡ length rows → p < length heads → IsCursor rows p last
    → IsAfter links heads p last cursor → cursor ≡ Some at → ((l : Link) → next ≡ (get_or links at l).waiting) → may_begin t (get_or rows at d).entry ≡ false → SetsNext last next p links heads links' heads' → AllFlexLinked t rows links heads
    → AllFlexLinked t rows links' heads' × IsAfter links' heads' p last next
prune-skip t p rows links links' heads heads' None cursor next at d long lt in' after is next-is off sets all =
    let P : List (Option ℕ) → Type 0 = λ hs. AllFlexLinked t rows links hs in
    let Q : List Link → Type 0 = λ ls. AllFlexLinked t rows ls heads' in (
      subst Q (sym sets.0) (subst P (sym sets.1) (head-set t p rows links heads next lt (skipped t p rows links heads None cursor next at d lt in' after is next-is off all) all)),
      sym (ap (λ hs. get_or hs p None) sets.1 ∙ get_or-set_same heads p next None lt),
    )
prune-skip t p rows links links' heads heads' (Some a) cursor next at d long lt in' after is next-is off sets all =
    let P : List (Option ℕ) → Type 0 = λ hs. AllFlexLinked t rows links' hs in
    let low : a < length links = omega (arith, in'.0, long) in (
      subst P (sym sets.1) (link-set t p a rows links links' heads next low in'.1 sets.0 (skipped t p rows links heads (Some a) cursor next at d lt in' after is next-is off all) all),
      λ l. sym (ap (λ ls. (get_or ls a l).waiting) (sets.0 l) ∙ ap (λ (x : Link). x.waiting) (get_or-set_same links a (with_waiting next (get_or links a l)) l low)),
    )

-- the row at the cursor may begin, and is kept
pub prune-keep : (t p : ℕ) (rows : List Row) (links : List Link) (heads : List (Option ℕ)) (last cursor : Option ℕ) (at : ℕ) → AllFlexLinked t rows links heads → p < length heads → IsCursor rows p last → IsAfter links heads p last cursor → cursor ≡ Some at
    → IsCursor rows p (Some at)
prune-keep t p rows links heads last cursor at all lt in' after is =
    let h = cursor-at t p rows links heads last cursor at all lt in' after is in (h.1, h.2)

pub last-within : (p : ℕ) (rows : List Row) (links : List Link) (last : Option ℕ) → length links ≡ length rows → IsCursor rows p last → IsLastWithin last links
last-within p rows links None long in' = tt
last-within p rows links (Some a) long in' = omega (arith, in'.0, long)

-- ---- children and siblings

pub kin-sets : (p : ℕ) (links links' : List Link) (heads heads' : List (Option ℕ)) (last next : Option ℕ) → IsLastWithin last links → SetsNext last next p links heads links' heads' → SameKin links links'
kin-sets p links links' heads heads' None next in' sets = record {
  len = ap length sets.0;
  child = λ k l. ap (λ ls. (get_or ls k l).child) sets.0;
  sibling = λ k l. ap (λ ls. (get_or ls k l).sibling) sets.0;
}
kin-sets p links links' heads heads' (Some a) next in' sets = record {
  len = ap length (sets.0 lone_link) ∙ length-set links a (with_waiting next (get_or links a lone_link));
  child = λ k l. ap (λ ls. (get_or ls k l).child) (sets.0 l) ∙ at-child k l;
  sibling = λ k l. ap (λ ls. (get_or ls k l).sibling) (sets.0 l) ∙ at-sibling k l;
}
  where
    at-child : (k : ℕ) (l : Link) → (get_or (set links a (with_waiting next (get_or links a l))) k l).child ≡ (get_or links k l).child
    at-child k l =
        let v : Link = with_waiting next (get_or links a l) in
        elim (cases_eq k a) [
          | inl same ↦
              let P : ℕ → Type 0 = λ i. (get_or (set links a v) i l).child ≡ (get_or links i l).child in
              subst P (sym same) (ap (λ (x : Link). x.child) (get_or-set_same links a v l in'))
          | inr ne ↦ ap (λ (x : Link). x.child) (get_or-set_other links a k v l ne)
        ]

    at-sibling : (k : ℕ) (l : Link) → (get_or (set links a (with_waiting next (get_or links a l))) k l).sibling ≡ (get_or links k l).sibling
    at-sibling k l =
        let v : Link = with_waiting next (get_or links a l) in
        elim (cases_eq k a) [
          | inl same ↦
              let P : ℕ → Type 0 = λ i. (get_or (set links a v) i l).sibling ≡ (get_or links i l).sibling in
              subst P (sym same) (ap (λ (x : Link). x.sibling) (get_or-set_same links a v l in'))
          | inr ne ↦ ap (λ (x : Link). x.sibling) (get_or-set_other links a k v l ne)
        ]

pub kin-same : (links : List Link) → SameKin links links
kin-same links = record { len = refl; child = λ k l. refl; sibling = λ k l. refl }

pub kin-trans : (xs ys zs : List Link) → SameKin xs ys → SameKin ys zs → SameKin xs zs
kin-trans xs ys zs a b = record { len = b.len ∙ a.len; child = λ k l. b.child k l ∙ a.child k l; sibling = λ k l. b.sibling k l ∙ a.sibling k l }

linked-kin : (first : ℕ) (rows : List Row) (links links' : List Link) → SameKin links links' → Linked first rows links → Linked first rows links'
linked-kin first rows links links' kin linked = record {
  len = kin.len ∙ linked.len;
  child = λ k l lt. let P : Option ℕ → Type 0 = λ o. Newest rows (first + k) (length rows) o in subst P (sym (kin.child k l)) (linked.child k l lt);
  sibling = λ k l d lt has. let P : Option ℕ → Type 0 = λ o. Newest rows (trig (get_or rows k d)) k o in subst P (sym (kin.sibling k l)) (linked.sibling k l d lt has);
}

pub spreading-kin : (first : ℕ) (rows : List Row) (links links' : List Link) → SameKin links links' → Spreading first rows links [] → Spreading first rows links' []
spreading-kin first rows links links' kin s = record {
  from = s.from;
  placed = s.placed;
  linked = linked-kin first rows links links' kin s.linked;
  chain = s.chain;
  roots = s.roots;
  follows = s.follows;
  ready = s.ready;
}
