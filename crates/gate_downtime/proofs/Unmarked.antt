-- What doesn't depend on the marks.
use Rattle.std.proofs.Common.{◌≡◌, ℕ, ◌+◌, ◌-◌, ◌≤◌, ◌<◌, true, cond, List, [], ◌∷◌, map, reverse, get_or, length, refl, sym, ap, ◌∙◌, subst, arith, ◌⊎◌, inl, inr}
use Rattle.std.specs.Prelude.{Some, count_by}
use Rattle.std.specs.List.{sum_by}
use Rattle.std.proofs.lemmas.List.{get_or-map, length-map}
use Rattle.gate_model.specs.declared.downtime.Entry.{Entry}
use Rattle.gate_model.specs.Downtime.{begin_by, over_by}
use Rattle.gate_downtime.specs.declared.row.Row.{Row}
use Rattle.gate_downtime.specs.inner.Rows.{row_entries, with_active, SameButMarks, Follows, Local, Consistent, is_unsettled}
use Rattle.gate_downtime.proofs.Cached.{sum_by-map}

pub length-same : (xs ys : List Row) → SameButMarks xs ys → length ys ≡ length xs
length-same xs ys same = sym (length-map ys (with_active true)) ∙ ap length same ∙ length-map xs (with_active true)

pub row-same : (xs ys : List Row) → SameButMarks xs ys → (k : ℕ) (d : Row) → k < length xs → with_active true (get_or ys k d) ≡ with_active true (get_or xs k d)
row-same xs ys same k d lt =
    let there : k < length ys = omega (arith, lt, length-same xs ys same) in
    sym (get_or-map (with_active true) ys k d d there) ∙ ap (λ l. get_or l k d) same ∙ get_or-map (with_active true) xs k d d lt

map-map : (f : Row → Entry) (xs : List Row) → ((r : Row) → f (with_active true r) ≡ f r) → map f (map (with_active true) xs) ≡ map f xs
map-map f [] h = refl
map-map f (x ∷ xs) h = ap (λ e. e ∷ map f (map (with_active true) xs)) (h x) ∙ ap (λ l. f x ∷ l) (map-map f xs h)

pub entries-same : (xs ys : List Row) → SameButMarks xs ys → row_entries ys ≡ row_entries xs
entries-same xs ys same =
    ap reverse (sym (map-map (λ (r : Row). r.entry) ys (λ r. refl)) ∙ ap (map (λ (r : Row). r.entry)) same ∙ map-map (λ (r : Row). r.entry) xs (λ r. refl))

follows-same : (x y T U : Row) → with_active true y ≡ with_active true x → with_active true U ≡ with_active true T → Follows x T.begun (Some T.over) → Follows y U.begun (Some U.over)
follows-same x y T U e f w =
    let begun : y.begun ≡ x.begun = ap (λ (r : Row). r.begun) e in
    let over : y.over ≡ x.over = ap (λ (r : Row). r.over) e in
    let entry : x.entry ≡ y.entry = sym (ap (λ (r : Row). r.entry) e) in
    let tb : T.begun ≡ U.begun = sym (ap (λ (r : Row). r.begun) f) in
    let to : T.over ≡ U.over = sym (ap (λ (r : Row). r.over) f) in
    record {
      begun_is = begun ∙ w.begun_is ∙ ap (λ en. begin_by en T.begun) entry ∙ ap (begin_by y.entry) tb;
      over_is =
          over ∙ w.over_is ∙ ap (λ en. over_by en x.begun T.begun (Some T.over)) entry ∙ ap (λ b. over_by y.entry b T.begun (Some T.over)) (sym begun)
          ∙ ap (λ b. over_by y.entry y.begun b (Some T.over)) tb ∙ ap (λ o. over_by y.entry y.begun U.begun (Some o)) to;
    }

pub consistent-same : (first : ℕ) (xs ys : List Row) → SameButMarks xs ys → Consistent first xs → Consistent first ys
consistent-same first xs ys same con k d lt =
    let len : length ys ≡ length xs = length-same xs ys same in
    let there : k < length xs = omega (arith, lt, len) in
    let old : Local first xs k (get_or xs k d) = con k d there in
    let is : with_active true (get_or ys k d) ≡ with_active true (get_or xs k d) = row-same xs ys same k d there in
    let entry : (get_or xs k d).entry ≡ (get_or ys k d).entry = sym (ap (λ (r : Row). r.entry) is) in
    let P : Entry → Type 0 = λ e. (e.scheduled.plan.trigger ≡ 0) ⊎ ((first ≤ e.scheduled.plan.trigger) × (e.scheduled.plan.trigger < first + k)) in
    let linked : P (get_or ys k d).entry = subst P entry old.linked in
    record {
      id_is = sym (ap (λ (e : Entry). e.scheduled.id) entry) ∙ old.id_is;
      linked = linked;
      follows = λ e.
          let j : ℕ = (get_or ys k d).entry.scheduled.plan.trigger - first in
          let i : ℕ = (get_or xs k d).entry.scheduled.plan.trigger - first in
          let ij : i ≡ j = ap (λ (e : Entry). e.scheduled.plan.trigger - first) entry in
          let low : i < length xs = elim old.linked [ inl free ↦ omega (arith, free, there) | inr w ↦ omega (arith, w.0, w.1, there) ] in
          let Q : ℕ → Type 0 = λ n. Follows (get_or ys k d) (get_or ys n e).begun (Some (get_or ys n e).over) in
          subst Q ij (follows-same (get_or xs k d) (get_or ys k d) (get_or xs i e) (get_or ys i e) is (row-same xs ys same i e low) (old.follows e));
    }

pub unsettled-same : (xs ys : List Row) → SameButMarks xs ys → count_by is_unsettled ys ≡ count_by is_unsettled xs
unsettled-same xs ys same =
    sym (sum_by-map (λ (r : Row). cond (is_unsettled r) 1 0) (with_active true) ys) ∙ ap (sum_by (λ (r : Row). cond (is_unsettled r) 1 0)) same ∙ sum_by-map (λ (r : Row). cond (is_unsettled r) 1 0) (with_active true) xs
