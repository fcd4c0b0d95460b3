-- A transition gives a beginning only to entries that aren't over: what is gone stays gone.
use Rattle.std.proofs.Common.{◌≡◌, ℕ, ◌+◌, ◌≤◌, ◌<◌, min, max, Bool, true, false, cond, not, ◌&&◌, ◌||◌, List, [], ◌∷◌, map, Option, refl, sym, ap, ◌∙◌, arith, ◌⊎◌, inl, inr, ltb, leb, eqb}
use Rattle.std.specs.Prelude.{Some, None, ◌==◌, nat_le, is_some, unwrap_or, option_map}
use Rattle.std.proofs.lemmas.Bool.{leb-false, ltb-true, ltb-false, lt-ltb, le-ltb}
use Rattle.gate_model.specs.declared.record.Moment.{Moment}
use Rattle.gate_model.specs.declared.downtime.Entry.{Entry}
use Rattle.gate_model.specs.Downtime.{or_else, begins_at, begin_in, over_in, is_before, is_deleted_in, is_live_in}
use Rattle.gate_model.proofs.DowntimeSteps.{turn}

abbrev pub IsFrom : ℕ → (begun over : Option ℕ) → Type 0
IsFrom m None over = is_before m over ≡ true
IsFrom m (Some b) over = m ≤ b

-- an entry, or a trigger, before and after: neither its beginning nor its end changed, or it had no beginning, wasn't over
-- at m, and afterwards begins at m or later, or isn't over at m
abbrev pub Moved : ℕ → (begun over begun' over' : Option ℕ) → Type 0
Moved m begun over begun' over' = ((begun' ≡ begun) × (over' ≡ over)) ⊎ ((begun ≡ None) × (is_before m over ≡ true) × IsFrom m begun' over')

-- the same over plain values
abbrev after : (fixed : Bool) (ends moment : ℕ) → Option ℕ → Option ℕ
after fixed ends moment None = None
after fixed ends moment (Some b) = cond (fixed && leb ends (max b moment)) None (Some (max b moment))

abbrev gone : (free fixed : Bool) (ends : ℕ) → Option ℕ → Option ℕ → ℕ
gone free fixed ends tb to = cond (free || is_some tb) ends (cond fixed (min ends (unwrap_or to 0)) (unwrap_or to 0))

abbrev over : (free fixed : Bool) (ends lasts : ℕ) → Option ℕ → Option ℕ → Option ℕ → ℕ
over free fixed ends lasts (Some b) tb to = cond fixed ends (b + lasts)
over free fixed ends lasts None tb to = gone free fixed ends tb to

-- a triggered entry whose trigger was given a beginning
fresh-flexible : (m ends lasts moment : ℕ) (to tb' to' : Option ℕ) → is_before m to ≡ true → IsFrom m tb' to'
    → Moved m None (Some (over false false ends lasts None None to)) (after false ends moment tb') (Some (over false false ends lasts (after false ends moment tb') tb' to'))
fresh-flexible m ends lasts moment None tb' to' before from = cc
fresh-flexible m ends lasts moment (Some o) None None before from = cc
fresh-flexible m ends lasts moment (Some o) None (Some o') before from = inr (refl, before, from)
fresh-flexible m ends lasts moment (Some o) (Some b) to' before from = inr (refl, before, omega arith)

-- either the entry isn't over at m, or its end is at or before m
end-cases : (m ends o : ℕ) → ltb m o ≡ true → (ltb m (min ends o) ≡ true) ⊎ ((min ends o ≡ ends) × (ends ≤ m))
end-cases m ends o h =
    elim (dec (ltb m ends)) [
      | inl w ↦ inl (lt-ltb m (min ends o) (omega (arith, ltb-true m o h, ltb-true m ends w)))
      | inr w ↦ inr (omega (arith, ltb-true m o h, ltb-false m ends w), ltb-false m ends w)
    ]
  where
    dec : (b : Bool) → (b ≡ true) ⊎ (b ≡ false)
    dec true = inl refl
    dec false = inr refl

min-end : (m ends o : ℕ) → ends ≤ m → ltb m o ≡ true → min ends o ≡ ends
min-end m ends o le h = omega (arith, ltb-true m o h)

fresh-fixed : (m ends lasts moment : ℕ) (to tb' to' : Option ℕ) → is_before m to ≡ true → IsFrom m tb' to'
    → Moved m None (Some (over false true ends lasts None None to)) (after true ends moment tb') (Some (over false true ends lasts (after true ends moment tb') tb' to'))
fresh-fixed m ends lasts moment None tb' to' before from = cc
fresh-fixed m ends lasts moment (Some o) None None before from = cc
fresh-fixed m ends lasts moment (Some o) None (Some o') before from =
    elim (end-cases m ends o before) [
      | inl w ↦ elim (end-cases m ends o' from) [
        | inl w' ↦ inr (refl, w, w')
        | inr w' ↦ absurd (omega (arith, w'.1, ltb-true m (min ends o) w))
      ]
      | inr w ↦ inl (refl, ap Some (min-end m ends o' w.1 from ∙ sym w.0))
    ]
fresh-fixed m ends lasts moment (Some o) (Some b) to' before from =
    split (leb ends (max b moment)) refl
  where
    split : (v : Bool) → leb ends (max b moment) ≡ v
        → Moved m None (Some (min ends o)) (cond v None (Some (max b moment))) (Some (over false true ends lasts (cond v None (Some (max b moment))) (Some b) to'))
    split true e =
        elim (end-cases m ends o before) [
          | inl w ↦ inr (refl, w, lt-ltb m ends (omega (arith, ltb-true m (min ends o) w)))
          | inr w ↦ inl (refl, ap Some (sym w.0))
        ]
    split false e =
        inr (refl, lt-ltb m (min ends o) (omega (arith, ltb-true m o before, leb-false ends (max b moment) e)), omega arith)

abbrev begun : (free fixed : Bool) (starts ends moment : ℕ) → Option Moment → (trigger : Option ℕ) → Option ℕ
begun free fixed starts ends moment transition tb =
    cond free (cond fixed (Some (max starts moment)) (option_map (λ (found : Moment). found.0) transition)) (after fixed ends moment tb)

-- an entry, where its trigger moved so
moved-entry : (free fixed : Bool) (starts ends lasts moment : ℕ) (transition : Option Moment) (hit : Bool) (m : Moment)
    → (hit ≡ true → (free ≡ true) × (fixed ≡ false) × (m.0 < ends))
    → (tb to tb' to' : Option ℕ) → Moved m.0 tb to tb' to'
    → Moved m.0 (begun free fixed starts ends moment transition tb) (Some (over free fixed ends lasts (begun free fixed starts ends moment transition tb) tb to))
    (begun free fixed starts ends moment (or_else transition (cond hit (Some m) None)) tb')
    (Some (over free fixed ends lasts (begun free fixed starts ends moment (or_else transition (cond hit (Some m) None)) tb') tb' to'))
moved-entry true true starts ends lasts moment transition hit m can tb to tb' to' moved = inl (refl, refl)
moved-entry true false starts ends lasts moment (Some b) hit m can tb to tb' to' moved = inl (refl, refl)
moved-entry true false starts ends lasts moment None true m can tb to tb' to' moved = inr (refl, lt-ltb m.0 ends (can refl).2, omega arith)
moved-entry true false starts ends lasts moment None false m can tb to tb' to' moved = inl (refl, refl)
moved-entry false fixed starts ends lasts moment transition hit m can tb to tb' to' (inl same) =
    inl (
      ap (after fixed ends moment) same.0,
      ap (λ b. Some (over false fixed ends lasts (after fixed ends moment b) b to')) same.0 ∙ ap (λ o. Some (over false fixed ends lasts (after fixed ends moment tb) tb o)) same.1,
    )
moved-entry false fixed starts ends lasts moment transition hit m can (Some b) to tb' to' (inr fresh) = absurd (none-some fresh.0)
  where
    none-some : {x : ℕ} → ◌≡◌ {A = Option ℕ} (Some x) None → ⊥
    none-some e = cc
moved-entry false true starts ends lasts moment transition hit m can None to tb' to' (inr fresh) = fresh-fixed m.0 ends lasts moment to tb' to' fresh.1 fresh.2
moved-entry false false starts ends lasts moment transition hit m can None to tb' to' (inr fresh) = fresh-flexible m.0 ends lasts moment to tb' to' fresh.1 fresh.2

-- what holds of an entry that a transition begins
facts_of_hit : (free fixed place starts : Bool) (m ends : ℕ) (was_deleted : Bool) → ((not fixed && free && place && starts && ltb m ends) && not was_deleted) ≡ true → (free ≡ true) × (fixed ≡ false) × (m < ends)
facts_of_hit true false true true m ends false e = (refl, refl, ltb-true m ends (and-true (ltb m ends) e))
  where
    and-true : (b : Bool) → (b && true) ≡ true → b ≡ true
    and-true true h = refl
    and-true false h = h
facts_of_hit true false true true m ends true e = absurd (never (ltb m ends) e)
  where
    never : (b : Bool) → (b && false) ≡ true → ⊥
    never true h = cc
    never false h = cc
facts_of_hit true false true false m ends was_deleted e = cc
facts_of_hit true false false starts m ends was_deleted e = cc
facts_of_hit false false place starts m ends was_deleted e = cc
facts_of_hit free true place starts m ends was_deleted e = cc

-- after a transition, each entry is as before, or it wasn't over at the moment and had not begun
pub moved : (m : Moment) (p : ℕ) (es : List Entry) (k : ℕ) → Moved m.0 (begin_in es k) (over_in es k) (begin_in (map (turn m p) es) k) (over_in (map (turn m p) es) k)
moved m p [] k = inl (refl, refl)
moved m p (e ∷ earlier) k =
    at (eqb e.scheduled.id k) (moved m p earlier k)
    (moved-entry (e.scheduled.plan.trigger == 0) e.scheduled.plan.fixed e.scheduled.plan.starts.0 e.scheduled.plan.ends.0 e.scheduled.plan.lasts e.scheduled.moment.0 e.transition (begins_at e.scheduled m p && not e.deleted) m
    (facts_of_hit (e.scheduled.plan.trigger == 0) e.scheduled.plan.fixed (e.scheduled.object.place == p) (nat_le e.scheduled.plan.starts.0 m.0) m.0 e.scheduled.plan.ends.0 e.deleted)
    (begin_in earlier e.scheduled.plan.trigger) (over_in earlier e.scheduled.plan.trigger) (begin_in (map (turn m p) earlier) e.scheduled.plan.trigger) (over_in (map (turn m p) earlier) e.scheduled.plan.trigger)
    (moved m p earlier e.scheduled.plan.trigger))
  where
    at : (b : Bool) {x y u v x' y' u' v' : Option ℕ} → Moved m.0 x y u v → Moved m.0 x' y' u' v' → Moved m.0 (cond b x' x) (cond b y' y) (cond b u' u) (cond b v' v)
    at true old here = here
    at false old here = old

-- over stays over as time goes on
pub before-later : (m t : ℕ) → m ≤ t → (over : Option ℕ) → is_before m over ≡ false → is_before t over ≡ false
before-later m t le None h = refl
before-later m t le (Some o) h = le-ltb t o (omega (arith, ltb-false m o h))

-- and over a transition
pub over-stays : (m : Moment) (p t : ℕ) (es : List Entry) (k : ℕ) → m.0 ≤ t → is_before m.0 (over_in es k) ≡ false → is_before t (over_in (map (turn m p) es) k) ≡ false
over-stays m p t es k le h =
    elim (moved m p es k) [
      | inl same ↦ ap (is_before t) same.1 ∙ before-later m.0 t le (over_in es k) h
      | inr fresh ↦ absurd (true-false (sym fresh.1 ∙ h))
    ]
  where
    true-false : ◌≡◌ {A = Bool} true false → ⊥
    true-false e = cc

-- a transition deletes nothing
pub is_deleted_in-turn : (m : Moment) (p : ℕ) (es : List Entry) (k : ℕ) → is_deleted_in (map (turn m p) es) k ≡ is_deleted_in es k
is_deleted_in-turn m p [] k = refl
is_deleted_in-turn m p (e ∷ earlier) k = ap (cond (e.scheduled.id == k) e.deleted) (is_deleted_in-turn m p earlier k)

-- what is not live at a transition is never live again by it
pub gone-stays : (m : Moment) (p t : ℕ) (es : List Entry) (k : ℕ) → m.0 ≤ t → is_live_in es m.0 k ≡ false → is_live_in (map (turn m p) es) t k ≡ false
gone-stays m p t es k le h =
    ap (λ b. not b && is_before t (over_in (map (turn m p) es) k)) (is_deleted_in-turn m p es k)
    ∙ split (is_deleted_in es k) h
  where
    split : (d : Bool) → (not d && is_before m.0 (over_in es k)) ≡ false → (not d && is_before t (over_in (map (turn m p) es) k)) ≡ false
    split true e = refl
    split false e = over-stays m p t es k le e
