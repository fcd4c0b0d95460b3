-- What one more event changes in the meaning of downtime.
use Rattle.std.proofs.Common.{◌≡◌, ℕ, suc, ◌+◌, ◌≤◌, ◌<◌, Bool, true, false, cond, not, ◌&&◌, ◌||◌, List, [], ◌∷◌, length, map, Option, refl, ap, ◌∙◌, arith, inl, inr, ltb, eqb}
use Rattle.std.specs.Prelude.{Some, None, ◌==◌}
use Rattle.std.proofs.lemmas.Bool.Decides.{eqb_tells}
use Rattle.std.proofs.lemmas.Bool.Decides.{nat_tests}
use Rattle.gate_model.specs.declared.record.Moment.{Moment}
use Rattle.gate_model.specs.declared.object.ObjectId.{ObjectId}
use Rattle.gate_model.specs.declared.downtime.Plan.{Plan}
use Rattle.gate_model.specs.declared.downtime.DowntimeEvent.{DowntimeEvent}
use Rattle.gate_model.specs.declared.downtime.DowntimeEvent.TheVariants.{Schedule, Delete, Transition}
use Rattle.gate_model.specs.declared.downtime.Scheduled.{Scheduled}
use Rattle.gate_model.specs.declared.downtime.Entry.{Entry}
use Rattle.gate_model.specs.Downtime.{scheduled_in, entries_of, entries_by, transition_of, was_deleted, or_else, begins_at, is_chained, is_live_in, begin_in, over_in, over_by, begin_by}

-- an entry after a transition
abbrev pub turn : Moment → ℕ → Entry → Entry
turn m p e = record { scheduled = e.scheduled; transition = or_else e.transition (cond (begins_at e.scheduled m p && not e.deleted) (Some m) None); deleted = e.deleted }

-- an entry after a deletion
abbrev pub mark : (ℕ → Bool) → Entry → Entry
mark hit e = record { scheduled = e.scheduled; transition = e.transition; deleted = e.deleted || hit e.scheduled.id }

-- each scheduled entry has an id below the next one
below-next : (b : Bool) → b ≡ true → (x y : Bool) → (b && x && y) ≡ (x && y)
below-next true e x y = refl
below-next false e x y = cc

-- ids of what was scheduled, all below a bound
pub data Below (n : ℕ) : List Scheduled → Type 0 where
  none : Below n []
  more : {s : Scheduled} {ss : List Scheduled} → s.id < n → Below n ss → Below n (s ∷ ss)

Below-mono : (n k : ℕ) → n ≤ k → {ss : List Scheduled} → Below n ss → Below k ss
Below-mono n k le none = none
Below-mono n k le (more lt rest) = more (omega arith) (Below-mono n k le rest)

pub scheduled-below : (first : ℕ) (h : List DowntimeEvent) → Below (first + length (scheduled_in first h)) (scheduled_in first h)
scheduled-below first [] = none
scheduled-below first (Schedule m p plan ∷ before) =
    more (omega arith) (Below-mono (first + length (scheduled_in first before)) (first + suc (length (scheduled_in first before))) (omega arith) (scheduled-below first before))
scheduled-below first (Delete m x ∷ before) = scheduled-below first before
scheduled-below first (Transition m p ∷ before) = scheduled-below first before

ltb-true : (a b : ℕ) → a < b → ltb a b ≡ true
ltb-true a b lt = grind (arith, nat_tests)

ltb-false : (a b : ℕ) → b ≤ a → ltb a b ≡ false
ltb-false a b le = grind (arith, nat_tests)

-- a transition turns each entry by itself
turn-all : (first : ℕ) (m : Moment) (p n : ℕ) (h : List DowntimeEvent) → {ss : List Scheduled} → Below n ss → n ≡ first + length (scheduled_in first h)
    → entries_by (transition_of (Transition m p ∷ h) first) (was_deleted (Transition m p ∷ h) first) ss ≡ map (turn m p) (entries_by (transition_of h first) (was_deleted h first) ss)
turn-all first m p n h none e = refl
turn-all first m p n h (more {s = s} {ss = ss} lt rest) e =
    let is : ltb s.id (first + length (scheduled_in first h)) ≡ true = ltb-true s.id (first + length (scheduled_in first h)) (omega arith) in
    ap (λ (b : Bool). let e : Entry = record { scheduled = s; transition = or_else (transition_of h first s) (cond b (Some m) None); deleted = was_deleted h first s.id } in
    e ∷ entries_by (transition_of (Transition m p ∷ h) first) (was_deleted (Transition m p ∷ h) first) ss) (below-next (ltb s.id (first + length (scheduled_in first h))) is (begins_at s m p) (not (was_deleted h first s.id)))
    ∙ ap (λ es. turn m p (record { scheduled = s; transition = transition_of h first s; deleted = was_deleted h first s.id }) ∷ es) (turn-all first m p n h rest e)

pub entries_of-transition : (first : ℕ) (m : Moment) (p : ℕ) (h : List DowntimeEvent) → entries_of first (Transition m p ∷ h) ≡ map (turn m p) (entries_of first h)
entries_of-transition first m p h = turn-all first m p (first + length (scheduled_in first h)) h (scheduled-below first h) refl

-- a deletion marks the entries_of that it is_chained
mark-all : (first : ℕ) (m : Moment) (x : ℕ) (h : List DowntimeEvent) (ss : List Scheduled)
    → entries_by (transition_of (Delete m x ∷ h) first) (was_deleted (Delete m x ∷ h) first) ss ≡ map (mark (is_chained (is_live_in (entries_of first h) m.0) (entries_of first h) x)) (entries_by (transition_of h first) (was_deleted h first) ss)
mark-all first m x h [] = refl
mark-all first m x h (s ∷ ss) = ap (λ es. mark (is_chained (is_live_in (entries_of first h) m.0) (entries_of first h) x) (record { scheduled = s; transition = transition_of h first s; deleted = was_deleted h first s.id }) ∷ es) (mark-all first m x h ss)

pub entries_of-delete : (first : ℕ) (m : Moment) (x : ℕ) (h : List DowntimeEvent) → entries_of first (Delete m x ∷ h) ≡ map (mark (is_chained (is_live_in (entries_of first h) m.0) (entries_of first h) x)) (entries_of first h)
entries_of-delete first m x h = mark-all first m x h (scheduled_in first h)

-- an entry of a later id has neither transition_of nor been was_deleted
transition_of-later : (first : ℕ) (h : List DowntimeEvent) (s : Scheduled) → first + length (scheduled_in first h) ≤ s.id → transition_of h first s ≡ None
transition_of-later first [] s le = refl
transition_of-later first (Schedule m p plan ∷ before) s le = transition_of-later first before s (omega arith)
transition_of-later first (Delete m x ∷ before) s le = transition_of-later first before s le
transition_of-later first (Transition m p ∷ before) s le =
    let is : ltb s.id (first + length (scheduled_in first before)) ≡ false = ltb-false s.id (first + length (scheduled_in first before)) le in
    rw (transition_of-later first before s le) (ap (λ b. cond (b && begins_at s m p && not (was_deleted before first s.id)) (Some m) None) is)

is_chained-later : (transitions : Scheduled → Option Moment) (deletions : ℕ → Bool) (live : ℕ → Bool) (x k n : ℕ) → {ss : List Scheduled} → Below n ss → n ≤ k → is_chained live (entries_by transitions deletions ss) x k ≡ false
is_chained-later transitions deletions live x k n none le = refl
is_chained-later transitions deletions live x k n (more {s = s} {ss = ss} lt rest) le =
    elim (eqb_tells s.id k) [
      | inl w ↦ absurd (omega (arith, w.1))
      | inr w ↦ ap (λ b. cond b (live k && ((k == x) || is_chained live (entries_by transitions deletions ss) x s.plan.trigger)) (is_chained live (entries_by transitions deletions ss) x k)) w.0 ∙ is_chained-later transitions deletions live x k n rest le
    ]

was_deleted-later : (first : ℕ) (h : List DowntimeEvent) (k : ℕ) → first + length (scheduled_in first h) ≤ k → was_deleted h first k ≡ false
was_deleted-later first [] k le = refl
was_deleted-later first (Schedule m p plan ∷ before) k le = was_deleted-later first before k (omega arith)
was_deleted-later first (Transition m p ∷ before) k le = was_deleted-later first before k le
was_deleted-later first (Delete m x ∷ before) k le =
    rw (was_deleted-later first before k le)
    (is_chained-later (transition_of before first) (was_deleted before first) (is_live_in (entries_of first before) m.0) x k (first + length (scheduled_in first before)) (scheduled-below first before) le)

-- a schedule adds a fresh entry
pub entries_of-schedule : (first : ℕ) (m : Moment) (o : ObjectId) (plan : Plan) (h : List DowntimeEvent)
    → entries_of first (Schedule m o plan ∷ h)
    ≡ (record { scheduled = record { id = first + length (scheduled_in first h); object = o; plan = plan; moment = m }; transition = None; deleted = false }) ∷ entries_of first h
entries_of-schedule first m o plan h =
    let s : Scheduled = record { id = first + length (scheduled_in first h); object = o; plan = plan; moment = m } in
    ap (λ (t : Option Moment). let e : Entry = record { scheduled = s; transition = t; deleted = was_deleted h first s.id } in e ∷ entries_of first h) (transition_of-later first h s (omega arith))
    ∙ ap (λ (d : Bool). let e : Entry = record { scheduled = s; transition = None; deleted = d } in e ∷ entries_of first h) (was_deleted-later first h s.id (omega arith))

-- a deletion changes no beginning and no end
pub begin_in-mark : (hit : ℕ → Bool) (es : List Entry) (k : ℕ) → begin_in (map (mark hit) es) k ≡ begin_in es k
begin_in-mark hit [] k = refl
begin_in-mark hit (e ∷ earlier) k =
    ap (λ b. cond (e.scheduled.id == k) (begin_by (mark hit e) b) (begin_in (map (mark hit) earlier) k)) (begin_in-mark hit earlier e.scheduled.plan.trigger)
    ∙ ap (λ b. cond (e.scheduled.id == k) (begin_by e (begin_in earlier e.scheduled.plan.trigger)) b) (begin_in-mark hit earlier k)

pub over_in-mark : (hit : ℕ → Bool) (es : List Entry) (k : ℕ) → over_in (map (mark hit) es) k ≡ over_in es k
over_in-mark hit [] k = refl
over_in-mark hit (e ∷ earlier) k =
    ap (λ b. cond (e.scheduled.id == k) (Some (over_by (mark hit e) (begin_by (mark hit e) b) b (over_in (map (mark hit) earlier) e.scheduled.plan.trigger))) (over_in (map (mark hit) earlier) k)) (begin_in-mark hit earlier e.scheduled.plan.trigger)
    ∙ ap (λ b. cond (e.scheduled.id == k) (Some (over_by e (begin_by e (begin_in earlier e.scheduled.plan.trigger)) (begin_in earlier e.scheduled.plan.trigger) b)) (over_in (map (mark hit) earlier) k)) (over_in-mark hit earlier e.scheduled.plan.trigger)
    ∙ ap (λ b. cond (e.scheduled.id == k) (Some (over_by e (begin_by e (begin_in earlier e.scheduled.plan.trigger)) (begin_in earlier e.scheduled.plan.trigger) (over_in earlier e.scheduled.plan.trigger))) b) (over_in-mark hit earlier k)

-- an entry of another id changes neither
pub begin_in-other : (e : Entry) (es : List Entry) (k : ℕ) → eqb e.scheduled.id k ≡ false → begin_in (e ∷ es) k ≡ begin_in es k
begin_in-other e es k other = ap (λ b. cond b (begin_by e (begin_in es e.scheduled.plan.trigger)) (begin_in es k)) other

pub over_in-other : (e : Entry) (es : List Entry) (k : ℕ) → eqb e.scheduled.id k ≡ false → over_in (e ∷ es) k ≡ over_in es k
over_in-other e es k other = ap (λ b. cond b (Some (over_by e (begin_by e (begin_in es e.scheduled.plan.trigger)) (begin_in es e.scheduled.plan.trigger) (over_in es e.scheduled.plan.trigger))) (over_in es k)) other
