-- Entries that are scheduled at one moment, each for a window that isn't over then, are live at that moment.
use Rattle.std.proofs.Common.{◌≡◌, ℕ, ◌+◌, ◌<◌, ◌≤◌, Bool, true, false, cond, max, min, List, [], ◌∷◌, length, refl, sym, ap, ◌∙◌, subst, arith, inl, inr, leb, eqb}
use Rattle.std.specs.Prelude.{not, ◌&&◌, ◌||◌, ◌==◌, nat_lt, Option, Some, None, is_some, unwrap_or, option_map}
use Rattle.std.proofs.lemmas.Bool.{ltb-true, lt-ltb, eqb-false}
use Rattle.std.proofs.lemmas.Bool.Decides.{eqb_tells}
use Rattle.gate_model.specs.declared.record.Moment.{Moment}
use Rattle.gate_model.specs.declared.object.ObjectId.{ObjectId}
use Rattle.gate_model.specs.declared.downtime.Plan.{Plan}
use Rattle.gate_model.specs.declared.downtime.Entry.{Entry}
use Rattle.gate_model.specs.declared.downtime.DowntimeEvent.{DowntimeEvent}
use Rattle.gate_model.specs.declared.downtime.DowntimeEvent.TheVariants.{Schedule, Delete, Transition}
use Rattle.gate_model.specs.Downtime.{scheduled_in, entries_of, begin_in, over_in, over_by, begin_by, is_deleted_in, is_before, is_live}
use Rattle.gate_model.proofs.DowntimeSteps.{entries_of-schedule, over_in-other}

-- a triggered flexible entry has a duration
abbrev pub has_duration : Plan → Bool
has_duration plan = (plan.trigger == 0) || plan.fixed || nat_lt 0 plan.lasts

-- the newest first: each entry is scheduled at this moment for a window that isn't over then, after its trigger, and no
-- transition comes after an entry
unfoldable pub AreTimely : Moment → List DowntimeEvent → Type 0
AreTimely until [] = Unit {0}
AreTimely until (Schedule moment object plan ∷ before) =
    (moment.0 ≡ until.0) × (until.0 < plan.ends.0) × (plan.trigger ≤ length (scheduled_in 1 before)) × (has_duration plan ≡ true)
    × AreTimely until before
AreTimely until (Delete moment id ∷ before) = ⊥
AreTimely until (Transition moment place ∷ before) = (length (scheduled_in 1 before) ≡ 0) × AreTimely until before

-- ---- one entry

-- when a triggered entry begins
abbrev after : (fixed : Bool) (ends moment : ℕ) → Option ℕ → Option ℕ
after fixed ends moment None = None
after fixed ends moment (Some b) = cond (fixed && leb ends (max b moment)) None (Some (max b moment))

-- when it is over without a beginning
abbrev gone : (free fixed : Bool) (ends : ℕ) → Option ℕ → Option ℕ → ℕ
gone free fixed ends tb to = cond (free || is_some tb) ends (cond fixed (min ends (unwrap_or to 0)) (unwrap_or to 0))

abbrev over : (free fixed : Bool) (ends lasts : ℕ) → Option ℕ → Option ℕ → Option ℕ → ℕ
over free fixed ends lasts (Some b) tb to = cond fixed ends (b + lasts)
over free fixed ends lasts None tb to = gone free fixed ends tb to

triggered : (fixed : Bool) (ends lasts moment until : ℕ) (tb to : Option ℕ) → until < ends → moment ≡ until
    → is_before until to ≡ true → (fixed || nat_lt 0 lasts) ≡ true
    → until < over false fixed ends lasts (after fixed ends moment tb) tb to
triggered fixed ends lasts moment until None None later at before duration = absurd cc
triggered true ends lasts moment until None (Some o) later at before duration = omega (arith, ltb-true until o before)
triggered false ends lasts moment until None (Some o) later at before duration = ltb-true until o before
triggered false ends lasts moment until (Some b) to later at before duration = omega (arith, ltb-true 0 lasts duration)
triggered true ends lasts moment until (Some b) to later at before duration = begun (leb ends (max b moment))
  where
    begun : (late : Bool) → until < over false true ends lasts (cond late None (Some (max b moment))) (Some b) to
    begun true = later
    begun false = later

timely : (free fixed : Bool) (starts ends lasts moment until : ℕ) (tb to : Option ℕ) → until < ends → moment ≡ until
    → (free ≡ false → is_before until to ≡ true) → (free || fixed || nat_lt 0 lasts) ≡ true
    → until < over free fixed ends lasts (cond free (cond fixed (Some (max starts moment)) None) (after fixed ends moment tb)) tb to
timely true true starts ends lasts moment until tb to later at before duration = later
timely true false starts ends lasts moment until tb to later at before duration = later
timely false fixed starts ends lasts moment until tb to later at before duration =
    triggered fixed ends lasts moment until tb to later at (before refl) duration

-- ---- all entries

-- the entry of this id isn't deleted, nor over at this moment
record IsThere (entries : List Entry) (moment id : ℕ) : Type 0 where
  kept : is_deleted_in entries id ≡ false
  before : is_before moment (over_in entries id) ≡ true

-- the newest entry
abbrev newest : Moment → ObjectId → Plan → List DowntimeEvent → Entry
newest moment object plan before = record {
  scheduled = record { id = 1 + length (scheduled_in 1 before); object = object; plan = plan; moment = moment };
  transition = None;
  deleted = false;
}

here : (until : Moment) (entry : Entry) (older : List Entry) (id : ℕ) → eqb entry.scheduled.id id ≡ true
    → entry.transition ≡ None → entry.deleted ≡ false → entry.scheduled.moment.0 ≡ until.0
    → until.0 < entry.scheduled.plan.ends.0 → has_duration entry.scheduled.plan ≡ true
    → ((entry.scheduled.plan.trigger == 0) ≡ false → is_before until.0 (over_in older entry.scheduled.plan.trigger) ≡ true)
    → IsThere (entry ∷ older) until.0 id
here until entry older id same untouched kept at later duration trigger =
    let plan = entry.scheduled.plan in
    let tb = begin_in older plan.trigger in
    let to = over_in older plan.trigger in
    let low : until.0 < over_by entry (begin_by entry tb) tb to =
    subst (λ (found : Option Moment). until.0 < over (plan.trigger == 0) plan.fixed plan.ends.0 plan.lasts (
    cond (plan.trigger == 0) (cond plan.fixed (Some (max plan.starts.0 entry.scheduled.moment.0)) (option_map (λ (moment : Moment). moment.0) found))
    (after plan.fixed plan.ends.0 entry.scheduled.moment.0 tb)
    ) tb to) (sym untouched)
    (timely (plan.trigger == 0) plan.fixed plan.starts.0 plan.ends.0 plan.lasts entry.scheduled.moment.0 until.0 tb to later at trigger duration) in
    record {
      kept = ap (λ (b : Bool). cond b entry.deleted (is_deleted_in older id)) same ∙ kept;
      before =
          ap (λ (b : Bool). is_before until.0 (cond b (Some (over_by entry (begin_by entry tb) tb to)) (over_in older id))) same
          ∙ lt-ltb until.0 (over_by entry (begin_by entry tb) tb to) low;
    }

elsewhere : (until : ℕ) (entry : Entry) (older : List Entry) (id : ℕ) → eqb entry.scheduled.id id ≡ false
    → IsThere older until id → IsThere (entry ∷ older) until id
elsewhere until entry older id other there = record {
  kept = ap (λ (b : Bool). cond b entry.deleted (is_deleted_in older id)) other ∙ there.kept;
  before = ap (is_before until) (over_in-other entry older id other) ∙ there.before;
}

not_zero : (number : ℕ) → (number == 0) ≡ false → 1 ≤ number
not_zero number is =
    let other : number ≡ 0 → ⊥ = eqb-false number 0 is in
    omega arith

all_there : (until : Moment) (history : List DowntimeEvent) → AreTimely until history
    → (id : ℕ) → 1 ≤ id → id ≤ length (scheduled_in 1 history) → IsThere (entries_of 1 history) until.0 id
unfolding AreTimely
all_there until [] all id low high = absurd (omega arith)
all_there until (Delete moment deleted ∷ before) all id low high = absurd all
all_there until (Transition moment place ∷ before) all id low high = absurd (omega (arith, all.0))
all_there until (Schedule moment object plan ∷ before) all id low high =
    let entry : Entry = newest moment object plan before in
    subst (λ entries. IsThere entries until.0 id) (sym (entries_of-schedule 1 moment object plan before)) (
    elim (eqb_tells entry.scheduled.id id) [
      | inl same ↦ here until entry (entries_of 1 before) id same.0 refl refl all.0 all.1 all.3
          (λ is. (all_there until before all.4 plan.trigger (not_zero plan.trigger is) all.2).before)
      | inr other ↦ elsewhere until.0 entry (entries_of 1 before) id other.0
          (all_there until before all.4 id low (omega (arith, other.1)))
    ])

pub all_live : (until : Moment) (history : List DowntimeEvent) → AreTimely until history
    → (id : ℕ) → 1 ≤ id → id ≤ length (scheduled_in 1 history) → is_live 1 history until id ≡ true
all_live until history all id low high =
    let there = all_there until history all id low high in
    let kept : not (is_deleted_in (entries_of 1 history) id) ≡ true = ap not there.kept in
    ap (λ (b : Bool). b && is_before until.0 (over_in (entries_of 1 history) id)) kept ∙ there.before
