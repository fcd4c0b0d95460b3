-- An applier that goes by its clock, in one step and in several.
use Rattle.std.proofs.Common.{◌≡◌, ℕ, List, [], ◌∷◌, ◌++◌, append-nil, append_assoc, max, Option, Some, None, refl, sym, ap, ◌∙◌, subst, arith, inl, inr}
use Rattle.std.proofs.lemmas.Bool.{cases_lt}
use Rattle.std.specs.Prelude.{All}
use Rattle.std.proofs.lemmas.List.Elements.{All-nil, All-cons, All-head, All-tail, All-append, All-weaker}
use Rattle.gate_model.specs.declared.record.Moment.{Moment}
use Rattle.gate_model.specs.declared.record.Record.{Record}
use Rattle.gate_model.specs.declared.submission.Numbered.{Numbered}
use Rattle.gate_model.specs.Record.{later}
use Rattle.gate_applier.specs.Applier.{ApplierView}
use Rattle.gate_environment.specs.Clock.{ClockState, Shows, Takes}
use Rattle.gate_environment.proofs.Readings.{takes_none, takes_append}
use Rattle.gate_boards.specs.Applying.{Reading, moments_of, latest_of, record_at, records_by, GoesByClock, IsSameLog, AreShown}

moments_append : (xs ys : List Reading) → moments_of (xs ++ ys) ≡ moments_of xs ++ moments_of ys
moments_append [] ys = refl
moments_append (x ∷ xs) ys = ap (λ l. x.moment ∷ l) (moments_append xs ys)

latest_append : (moment : Moment) (xs ys : List Reading) → latest_of moment (xs ++ ys) ≡ latest_of (latest_of moment xs) ys
latest_append moment [] ys = refl
latest_append moment (x ∷ xs) ys = latest_append (later moment x.moment) xs ys

records_append : (moment : Moment) (xs ys : List Reading)
    → records_by moment (xs ++ ys) ≡ records_by moment xs ++ records_by (latest_of moment xs) ys
records_append moment [] ys = refl
records_append moment (x ∷ xs) ys =
    let now = later moment x.moment in
    ap (λ l. record_at now x.item ++ l) (records_append now xs ys)
    ∙ sym (append_assoc (record_at now x.item) (records_by now xs) (records_by (latest_of now xs) ys))

pub same_both : (old middle new : ApplierView) → IsSameLog old middle → IsSameLog middle new → IsSameLog old new
same_both old middle new first second = record {
  table = second.table ∙ first.table;
  opening = second.opening ∙ first.opening;
  limit = second.limit ∙ first.limit;
}

-- the clock wasn't read
pub kept : (clock : ClockState) (old new : ApplierView) → new.records ≡ old.records → new.moment ≡ old.moment → GoesByClock clock clock old new
kept clock old new records moment = record {
  readings = [];
  taken = takes_none clock.readings;
  shown = All-nil clock.shows;
  stays = λ now shown. shown;
  records = records ∙ sym (append-nil old.records);
  moment = moment;
}

-- the clock was read, and no item applied
pub advanced : (before after : ClockState) (old new : ApplierView) (now : Moment) → Shows before after now
    → new.records ≡ old.records → new.moment ≡ later old.moment now → GoesByClock before after old new
advanced before after old new now shows records moment = record {
  readings = (record { moment = now; item = None }) ∷ [];
  taken = shows.read;
  shown = All-cons before.shows now [] shows.shown (All-nil before.shows);
  stays = shows.stays;
  records = records ∙ sym (append-nil old.records);
  moment = moment;
}

-- the clock was read, and an item applied to what was prepared
pub applied_one : (before after : ClockState) (old ready new : ApplierView) (now : Moment) (item : Numbered) → Shows before after now
    → ready.records ≡ old.records → ready.moment ≡ old.moment → new.records ≡ ready.records ++ (record { moment = later ready.moment now; item = item }) ∷ []
    → new.moment ≡ later ready.moment now → GoesByClock before after old new
applied_one before after old ready new now item shows listed at records moment = record {
  readings = (record { moment = now; item = Some item }) ∷ [];
  taken = shows.read;
  shown = All-cons before.shows now [] shows.shown (All-nil before.shows);
  stays = shows.stays;
  records = records ∙ ap (λ (l : List Record). l ++ (record { moment = later ready.moment now; item = item }) ∷ []) listed
      ∙ ap (λ (m : Moment). old.records ++ (record { moment = later m now; item = item }) ∷ []) at;
  moment = moment ∙ ap (λ (m : Moment). later m now) at;
}

pub both : (before between after : ClockState) (old middle new : ApplierView) → GoesByClock before between old middle
    → GoesByClock between after middle new → GoesByClock before after old new
both before between after old middle new first second = record {
  readings = first.readings ++ second.readings;
  taken = subst (Takes before.readings after.readings) (sym (moments_append first.readings second.readings))
      (takes_append before.readings between.readings after.readings (moments_of first.readings) (moments_of second.readings) first.taken second.taken);
  shown = subst (All before.shows) (sym (moments_append first.readings second.readings))
      (All-append before.shows (moments_of first.readings) (moments_of second.readings) first.shown (All-weaker between.shows before.shows first.stays (moments_of second.readings) second.shown));
  stays = λ now shown. first.stays now (second.stays now shown);
  records = second.records ∙ ap (λ l. l ++ records_by middle.moment second.readings) first.records
      ∙ append_assoc old.records (records_by old.moment first.readings) (records_by middle.moment second.readings)
      ∙ ap (λ m. old.records ++ (records_by old.moment first.readings ++ records_by m second.readings)) first.moment
      ∙ ap (λ l. old.records ++ l) (sym (records_append old.moment first.readings second.readings));
  moment = second.moment ∙ ap (λ m. latest_of m second.readings) first.moment ∙ sym (latest_append old.moment first.readings second.readings);
}

-- ---- moments that a clock may show

pub later_shown : (shows : Moment → Type 0) (one other : Moment) → shows one → shows other → shows (later one other)
later_shown shows one other here there = elim (cases_lt one.0 other.0) [
  | inl less ↦ let same : max one.0 other.0 ≡ other.0 = omega (arith, less) in
      subst shows (ap (λ (n : ℕ). let at : Moment = record { 0 = n } in at) (sym same)) there
  | inr more ↦ let same : max one.0 other.0 ≡ one.0 = omega (arith, more) in
      subst shows (ap (λ (n : ℕ). let at : Moment = record { 0 = n } in at) (sym same)) here
]

-- a record, if there is one, at a moment that is shown
record_shown : (shows : Moment → Type 0) (now : Moment) (item : Option Numbered) → shows now → All (λ (applied : Record). shows applied.moment) (record_at now item)
record_shown shows now None here = All-nil _
record_shown shows now (Some item) here = All-cons (λ (applied : Record). shows applied.moment) _ [] here (All-nil _)

latest_shown : (shows : Moment → Type 0) (moment : Moment) (readings : List Reading) → shows moment → All shows (moments_of readings)
    → shows (latest_of moment readings)
latest_shown shows moment [] here all = here
latest_shown shows moment (r ∷ readings) here all =
    latest_shown shows (later moment r.moment) readings (later_shown shows moment r.moment here (All-head shows _ (moments_of readings) all))
    (All-tail shows _ (moments_of readings) all)

records_shown : (shows : Moment → Type 0) (moment : Moment) (readings : List Reading) → shows moment → All shows (moments_of readings)
    → All (λ (applied : Record). shows applied.moment) (records_by moment readings)
records_shown shows moment [] here all = All-nil _
records_shown shows moment (r ∷ readings) here all =
    let now = later_shown shows moment r.moment here (All-head shows _ (moments_of readings) all) in
    All-append (λ (applied : Record). shows applied.moment) (record_at (later moment r.moment) r.item) (records_by (later moment r.moment) readings)
    (record_shown shows (later moment r.moment) r.item now)
    (records_shown shows (later moment r.moment) readings now (All-tail shows _ (moments_of readings) all))

-- what goes by a clock stays at moments that the clock may show
pub goes_shown : (before after : ClockState) (old new : ApplierView) → IsSameLog old new → GoesByClock before after old new → AreShown before.shows old → AreShown before.shows new
goes_shown before after old new same goes are = record {
  opening = subst before.shows (sym same.opening) are.opening;
  records = subst (All (λ (applied : Record). before.shows applied.moment)) (sym goes.records)
      (All-append (λ (applied : Record). before.shows applied.moment) old.records (records_by old.moment goes.readings) are.records (records_shown before.shows old.moment goes.readings are.moment goes.shown));
  moment = subst before.shows (sym goes.moment) (latest_shown before.shows old.moment goes.readings are.moment goes.shown);
}
