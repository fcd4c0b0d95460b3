-- An applier at moments that a clock may show, once more was applied, and in other words.
use Rattle.std.proofs.Common.{◌≡◌, List, [], ◌∷◌, sym, subst}
use Rattle.std.specs.Prelude.{All}
use Rattle.std.proofs.lemmas.List.Elements.{All-nil, All-cons, All-append}
use Rattle.gate_model.specs.declared.record.Moment.{Moment}
use Rattle.gate_model.specs.declared.record.Record.{Record}
use Rattle.gate_model.specs.declared.submission.Numbered.{Numbered}
use Rattle.gate_model.specs.Record.{later}
use Rattle.gate_applier.specs.Applier.{ApplierView}
use Rattle.gate_close.specs.DrainedClose.{AppliesMore, moment_after, records_at}
use Rattle.gate_boards.specs.Applying.{AreShown}
use Rattle.gate_boards.proofs.Clocked.{later_shown}

at_shown : (shows : Moment → Type 0) (now : Moment) (items : List Numbered) → shows now → All (λ (applied : Record). shows applied.moment) (records_at now items)
at_shown shows now [] here = All-nil _
at_shown shows now (item ∷ items) here = All-cons (λ (applied : Record). shows applied.moment) _ (records_at now items) here (at_shown shows now items here)

after_shown : (shows : Moment → Type 0) (old now : Moment) (items : List Numbered) → shows old → shows now → shows (moment_after old now items)
after_shown shows old now [] here there = here
after_shown shows old now (item ∷ items) here there = later_shown shows old now here there

-- so does what is applied at one moment that it may show
pub more_shown : (shows : Moment → Type 0) (now : Moment) (old new : ApplierView) → shows now → AppliesMore now old new → AreShown shows old → AreShown shows new
more_shown shows now old new shown more are = record {
  opening = subst shows (sym more.opening) are.opening;
  records = subst (All (λ (applied : Record). shows applied.moment)) (sym more.records)
      (All-append (λ (applied : Record). shows applied.moment) old.records (records_at (later old.moment now) more.items) are.records
      (at_shown shows (later old.moment now) more.items (later_shown shows old.moment now are.moment shown)));
  moment = subst shows (sym more.moment) (after_shown shows old.moment now more.items are.moment shown);
}

-- the same of the same clock and the same applier, named otherwise
pub shown_on : {K : Type 0} (shows : K → Moment → Type 0) (one other : K) (old known new : ApplierView) → one ≡ other → old ≡ known
    → (AreShown (shows one) old → AreShown (shows one) new) → AreShown (shows other) known → AreShown (shows other) new
shown_on {K} shows one other old known new clock applier stays =
    subst (λ (k : K). AreShown (shows k) known → AreShown (shows k) new) clock
    (subst (λ (a : ApplierView). AreShown (shows one) a → AreShown (shows one) new) applier stays)
