use Rattle.std.proofs.Common.{◌≡◌, ◌∙◌, ◌+◌, ℕ, List, map, length, Option, None, Some, get_or, ap, subst, arith}
use Rattle.gate_downtime.specs.declared.row.Row.{Row}
use Rattle.gate_downtime.specs.Book.{next_gone_of}
use Rattle.gate_downtime.specs.inner.Rows.{row_entries}
use Rattle.gate_downtime.specs.inner.Gone.{is_returned, returned_ids, AllPassed, TakesGone}
use Rattle.gate_downtime.proofs.SpreadSteps.{spread-end}
use Rattle.gate_downtime.proofs.ReturnSteps.{none-gone, one-gone, returned-more}
use Rattle.gate_downtime.proofs.BookSteps.{gone-stands}
use Rattle.gate_downtime.proofs.book.DowntimeBook.next_gone.Goals as goal

pub returns-in_default-clause-answer : goal.returns-in_default-clause-answer
returns-in_default-clause-answer c =
    let P : List Row → Type 0 = λ rows. AllPassed c.self.inside.chains.moment.0 rows c.self.inside.chains.tally.gone (length rows) in
    let none : ◌≡◌ {A = Option ℕ} None (next_gone_of (row_entries c.self.inside.chains.rows.items) c.self.inside.chains.moment (returned_ids c.self.inside.chains.first (map is_returned c.self.inside.chains.tally.gone.marks.items))) =
    none-gone c.self.inside.chains.first c.self.inside.chains.moment c.self.inside.chains.rows.items c.self.inside.chains.tally.gone (spread-end _ _ _ c.self.invariant.spreading) c.self.invariant.sound.gone.kept.len (subst P c.deref.ensures.value c.in_default.ensures.none) in
    rw (← c.self.view_is) none

pub returns-in_default-clause-stands : goal.returns-in_default-clause-stands
returns-in_default-clause-stands c = gone-stands c.args.self.now _ (returns-in_default-clause-answer c)

pub returns-clause-answer : goal.returns-clause-answer
returns-clause-answer c =
    let P : List Row → Type 0 = λ rows. TakesGone c.self.inside.chains.moment.0 rows c.in-Some.at c.self.inside.chains.tally.gone c.take_gone.new.gone in
    let takes : TakesGone c.self.inside.chains.moment.0 c.self.inside.chains.rows.items c.in-Some.at c.self.inside.chains.tally.gone c.take_gone.new.gone = subst P c.deref.ensures.value c.in-Some.ensures.some in
    let row : c.row_at.result ≡ get_or c.self.inside.chains.rows.items c.in-Some.at c.row_at.result = c.row_at.ensures c.row_at.result in
    let one : ◌≡◌ {A = Option ℕ} (Some c.row_at.result.entry.scheduled.id) (next_gone_of (row_entries c.self.inside.chains.rows.items) c.self.inside.chains.moment (returned_ids c.self.inside.chains.first (map is_returned c.self.inside.chains.tally.gone.marks.items))) =
    ap (λ (r : Row). Some r.entry.scheduled.id) row
    ∙ one-gone c.self.inside.chains.first c.self.inside.chains.moment c.in-Some.at c.row_at.result c.self.inside.chains.rows.items c.self.inside.chains.tally.gone c.take_gone.new.gone (spread-end _ _ _ c.self.invariant.spreading) c.self.invariant.sound.gone.kept.len takes in
    rw (← c.self.view_is) one

pub returns-clause-stands : goal.returns-clause-stands
returns-clause-stands c = gone-stands c.args.self.now _ (returns-clause-answer c)

pub returns-clause-returned : goal.returns-clause-returned
returns-clause-returned c = λ id.
    let P : List Row → Type 0 = λ rows. TakesGone c.self.inside.chains.moment.0 rows c.in-Some.at c.self.inside.chains.tally.gone c.take_gone.new.gone in
    let takes : TakesGone c.self.inside.chains.moment.0 c.self.inside.chains.rows.items c.in-Some.at c.self.inside.chains.tally.gone c.take_gone.new.gone = subst P c.deref.ensures.value c.in-Some.ensures.some in
    let row : c.row_at.result ≡ get_or c.self.inside.chains.rows.items c.in-Some.at c.row_at.result = c.row_at.ensures c.row_at.result in
    let is : c.row_at.result.entry.scheduled.id ≡ c.self.inside.chains.first + c.in-Some.at = ap (λ (r : Row). r.entry.scheduled.id) row ∙ (spread-end _ _ _ c.self.invariant.spreading c.in-Some.at c.row_at.result takes.within).id_is in
    rw (← c.self.view_is, is) (returned-more c.self.inside.chains.first c.in-Some.at c.self.inside.chains.tally.gone c.take_gone.new.gone (omega (arith, takes.within, c.self.invariant.sound.gone.kept.len)) takes.flags id)
