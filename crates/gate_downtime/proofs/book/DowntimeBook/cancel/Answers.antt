use Rattle.std.proofs.Common.{◌≡◌, ◌∙◌, ◌+◌, true, ap, sym, refl, subst, List}
use Rattle.std.specs.Prelude.{is_some}
use Rattle.gate_downtime.specs.inner.Live.{AreNoted, DropsEnded}
use Rattle.gate_model.specs.Meaning.{is_same_kind}
use Rattle.gate_downtime.specs.Book.{is_live_now}
use Rattle.gate_downtime.specs.declared.row.Row.{Row}
use Rattle.gate_downtime.specs.declared.chains.Chains.{Chains}
use Rattle.gate_downtime.specs.inner.Rows.{is_live_row}
use Rattle.gate_downtime.specs.inner.Scheduling.{IsLiveAt}
use Rattle.gate_downtime.specs.inner.Inside.{book_view}
use Rattle.gate_downtime.proofs.SpreadSteps.{spread-end}
use Rattle.gate_downtime.proofs.LiveSteps.{live-row}
use Rattle.gate_downtime.proofs.FindSteps.{no-downtime, other-kind, own-kind}
use Rattle.gate_downtime.proofs.WalkedSteps.{struck-after, struck-waiting, walked-book}
use Rattle.gate_downtime.proofs.BookSteps.{cancel-stands, deleted-entries}
use Rattle.gate_downtime.proofs.book.DowntimeBook.cancel.Goals as goal

pub returns-in_default-clause-answer : goal.returns-in_default-clause-answer
returns-in_default-clause-answer c =
    rw (← c.self.view_is)
    (no-downtime c.args.kind c.args.id (book_view c.self.inside) (sym (live-row _ _ _ _ (spread-end _ _ _ c.self.invariant.spreading)) ∙ sym c.find_live.ensures.live ∙ ap is_some c.in_default.is))

pub returns-then-not-is_same_kind-clause-answer : goal.returns-then-not-is_same_kind-clause-answer
returns-then-not-is_same_kind-clause-answer c =
    let on : is_live_now (book_view c.self.inside) c.args.id ≡ true = sym (live-row _ _ _ _ (spread-end _ _ _ c.self.invariant.spreading)) ∙ sym c.find_live.ensures.live ∙ ap is_some c.in-Some.is in
    let at : IsLiveAt c.self.inside.chains.first c.self.inside.chains.rows.items c.self.inside.chains.moment.0 c.args.id c.in-Some.at = c.in-Some.ensures.found in
    rw (← c.self.view_is)
    (other-kind c.args.kind c.self.inside.chains.first c.args.id c.in-Some.at c.row_at.result c.self.inside.chains.rows.items (book_view c.self.inside) refl (spread-end _ _ _ c.self.invariant.spreading) at.within at.id_is on
    (ap (λ (r : Row). is_same_kind c.args.kind r.entry.scheduled.object.kind) (sym (c.row_at.ensures c.row_at.result)) ∙ sym c.is_same_kind.ensures ∙ c.if-not-is_same_kind.true))

pub drop_ended-requires-clause-ascending : goal.drop_ended-requires-clause-ascending
drop_ended-requires-clause-ascending c = (struck-after c.self.inside c.delete_from.new.self c.self.invariant c.delete_from.ensures.kept c.delete_from.ensures.ready c.delete_from.ensures.struck).ascending

pub drop_ended-requires-clause-noted : goal.drop_ended-requires-clause-noted
drop_ended-requires-clause-noted c =
    let w : Chains = c.delete_from.new.self in
    let P : List Row → Type 0 = λ rows. AreNoted (is_live_row w.first rows w.moment.0) w.tally.live in
    subst P (sym c.deref.ensures.value) (struck-after c.self.inside w c.self.invariant c.delete_from.ensures.kept c.delete_from.ensures.ready c.delete_from.ensures.struck).noted

pub invariant_of-self : goal.invariant_of-self
invariant_of-self c =
    let w : Chains = c.delete_from.new.self in
    let P : List Row → Type 0 = λ rows. DropsEnded (is_live_row w.first rows w.moment.0) w.tally.live c.drop_ended.new.live in
    walked-book c.self.inside w w.links c.drop_ended.new.live c.self.inside.heads c.self.invariant c.delete_from.ensures.kept c.delete_from.ensures.ready c.delete_from.ensures.struck.struck.len
    (struck-after c.self.inside w c.self.invariant c.delete_from.ensures.kept c.delete_from.ensures.ready c.delete_from.ensures.struck) (subst P c.deref.ensures.value c.drop_ended.ensures)
    (record { len = refl; child = λ k l. refl; sibling = λ k l. refl }) refl refl (struck-waiting c.self.inside w c.self.invariant c.delete_from.ensures.kept c.delete_from.ensures.struck) refl

pub returns-clause-stands : goal.returns-clause-stands
returns-clause-stands c =
    let at : IsLiveAt c.self.inside.chains.first c.self.inside.chains.rows.items c.self.inside.chains.moment.0 c.args.id c.in-Some.at = c.in-Some.ensures.found in
    rw (← c.self.view_is)
    (cancel-stands (book_view c.self.inside) _ c.args.id (deleted-entries (book_view c.self.inside) _ (c.self.inside.chains.first + c.in-Some.at) c.args.id at.id_is c.delete_from.ensures.entries) c.delete_from.ensures.kept.moment c.delete_from.ensures.kept.first)

pub returns-clause-answer : goal.returns-clause-answer
returns-clause-answer c =
    let on : is_live_now (book_view c.self.inside) c.args.id ≡ true = sym (live-row _ _ _ _ (spread-end _ _ _ c.self.invariant.spreading)) ∙ sym c.find_live.ensures.live ∙ ap is_some c.in-Some.is in
    let at : IsLiveAt c.self.inside.chains.first c.self.inside.chains.rows.items c.self.inside.chains.moment.0 c.args.id c.in-Some.at = c.in-Some.ensures.found in
    rw (← c.self.view_is)
    (own-kind c.args.kind c.self.inside.chains.first c.args.id c.in-Some.at c.row_at.result c.self.inside.chains.rows.items (book_view c.self.inside) refl (spread-end _ _ _ c.self.invariant.spreading) at.within at.id_is on
    (ap (λ (r : Row). is_same_kind c.args.kind r.entry.scheduled.object.kind) (sym (c.row_at.ensures c.row_at.result)) ∙ sym c.is_same_kind.ensures ∙ c.if-not-is_same_kind.false))
