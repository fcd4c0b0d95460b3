use Rattle.std.proofs.Common.{length, ◌∙◌, ap, sym, List, refl, subst}
use Rattle.gate_downtime.specs.declared.row.Row.{Row}
use Rattle.gate_downtime.specs.inner.Rows.{is_live_row}
use Rattle.gate_downtime.specs.inner.Live.{AreNoted, DropsEnded}
use Rattle.gate_downtime.specs.inner.Walk.{AllFlexLinked}
use Rattle.gate_downtime.specs.declared.chains.Chains.{Chains}
use Rattle.gate_downtime.proofs.RowSteps.{length-turned}
use Rattle.gate_downtime.proofs.BookSteps.{transition-stands, turned-entries}
use Rattle.gate_downtime.proofs.WalkedSteps.{turned-after, turned-waiting, walked-book}
use Rattle.gate_downtime.proofs.book.DowntimeBook.transition.Goals as goal

pub prune-requires-clause-linked : goal.prune-requires-clause-linked
prune-requires-clause-linked c = c.turn_waiting.ensures.ready.spreading.linked.len ∙ sym (ap length c.deref.ensures.value)

pub prune-requires-clause-waiting : goal.prune-requires-clause-waiting
prune-requires-clause-waiting c =
    let w : Chains = c.turn_waiting.new.self in
    let Q : List Row → Type 0 = λ rows. AllFlexLinked w.moment.0 rows w.links.items c.self.inside.heads.items in
    subst Q (sym c.deref.ensures.value) (turned-waiting c.self.inside w c.args.object.place c.self.invariant c.turn_waiting.ensures.kept c.turn_waiting.ensures.entries)

pub drop_ended-requires-clause-ascending : goal.drop_ended-requires-clause-ascending
drop_ended-requires-clause-ascending c = (turned-after c.self.inside c.turn_waiting.new.self c.args.object.place c.self.invariant c.turn_waiting.ensures.kept c.turn_waiting.ensures.ready c.turn_waiting.ensures.entries).ascending

pub drop_ended-requires-clause-noted : goal.drop_ended-requires-clause-noted
drop_ended-requires-clause-noted c =
    let w : Chains = c.turn_waiting.new.self in
    let P : List Row → Type 0 = λ rows. AreNoted (is_live_row w.first rows w.moment.0) w.tally.live in
    subst P (sym c.deref-2.ensures.value) (turned-after c.self.inside w c.args.object.place c.self.invariant c.turn_waiting.ensures.kept c.turn_waiting.ensures.ready c.turn_waiting.ensures.entries).noted

pub invariant_of-self : goal.invariant_of-self
invariant_of-self c =
    let w : Chains = c.turn_waiting.new.self in
    let P : List Row → Type 0 = λ rows. DropsEnded (is_live_row w.first rows w.moment.0) w.tally.live c.drop_ended.new.live in
    let Q : List Row → Type 0 = λ rows. AllFlexLinked w.moment.0 rows c.prune.new.links.items c.prune.new.heads.items in
    walked-book c.self.inside w c.prune.new.links c.drop_ended.new.live c.prune.new.heads c.self.invariant c.turn_waiting.ensures.kept c.turn_waiting.ensures.ready (length-turned _ _ _ _ c.turn_waiting.ensures.entries)
    (turned-after c.self.inside w c.args.object.place c.self.invariant c.turn_waiting.ensures.kept c.turn_waiting.ensures.ready c.turn_waiting.ensures.entries) (subst P c.deref-2.ensures.value c.drop_ended.ensures)
    c.prune.ensures.kin c.prune.ensures.size.len c.prune.ensures.size.capacity (subst Q c.deref.ensures.value c.prune.ensures.waiting) c.prune.ensures.heads_len

pub returns-clause-stands : goal.returns-clause-stands
returns-clause-stands c =
    rw (← c.self.view_is)
    (transition-stands _ _ c.args.object.place (turned-entries _ _ _ _ c.turn_waiting.ensures.entries) c.turn_waiting.ensures.kept.moment c.turn_waiting.ensures.kept.first)

pub returns-clause-value : goal.returns-clause-value
returns-clause-value c =
    rw (← c.self.view_is, turned-entries _ _ _ _ c.turn_waiting.ensures.entries, c.turn_waiting.ensures.kept.size.gone_same.same, c.turn_waiting.ensures.kept.moment, c.turn_waiting.ensures.kept.first, c.prune.ensures.heads_len) refl
