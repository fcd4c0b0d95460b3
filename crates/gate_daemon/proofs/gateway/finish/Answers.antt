use Rattle.std.proofs.Common.{◌≡◌, ◌+◌, ℕ, refl}
use Rattle.gate_model.specs.Record.{items_of_records}
use Rattle.gate_close.specs.DrainedClose.{close_parts}
use Rattle.gate_queue.specs.Gate.{GateId}
use Rattle.gate_worker.specs.Answered.{reports_of_each, queued_by_each}
use Rattle.gate_daemon.specs.declared.joined.Joined.{Joined}
use Rattle.gate_daemon.specs.inner.Joining.{AreJoined}
use Rattle.gate_daemon.proofs.Drained.{CanDrain, drained_all, drained_held, undrained, applied_until}
use Rattle.gate_daemon.proofs.Shown.{more_shown}
use Rattle.gate_daemon.proofs.Held.{all_held}
use Rattle.gate_daemon.proofs.gateway.finish.Goals as goal

can_drain : (workers : ℕ) (gate : GateId) (joined : Joined) → gate.limits.clients ≡ workers + 1 → AreJoined gate workers joined
    → CanDrain workers gate.limits.clients (queued_by_each (reports_of_each joined.collected.reports.items))
    (close_parts joined.taker joined.collected.ended.items joined.applier)
can_drain workers gate joined count is = record {
  count = count;
  none_in = is.applied.none_in;
  known_close = is.known_close;
  all = is.all;
  reported = joined.collected.reported;
  counted = joined.collected.counted;
}

pub returns-in-Ok-clause-holds : goal.returns-in-Ok-clause-holds
returns-in-Ok-clause-holds g c =
    let joined = c.args.joined in
    let collected = joined.collected in
    let parts = close_parts joined.taker collected.ended.items joined.applier in
    drained_all c.args.workers c.args.gate.limits.clients (queued_by_each (reports_of_each collected.reports.items)) parts (items_of_records c.in-Ok.closed.applier.records)
    (can_drain c.args.workers c.args.gate joined c.requires.clients c.requires.joined) c.in-Ok.ensures.merge

pub returns-in-Ok-clause-served : goal.returns-in-Ok-clause-served
returns-in-Ok-clause-served g c limits agents operators count all =
    let joined = c.args.joined in
    let collected = joined.collected in
    let parts = close_parts joined.taker collected.ended.items joined.applier in
    let can = can_drain c.args.workers c.args.gate joined c.requires.clients c.requires.joined in
    let log = items_of_records c.in-Ok.closed.applier.records in
    let held = drained_held c.args.workers c.args.gate.limits.clients (queued_by_each (reports_of_each collected.reports.items)) parts log can c.in-Ok.ensures.merge in
    all_held limits (g.K.Watch.shows c.args.clock.now) c.args.gate c.args.workers agents operators joined.operator collected.ended.items (reports_of_each collected.reports.items) log count all held.0 held.1

pub returns-in-Err-clause-fault : goal.returns-in-Err-clause-fault
returns-in-Err-clause-fault g c capacity =
    let joined = c.args.joined in
    let collected = joined.collected in
    let fault = c.in-Err.fault in
    undrained c.args.workers joined.applier.limit joined.applier.table c.args.gate c.read.result fault.cause (queued_by_each (reports_of_each collected.reports.items))
    (close_parts joined.taker collected.ended.items joined.applier) (close_parts fault.taker fault.ended.items fault.applier)
    (can_drain c.args.workers c.args.gate joined c.requires.clients c.requires.joined) c.in-Err.ensures.again refl refl c.in-Err.ensures.fault

pub returns-in-Ok-clause-shown : goal.returns-in-Ok-clause-shown
returns-in-Ok-clause-shown g c are =
    more_shown (g.K.Watch.shows c.args.clock.now) c.read.result c.args.joined.applier c.in-Ok.closed.applier c.read.ensures c.in-Ok.ensures.applied are

pub returns-in-Err-clause-shown_until_fault : goal.returns-in-Err-clause-shown_until_fault
returns-in-Err-clause-shown_until_fault g c are =
    let joined = c.args.joined in
    let collected = joined.collected in
    let fault = c.in-Err.fault in
    more_shown (g.K.Watch.shows c.args.clock.now) c.read.result joined.applier fault.applier c.read.ensures
    (applied_until c.args.workers c.args.gate.limits.clients c.read.result fault.cause (queued_by_each (reports_of_each collected.reports.items))
    (close_parts joined.taker collected.ended.items joined.applier) (close_parts fault.taker fault.ended.items fault.applier)
    (can_drain c.args.workers c.args.gate joined c.requires.clients c.requires.joined) c.in-Err.ensures.fault)
    are
