use Rattle.std.proofs.Common.{◌≡◌, ◌<◌, ℕ, List, [], ◌∷◌, ◌++◌, length, sym, ap, ◌∙◌, subst}
use Rattle.std.proofs.lemmas.Bool.{false≢true}
use Rattle.std.proofs.lemmas.Result.{err_from_is_err_and}
use Rattle.gate_model.specs.declared.submission.Numbered.{Numbered}
use Rattle.gate_model.specs.Record.{later, items_of_records}
use Rattle.gate_core.specs.Merge.{IsMerge}
use Rattle.gate_applier.specs.Applier.{ApplierView}
use Rattle.gate_queue.specs.Taker.{TakerState, taker_state, list_of}
use Rattle.gate_close.specs.DrainedClose.{AppliesMore, LeavesSome}
use Rattle.gate_close.specs.inner.Draining.{AllTakenIn}
use Rattle.gate_close.proofs.DrainingSteps.{merge_of_all, applies_none, applies_next, applies_with_room, items_next, enough_taken, few_taken, room_left}
use Rattle.gate_close.proofs.draining.drain.Goals as goal

pub loop-init : goal.loop-init
loop-init g c = (
  tt,
  tt,
  ap (λ (taken : List Numbered). taker_state c.args.taker.now.gate taken c.args.taker.now.ended c.args.taker.now.known_close) (sym c.requires.applied),
  applies_none c.args.now c.args.applier,
)

pub loop-preserved : goal.loop-preserved
loop-preserved g c =
    let old = c.loop.invariant in
    let a = c.apply.ensures in
    let item = c.in-Some-take.item in
    let ready_is = c.in_ok-ready.ensures.ready in
    let records = a.records ∙ (λ i. (ready_is i).records ++ record { moment = later (ready_is i).moment c.args.now; item = item } ∷ []) in
    let items = ap items_of_records records ∙ items_next c.loop.applier.records (later c.loop.applier.moment c.args.now) item in
    let taken = c.in-Some-take.ensures.some.0 ∙ ap (λ (t : TakerState). taker_state t.gate (t.taken ++ item ∷ []) t.ended t.known_close) old.2 in (
      tt,
      tt,
      taken ∙ ap (λ l. taker_state c.args.taker.now.gate l c.args.taker.now.ended c.args.taker.now.known_close) (sym items),
      applies_next _ _ _ _ item old.3 records
          (a.moment ∙ ap (λ s. later s.moment c.args.now) ready_is) (a.table ∙ ap (λ s. s.table) ready_is) (a.opening ∙ ap (λ s. s.opening) ready_is) (a.limit ∙ ap (λ s. s.limit) ready_is),
    )

pub returns-in-None-take-clause-merge : goal.returns-in-None-take-clause-merge
returns-in-None-take-clause-merge g c =
    let is = c.loop.invariant.2 in
    let all = subst AllTakenIn (sym is) c.requires.all in
    let merged = subst (λ (t : TakerState). IsMerge t.gate.limits.clients (list_of t.ended) t.taken) is (merge_of_all _ all c.in-None-take.ensures.all) in
    let same = ap (λ s. items_of_records s.records) (c.give_back.ensures ∙ c.in_ok-ready.ensures.ready) in
    subst (λ (y : ℕ × List Numbered). IsMerge y.0 (list_of c.args.taker.now.ended) y.1) (λ i. (ap (λ k. k.limits.clients) c.requires.gate i, sym same i)) merged

pub shows_all-requires-clause-all : goal.shows_all-requires-clause-all
shows_all-requires-clause-all g c = subst AllTakenIn (sym c.loop.invariant.2) c.requires.all

pub shows_all-requires-clause-count : goal.shows_all-requires-clause-count
shows_all-requires-clause-count g c =
    enough_taken c.args.taker.now c.loop.taker c.loop.applier.records c.records.result.now c.total_queued-queued.result c.loop.invariant.2
    c.records.ensures.records c.total_queued-queued.ensures c.if-records-queued.true

pub shows_some-requires-clause-all : goal.shows_some-requires-clause-all
shows_some-requires-clause-all g c = subst AllTakenIn (sym c.loop.invariant.2) c.requires.all

pub shows_some-requires-clause-count : goal.shows_some-requires-clause-count
shows_some-requires-clause-count g c =
    few_taken c.args.taker.now c.loop.taker c.loop.applier.records c.records.result.now c.total_queued-queued.result c.loop.invariant.2
    c.records.ensures.records c.total_queued-queued.ensures c.if-records-queued.false

pub take-requires : goal.take-requires
take-requires g c = ap (λ (t : TakerState). t.gate) c.loop.invariant.2 ∙ c.requires.gate

pub returns-then-records-queued-clause-merge : goal.returns-then-records-queued-clause-merge
returns-then-records-queued-clause-merge g c =
    let merged = subst (λ (t : TakerState). IsMerge t.gate.limits.clients (list_of t.ended) t.taken) c.loop.invariant.2 c.shows_all.ensures in
    subst (λ (n : ℕ). IsMerge n (list_of c.args.taker.now.ended) (items_of_records c.loop.applier.records)) (ap (λ k. k.limits.clients) c.requires.gate) merged

pub returns-then-records-queued-clause-applied : goal.returns-then-records-queued-clause-applied
returns-then-records-queued-clause-applied g c = c.loop.invariant.3

pub returns-in-None-take-clause-applied : goal.returns-in-None-take-clause-applied
returns-in-None-take-clause-applied g c =
    subst (AppliesMore c.args.now c.args.applier) (sym (c.give_back.ensures ∙ c.in_ok-ready.ensures.ready)) (applies_with_room _ _ _ _ c.loop.invariant.3)

pub returns-in_err-ready-clause-taker : goal.returns-in_err-ready-clause-taker
returns-in_err-ready-clause-taker g c =
    let p = err_from_is_err_and c.from_residual.result c.from_residual.ensures.1 in
    let t = c.args.taker.now in
    rw (p.1, p.2) (c.loop.invariant.2 ∙ ap (λ (a : ApplierView). taker_state t.gate (items_of_records a.records) t.ended t.known_close) (sym c.in_err-ready.ensures.kept))

pub returns-in_err-ready-clause-more : goal.returns-in_err-ready-clause-more
returns-in_err-ready-clause-more g c =
    let p = err_from_is_err_and c.from_residual.result c.from_residual.ensures.1 in
    rw (p.1, p.2) (subst (AppliesMore c.args.now c.args.applier) (sym c.in_err-ready.ensures.kept) c.loop.invariant.3)

pub returns-in_err-ready-clause-left : goal.returns-in_err-ready-clause-left
returns-in_err-ready-clause-left g c =
    let p = err_from_is_err_and c.from_residual.result c.from_residual.ensures.1 in
    let ended = c.args.taker.now.ended in
    let left = subst (λ (t : TakerState). LeavesSome t.gate.limits.clients (list_of t.ended) t.taken) c.loop.invariant.2 c.shows_some.ensures in
    let here = subst (λ (n : ℕ). LeavesSome n (list_of ended) (items_of_records c.loop.applier.records)) (ap (λ k. k.limits.clients) c.requires.gate) left in
    rw (p.1, p.2) (subst (λ (a : ApplierView). LeavesSome c.args.gate.now.limits.clients (list_of ended) (items_of_records a.records)) (sym c.in_err-ready.ensures.kept) here)

pub returns-in_err-ready-clause-log_full : goal.returns-in_err-ready-clause-log_full
returns-in_err-ready-clause-log_full g c =
    let p = err_from_is_err_and c.from_residual.result c.from_residual.ensures.1 in
    rw (p.1, p.2) (λ full. subst (λ (a : ApplierView). length a.records ≡ a.limit) (sym c.in_err-ready.ensures.kept) (c.in_err-ready.ensures.only_log_full full))

pub returns-in_err-ready-clause-has_room : goal.returns-in_err-ready-clause-has_room
returns-in_err-ready-clause-has_room g c =
    let p = err_from_is_err_and c.from_residual.result c.from_residual.ensures.1 in
    rw (p.1, p.2) (λ missing. subst (λ (a : ApplierView). length a.records < a.limit) (sym c.in_err-ready.ensures.kept)
    (room_left c.loop.applier c.in_err-ready.field-0.0.cause c.in_err-ready.ensures.log_full c.records.ensures.few missing))

pub unreachable-requires : goal.unreachable-requires
unreachable-requires g c = false≢true c.in-None.ensures.steps
