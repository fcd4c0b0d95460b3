use Rattle.std.proofs.Common.{length, Option, sym, ap, ◌∙◌, subst, refl}
use Rattle.std.specs.Prelude.{IsSome}
use Rattle.gate_model.specs.declared.record.Moment.{Moment}
use Rattle.gate_applier.specs.Applier.{ApplierView}
use Rattle.gate_queue.specs.Client.{ClientState}
use Rattle.gate_queue.specs.Gate.{GateId}
use Rattle.gate_queue.specs.Taker.{TakerState}
use Rattle.gate_boards.specs.Applying.{IsApplied, IsSameLog}
use Rattle.gate_worker.proofs.Ended.{at_some, joined_numbers}
use Rattle.gate_daemon.proofs.Shown.{shown_on}
use Rattle.gate_daemon.proofs.threads.run_threads.Goals as goal

pub run_workers-collected-requires-clause-new : goal.run_workers-collected-requires-clause-new
run_workers-collected-requires-clause-new g c κs within = record {
  all = c.requires.clients;
  count = c.requires.each;
  operators = ap (λ (x : ClientState). x.gate) c.requires.operator;
  fresh = ap (λ (x : ClientState). x.queued) c.requires.operator;
}

pub returns-in-Some : goal.returns-in-Some
returns-in-Some g c =
    let end = c.join-taker.result in
    let known = c.learn.ensures.known in
    let kept = subst (λ (gate : GateId). IsApplied gate end.0 end.1) c.in-Ok.ensures.0 c.join-taker.ensures.0 in
    let why = c.run_workers-collected.result.1 in
    let ended = c.run_workers-collected.ensures.ends.ended in
    record {
      ends = record {
        applied = record {
          of_gate = ap (λ (t : TakerState). t.gate) known ∙ kept.of_gate;
          none_in = ap (λ (t : TakerState). t.ended) known ∙ kept.none_in;
          applied = kept.applied ∙ sym (ap (λ (t : TakerState). t.taken) known);
        };
        known_close = subst (λ (k : Option Moment). IsSome k) (sym (ap (λ (t : TakerState). t.known_close) known)) refl;
        all = joined_numbers c.args.start.workers.endpoints.items (λ endpoint. g.A.Connections.streams endpoint.connections) c.args.shared.now.limits (g.K.Watch.shows c.args.shared.now.clock.now) c.args.shared.now.gate.now
            (length c.args.start.workers.clients.items) _ c.args.start.workers.operator c.in-Some.operator c.run_workers-collected.result.0.ended.items _
            (at_some _ why c.in-Some.operator c.in-Some.is ended) c.requires.each c.requires.operator;
        gates = c.run_workers-collected.ensures.ends.gates;
      };
      same = subst (λ (a : ApplierView). IsSameLog a end.1) c.in-Ok.ensures.2 c.join-taker.ensures.1;
      served = at_some _ why c.in-Some.operator c.in-Some.is ended;
      shown = shown_on g.K.Watch.shows c.in-Ok.applies.promise.clock.now c.args.shared.now.clock.now c.in-Ok.applies.promise.before.value c.args.start.applier end.1
          c.in-Ok.ensures.1 c.in-Ok.ensures.2 c.join-taker.ensures.2;
    }
