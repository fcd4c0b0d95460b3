-- What the scope's closure owns may cross threads: it is let go of with nothing shown.
use Rattle.std.proofs.Common.{◌≡◌, ℕ, List, length, ◌∙◌, ap, sym, subst}
use Rattle.std.proofs.lemmas.List.{length-map}
use Rattle.std.proofs.lemmas.Result.{IfErr-weaker, IfOk-weaker}
use denote.Param.Send.{Quiet-if}
use Rattle.gate_model.specs.declared.object.ObjectLine.{ObjectLine}
use Rattle.gate_applier.specs.Applier.{ApplierView}
use Rattle.gate_opening.specs.Faults.{IsGatewayFault}
use Rattle.gate_daemon.specs.inner.Joining.{AreJoined}
use Rattle.gate_daemon.proofs.Started.{unopened_fault, unopened_shown, opened_shown, all_on}
use Rattle.gate_daemon.proofs.gateway.run_gateway.Goals as goal

pub scoped-joined-requires : goal.scoped-joined-requires
scoped-joined-requires g c =
    record {
      at = λ a. (
        c.start_on-gate.ensures.start,
        (
          record { owned = c.type_bounds.send-A.owned; leaving = λ k. search (Quiet-if) },
          record { owned = c.type_bounds.send-O.owned; leaving = λ k. search (Quiet-if) },
          record { owned = c.type_bounds.send-P.owned; leaving = λ k. search (Quiet-if) },
          record { owned = c.type_bounds.send-H.owned; leaving = λ k. search (Quiet-if) },
          record { owned = c.type_bounds.send-A-In.owned; leaving = λ k. search (Quiet-if) },
          record { owned = c.type_bounds.send-A-Out.owned; leaving = λ k. search (Quiet-if) },
          record { owned = c.type_bounds.send-O-In.owned; leaving = λ k. search (Quiet-if) },
          record { owned = c.type_bounds.send-O-Out.owned; leaving = λ k. search (Quiet-if) },
          record { owned = c.type_bounds.send-P-In.owned; leaving = λ k. search (Quiet-if) },
          record { owned = c.type_bounds.send-P-Out.owned; leaving = λ k. search (Quiet-if) },
          record { shared = c.type_bounds.sync-R.shared },
          record { shared = c.type_bounds.sync-K.shared },
        ),
      );
    }

pub finish-requires-clause-joined : goal.finish-requires-clause-joined
finish-requires-clause-joined g c =
    let count : length c.start_on-gate.result.2.workers.endpoints.items ≡ c.args.settings.workers = ap length c.start_on-gate.ensures.agents ∙ sym c.args.endpoints.agents.ok.0 ∙ c.requires.endpoints in
    subst (λ (n : ℕ). AreJoined c.start_on-gate.result.0 n c.in-Ok-joined.joined) count c.in-Ok-joined.ensures.1.ends

pub returns-in-Ok-joined-clause-served : goal.returns-in-Ok-joined-clause-served
returns-in-Ok-joined-clause-served g c =
    let started = c.start_on-gate.result.2 in
    let start = c.start_on-gate.ensures.start in
    let agents = c.args.endpoints.agents.items in
    let long : length agents ≡ c.args.settings.workers = sym c.args.endpoints.agents.ok.0 ∙ c.requires.endpoints in
    let joined = c.in-Ok-joined.joined in
    IfOk-weaker c.finish.result _ _
    (λ finished served.
    served c.args.settings.worker _ (g.O.Connections.streams c.args.endpoints.operator.connections)
    (length-map agents (λ endpoint. g.A.Connections.streams endpoint.connections) ∙ long)
    (all_on started.workers.endpoints.items agents (λ endpoint. g.A.Connections.streams endpoint.connections) started.workers.operator_endpoint.connections
    c.args.endpoints.operator.connections g.O.Connections.streams c.args.settings.worker (g.K.Watch.shows c.args.clock.now) c.start_on-gate.result.0 (length started.workers.clients.items) c.args.settings.workers
    started.workers.operator joined.operator joined.collected.ended.items _ c.start_on-gate.ensures.agents c.start_on-gate.ensures.operator start.operator start.each
    long c.in-Ok-joined.ensures.1.served))
    c.finish.ensures.served

pub returns-in-Ok-joined-clause-table : goal.returns-in-Ok-joined-clause-table
returns-in-Ok-joined-clause-table g c =
    IfOk-weaker c.finish.result _ _
    (λ finished same. same.table ∙ c.in-Ok-joined.ensures.1.same.table
    ∙ ap (λ (a : ApplierView). a.table) (c.start_on-gate.ensures.applier ∙ c.in-Ok.ensures.applier))
    c.finish.ensures.same

pub returns-in-Ok-joined-clause-limit : goal.returns-in-Ok-joined-clause-limit
returns-in-Ok-joined-clause-limit g c =
    IfOk-weaker c.finish.result _ _
    (λ finished same. same.limit ∙ c.in-Ok-joined.ensures.1.same.limit
    ∙ ap (λ (a : ApplierView). a.limit) (c.start_on-gate.ensures.applier ∙ c.in-Ok.ensures.applier))
    c.finish.ensures.same

pub returns-in-Ok-joined-clause-moments : goal.returns-in-Ok-joined-clause-moments
returns-in-Ok-joined-clause-moments g c =
    c.finish.ensures.shown
    (c.in-Ok-joined.ensures.1.shown
    (opened_shown (g.K.Watch.shows c.args.clock.now) _ c.read.result c.args.settings.limit c.start_on-gate.result.2.applier c.read.ensures
    (c.start_on-gate.ensures.applier ∙ c.in-Ok.ensures.applier)))

pub returns-in-Ok-joined-clause-moments_until_fault : goal.returns-in-Ok-joined-clause-moments_until_fault
returns-in-Ok-joined-clause-moments_until_fault g c =
    c.finish.ensures.shown_until_fault
    (c.in-Ok-joined.ensures.1.shown
    (opened_shown (g.K.Watch.shows c.args.clock.now) _ c.read.result c.args.settings.limit c.start_on-gate.result.2.applier c.read.ensures
    (c.start_on-gate.ensures.applier ∙ c.in-Ok.ensures.applier)))

pub returns-in-Ok-joined-clause-fault : goal.returns-in-Ok-joined-clause-fault
returns-in-Ok-joined-clause-fault g c =
    let given = c.start_on-gate.ensures.applier ∙ c.in-Ok.ensures.applier in
    let same = c.in-Ok-joined.ensures.1.same in
    IfErr-weaker c.finish.result _ _
    (λ fault known.
    subst (λ (t : List ObjectLine). IsGatewayFault c.args.settings.workers c.args.settings.capacity c.args.settings.limit t fault) (same.table ∙ ap (λ (a : ApplierView). a.table) given)
    (subst (λ (n : ℕ). IsGatewayFault c.args.settings.workers c.args.settings.capacity n c.in-Ok-joined.joined.applier.table fault) (same.limit ∙ ap (λ (a : ApplierView). a.limit) given)
    (known c.args.settings.capacity)))
    c.finish.ensures.fault

pub returns-in-Err-clause-fault : goal.returns-in-Err-clause-fault
returns-in-Err-clause-fault g c =
    unopened_fault c.args.settings.workers c.args.settings.capacity c.args.settings.limit _ c.in-Err.fault c.in-Err.ensures.fault

pub returns-in-Err-clause-moments_until_fault : goal.returns-in-Err-clause-moments_until_fault
returns-in-Err-clause-moments_until_fault g c =
    unopened_shown (g.K.Watch.shows c.args.clock.now) c.args.settings.workers c.args.settings.capacity c.args.settings.limit c.in-Err.fault c.in-Err.ensures.fault
