use Rattle.std.proofs.Common.{◌≡◌, ◌+◌, [], ◌∷◌, ◌++◌, length, sym, ap, ◌∙◌, arith, length-append}
use Rattle.std.proofs.lemmas.Bool.{true≢false}
use Rattle.gate_queue.specs.Client.{ClientState}
use Rattle.gate_worker.proofs.Clients.{last_client}
use Rattle.gate_worker.proofs.Ended.{ended_as, started_none, started_next, no_streams}
use Rattle.gate_worker.proofs.starting.start_agents.Goals as goal

pub returns-then-is_err-clause-started : goal.returns-then-is_err-clause-started
returns-then-is_err-clause-started g c =
    (_, started_none _ _ _ _ _ _ (c.reserve.ensures.items ∙ c.requires.none), λ e. absurd (true≢false (sym e)))

pub start_worker-requires-clause-gate : goal.start_worker-requires-clause-gate
start_worker-requires-clause-gate g c κs within =
    ap (λ (x : ClientState). x.gate) (last_client c.args.shared.now.gate.now c.loop-client.clients.items c.pop.new.self.items c.in-Some.client c.loop-client.invariant.0 c.in-Some.ensures.items).0

pub start_worker-requires-clause-fresh : goal.start_worker-requires-clause-fresh
start_worker-requires-clause-fresh g c κs within =
    ap (λ (x : ClientState). x.queued) (last_client c.args.shared.now.gate.now c.loop-client.clients.items c.pop.new.self.items c.in-Some.client c.loop-client.invariant.0 c.in-Some.ensures.items).0

pub loop-client-preserved : goal.loop-client-preserved
loop-client-preserved g c =
    let i = c.loop-client.invariant in
    let clients = c.pop.new.self.items in
    let endpoints = c.pop-in-Some.new.self.items in
    let last = last_client c.args.shared.now.gate.now c.loop-client.clients.items clients c.in-Some.client i.0 c.in-Some.ensures.items in
    let a : length c.loop-client.clients.items ≡ length (clients ++ c.in-Some.client ∷ []) = ap length c.in-Some.ensures.items in
    let b : length (clients ++ c.in-Some.client ∷ []) ≡ length clients + 1 = length-append clients (c.in-Some.client ∷ []) in
    let d : length c.loop-client.endpoints.items ≡ length (endpoints ++ c.in-Some-pop.endpoint ∷ []) = ap length c.in-Some-pop.ensures.items in
    let e : length (endpoints ++ c.in-Some-pop.endpoint ∷ []) ≡ length endpoints + 1 = length-append endpoints (c.in-Some-pop.endpoint ∷ []) in
    let f : length c.push_reserved.new.self.items ≡ length (c.loop-client.started.items ++ c.in-Ok.handle ∷ []) = ap length c.push_reserved.ensures.items in
    let h : length (c.loop-client.started.items ++ c.in-Ok.handle ∷ []) ≡ length c.loop-client.started.items + 1 = length-append c.loop-client.started.items (c.in-Ok.handle ∷ []) in
    let each = i.1 in
    let all = i.2 in
    let same : length endpoints ≡ length clients = omega arith in
    let few : length c.push_reserved.new.self.items + length clients ≡ length c.args.clients.items = omega arith in (
      last.1,
      same,
      few,
      omega (arith, i.3, c.push_reserved.ensures.capacity),
      started_next _ _ _ _ _ c.loop-client.started.items c.push_reserved.new.self.items c.loop-client.endpoints.items endpoints c.in-Some-pop.endpoint _ c.in-Ok.handle (length clients)
          i.4 c.push_reserved.ensures.items c.in-Some-pop.ensures.items (sym same)
          (λ end ends. ended_as g.K.Watch.shows ends c.in-Ok.ensures.role c.in-Ok.ensures.limits c.in-Ok.ensures.clock (ap g.C.Connections.streams c.in-Ok.ensures.connections) (c.in-Ok.ensures.client ∙ last.0)),
    )

pub returns-in-Err-clause-started : goal.returns-in-Err-clause-started
returns-in-Err-clause-started g c = (_, c.loop-client.invariant.4, λ e. absurd (true≢false (sym e)))

pub returns-clause-started : goal.returns-clause-started
returns-clause-started g c =
    let i = c.loop-client.invariant in
    (_, i.4, λ e. no_streams _ c.loop-client.endpoints.items (omega (arith, i.1, c.in_default.ensures.cases, c.loop-client.clients.ok.0)))
