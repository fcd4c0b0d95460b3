use Rattle.std.proofs.Common.{sym, ap, ◌∙◌, ◌≡◌, ◌+◌, ℕ, suc, [], ◌∷◌, ◌++◌, arith, rules, length, length-append, None}
use Rattle.gate_queue.specs.Client.{client_state}
use Rattle.gate_queue.specs.Opening.{new_clients}
use Rattle.gate_worker.proofs.Clients.{last_client, length_clients}
use Rattle.gate_opening.proofs.opening.open_gate.Goals as goal

pub returns-in-Some-clause-opening : goal.returns-in-Some-clause-opening
returns-in-Some-clause-opening c =
    let gate = c.in-Ok.gate in
    let rest = c.pop.new.self.items in
    let workers = c.args.workers in
    let items = c.in-Ok.clients.items in
    let long : length items ≡ workers + 1 = ap length c.in-Ok.ensures.opened.3 ∙ length_clients gate (workers + 1) in
    let e : length items ≡ length (rest ++ c.in-Some.last ∷ []) = ap length c.in-Some.ensures.items in
    let f : length (rest ++ c.in-Some.last ∷ []) ≡ length rest + 1 = length-append rest (c.in-Some.last ∷ []) in
    let each : length rest ≡ workers = omega arith in
    let number : suc (length rest) ≡ workers + 1 = omega arith in
    let cut = last_client gate items rest c.in-Some.last (c.in-Ok.ensures.opened.3 ∙ ap (new_clients gate) (sym long)) c.in-Some.ensures.items in
    record {
      count = search rules;
      taker = search rules;
      none_in = search rules;
      none_taken = search rules;
      closer = search rules;
      clients = cut.1 ∙ ap (new_clients gate) each;
      each = each;
      last = cut.0 ∙ ap (λ (k : ℕ). client_state gate k [] None) number;
    }
