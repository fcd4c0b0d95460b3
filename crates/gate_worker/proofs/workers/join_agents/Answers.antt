use Rattle.std.proofs.Common.{◌≡◌, ◌+◌, [], ◌∷◌, ◌++◌, length, ap, ◌∙◌, arith, append_assoc, length-append}
use Rattle.gate_worker.proofs.Ended.{all_joined}
use Rattle.gate_worker.proofs.workers.join_agents.Goals as goal

pub loop-handle-preserved : goal.loop-handle-preserved
loop-handle-preserved g c =
    let i = c.loop-handle.invariant in
    let rest = c.pop.new.self.items in
    let before = c.loop-handle.collected in
    let a : length c.loop-handle.started.items ≡ length (rest ++ c.in-Some.handle ∷ []) = ap length c.in-Some.ensures.items in
    let b : length (rest ++ c.in-Some.handle ∷ []) ≡ length rest + 1 = length-append rest (c.in-Some.handle ∷ []) in
    let d : length c.add.new.self.ended.items ≡ length (before.ended.items ++ c.join.result.ended ∷ []) = ap length c.add.ensures.ended in
    let e : length (before.ended.items ++ c.join.result.ended ∷ []) ≡ length before.ended.items + 1 = length-append before.ended.items (c.join.result.ended ∷ []) in (
      omega (arith, i.0, c.add.ensures.room.0),
      omega (arith, i.1, c.add.ensures.room.1),
      c.in-Some.handle ∷ i.2,
      i.3 ∙ ap (λ l. l ++ i.2) c.in-Some.ensures.items ∙ append_assoc rest (c.in-Some.handle ∷ []) i.2,
      (
        before,
        c.join.result,
        i.4,
        c.join.ensures,
        record { ended = c.add.ensures.ended; reports = c.add.ensures.reports; ended_room = c.add.ensures.room.0; reports_room = c.add.ensures.room.1 },
      ),
    )

pub returns : goal.returns
returns g c =
    let i = c.loop-handle.invariant in
    record { joined = all_joined _ _ c.loop-handle.started.items i.2 _ _ (omega (arith, c.in_default.ensures.cases, c.loop-handle.started.ok.0)) i.3 i.4 }
