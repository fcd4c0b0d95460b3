use Rattle.std.proofs.Common.{◌≡◌, List}
use Rattle.gate_model.specs.declared.submission.Numbered.{Numbered}
use Rattle.gate_worker.proofs.waiting.submit_again.Given as goal

abbrev pub invariant-loop : goal.invariant-loop
invariant-loop g l =
    (l.body ≡ l.initial.body)
    × ((items : List Numbered) → g.S.Submit.stands l.fn.client items → g.S.Submit.stands l.client items)
    × (g.S.Submit.knows l.client ≡ g.S.Submit.knows l.fn.client)
    × (g.S.Submit.named l.client ≡ g.S.Submit.named l.fn.client)
    × g.S.Submit.keeps l.fn.client l.client
