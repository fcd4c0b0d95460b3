use Rattle.std.proofs.Common.{◌≤◌, ◌<◌, ◌+◌, length, ℕ, List, subst}
use Rattle.std.proofs.lemmas.List.Elements.{All-tail}
use Rattle.gate_downtime.specs.inner.Live.{AreInside}
use Rattle.gate_downtime.proofs.entries.LiveEntriesIterator.next.Goals as goal

pub invariant_of-self : goal.invariant_of-self
invariant_of-self c =
    let P : List ℕ → Type 0 = λ ids. AreInside c.self.inside.first c.self.inside.rows.now ids in
    All-tail (λ (id : ℕ). (c.self.inside.first ≤ id) × (id < c.self.inside.first + length c.self.inside.rows.now)) c.in_ok-id.id.now c.in_ok-id.rest.now (subst P c.in_ok-id.ensures.cases.0 c.self.invariant)
