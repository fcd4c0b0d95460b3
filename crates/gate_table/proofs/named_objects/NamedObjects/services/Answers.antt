use Rattle.std.proofs.Common.{ℕ, List, sym, ap, ◌∙◌}
use Rattle.std.specs.Map.{values_of}
use Rattle.gate_table.specs.inner.NamedObjects.{row_at}
use Rattle.gate_table.proofs.IndexSteps.{row_there}
use Rattle.gate_table.proofs.named_objects.NamedObjects.services.Goals as goal

pub returns : goal.returns
returns c =
    c.deref.ensures.value ∙ sym (row_there c.self.inside.services.entries c.args.host c.index.result.now c.index.ensures)
    ∙ ap (λ (objects : List (List ℕ × List ℕ)). row_at (values_of objects) c.args.host) c.self.view_is
