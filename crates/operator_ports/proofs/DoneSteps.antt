-- Steps that are added one after another.
use Rattle.std.proofs.Common.{◌≡◌, List, [], ◌∷◌, ◌++◌, map, refl, ap, ◌∙◌}
use Rattle.operator_ports.specs.declared.done.Entry.{Entry}
use Rattle.operator_ports.specs.Steps.{Step, step_of}

-- an entry is added: its step is the last
pub one_more : (entries : List Entry) (entry : Entry) → map step_of (entries ++ entry ∷ []) ≡ map step_of entries ++ step_of entry ∷ []
one_more [] entry = refl
one_more (first ∷ entries) entry = ap (λ rest. step_of first ∷ rest) (one_more entries entry)
