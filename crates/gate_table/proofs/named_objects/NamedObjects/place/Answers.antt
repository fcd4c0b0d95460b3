use Rattle.std.proofs.Common.{ℕ, List, ap, ◌∙◌}
use Rattle.std.specs.List.{position_from}
use Rattle.std.specs.Map.{keys_of}
use Rattle.std.specs.Str.{bytes_eq}
use Rattle.gate_table.proofs.IndexSteps.{place_is}
use Rattle.gate_table.proofs.named_objects.NamedObjects.place.Goals as goal

pub returns : goal.returns
returns c =
    c.get_index_of.ensures.index ∙ place_is c.args.key.now c.self.inside.services.entries
    ∙ ap (λ (objects : List (List ℕ × List ℕ)). position_from (bytes_eq c.args.key.now) 0 (keys_of objects)) c.self.view_is
