-- The points that a thread has passed, the first one first, where that is known. None claims nothing. Own rules.
use Rattle.std.specs.Prelude.{List, [], ◌∷◌, ◌++◌, Option, option_map}
use Rattle.gate_environment.specs.declared.connections.Point.{Point}

-- this point comes after those that were passed
abbrev pub passing : Point → Option (List Point) → Option (List Point)
passing point passed = option_map (λ points. points ++ point ∷ []) passed
