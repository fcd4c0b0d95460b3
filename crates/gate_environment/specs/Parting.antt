-- What became of the pieces that were taken back, the first one first, where that is known. None claims nothing. Own rules.
use Rattle.std.specs.Prelude.{List, [], ◌∷◌, ◌++◌, Option, option_map}
use Rattle.gate_environment.specs.declared.connections.PieceEnd.{PieceEnd}

-- these ends come after those of the pieces that were taken back
abbrev pub parting_all : List PieceEnd → Option (List PieceEnd) → Option (List PieceEnd)
parting_all ends parted = option_map (λ before. before ++ ends) parted

-- this end comes after them
abbrev pub parting : PieceEnd → Option (List PieceEnd) → Option (List PieceEnd)
parting end parted = parting_all (end ∷ []) parted
