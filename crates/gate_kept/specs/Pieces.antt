-- The pieces in which packets or lines are served. Own rules.
use Rattle.std.specs.Prelude.{ℕ, ◌≤◌, ◌*◌, ◌==◌, List, length, count_by}
use Rattle.gate_kept.specs.declared.pieces.Part.{Part}
use Rattle.gate_kept.specs.declared.pieces.Part.TheVariants.{Packets, Lines}

-- the bytes have at most so many packets, or lines that end
abbrev pub IsShort : Part → ℕ → List ℕ → Type 0
IsShort Packets most bytes = length bytes ≤ most * 4304
IsShort Lines most bytes = count_by (λ byte. byte == 10) bytes ≤ most
