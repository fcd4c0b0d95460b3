-- For proofs and private functions alone: the faults of reading an answer.
use Rattle.std.specs.Prelude.{⊤}
use Rattle.operator_lines.specs.declared.asking.AskFault.{AskFault}
use Rattle.operator_lines.specs.declared.asking.AskFault.TheVariants.{Unsent, WriteFault}

-- the fault comes once the command was delivered
abbrev pub IsOfReading : AskFault → Type 0
IsOfReading (Unsent cause) = ⊥
IsOfReading WriteFault = ⊥
IsOfReading fault = ⊤
