-- Only proofs and private functions use this: how far a script was parsed.
use Rattle.std.specs.Prelude.{◌≡◌, ℕ, ◌≤◌, List, [], ◌∷◌, length, map, take, Option}
use Rattle.std.specs.Borrow.{Bor}
use Rattle.gate_model.specs.declared.object.ObjectLine.{ObjectLine}
use Rattle.gate_replay.specs.declared.script.Step.{Step}
use Rattle.gate_replay.specs.declared.setup.Setup.{Setup}
use Rattle.gate_replay.specs.declared.script.ScriptFault.{ScriptFault}
use Rattle.gate_replay.specs.declared.script.ScriptFault.TheVariants.{Line, OutOfMemory}
use Rattle.gate_replay.specs.ScriptLine.{ParsedScriptLine, parsed_script_line}
use Rattle.gate_replay.specs.Script.{opens_in, objects_in, steps_in, open_line, AreGood}

-- what is parsed from each of these lines
abbrev pub parsed_from : List (Bor (List ℕ)) → List (Option ParsedScriptLine)
parsed_from lines = map parsed_script_line (map (λ line. line.now) lines)

-- the lines before this index are good, and have these objects and nothing else
pub record IsHeadSoFar (parsed : List (Option ParsedScriptLine)) (index : ℕ) (so_far : List ObjectLine) : Type 0 where
  pub good : AreGood parsed index
  pub opens : opens_in (take index parsed) ≡ []
  pub objects : objects_in (take index parsed) ≡ so_far
  pub steps : steps_in (take index parsed) ≡ []

-- the lines before this index are good, open so, and have these steps
pub record IsOpenSoFar (parsed : List (Option ParsedScriptLine)) (index : ℕ) (setup : Setup) (so_far : List Step)
    : Type 0 where
  pub within : index ≤ length parsed
  pub good : AreGood parsed index
  pub opens : opens_in (take index parsed) ≡ open_line setup ∷ []
  pub objects : objects_in (take index parsed) ≡ setup.table
  pub steps : steps_in (take index parsed) ≡ so_far

-- the fault is that of the line of this number, of which this holds, or memory ran out
abbrev pub IsLineFault : ℕ → Type 0 → ScriptFault → Type 0
IsLineFault number P (Line faulty) = (faulty ≡ number) × P
IsLineFault number P OutOfMemory = Unit {0}
