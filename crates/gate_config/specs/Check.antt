-- Tests that are made in order, and the first that isn't passed.
use Rattle.std.specs.Prelude.{◌≡◌, ◌≢◌, ◌⊎◌, ℕ, List, [], ◌∷◌, Option, Some, None}
use Rattle.std.specs.declared.net.socket_addr.SocketAddr.{SocketAddr}
use Rattle.std.specs.Net.Grammar.{IsSocketText}
use Rattle.gate_model.specs.declared.object.ObjectLine.{ObjectLine}
use Rattle.gate_table.specs.declared.table.TableFault.{TableFault}
use Rattle.gate_table.specs.declared.table.TableFault.TheVariants as table_fault
use Rattle.gate_table.specs.Faults.{IsFaultless, IsFaultOf}
use Rattle.gate_config.specs.declared.fault.ConfigFault.{ConfigFault}
use Rattle.gate_config.specs.declared.fault.ConfigFault.TheVariants.{Object, OutOfMemory}

-- the fault says why these lines are no object table
pub record IsObjectFault (lines : List ObjectLine) (fault : ConfigFault) : Type 0 where
  pub cause : TableFault
  pub reported : fault ≡ Object cause
  pub not_memory : cause ≢ table_fault.OutOfMemory
  pub faulty : IsFaultOf lines cause

-- one test
pub data Check : Type 0 where
  -- there is no fault, or this one
  fault_if : Option ConfigFault → Check
  -- the text writes an IP address and a port, or else this is the fault
  address_or : List ℕ → ConfigFault → Check
  -- the lines are an object table
  object_table : List ObjectLine → Check

-- the test is passed
abbrev pub Passes : Check → Type 0
Passes (fault_if found) = found ≡ None
Passes (address_or text refusal) = (socket : SocketAddr) × IsSocketText text socket
Passes (object_table lines) = IsFaultless lines

-- the test is not passed, and this is the fault
abbrev pub Fails : Check → ConfigFault → Type 0
Fails (fault_if found) fault = found ≡ Some fault
Fails (address_or text refusal) fault =
    (fault ≡ refusal) × ((socket : SocketAddr) → ¬ (IsSocketText text socket))
Fails (object_table lines) fault = IsObjectFault lines fault

-- all tests are passed
abbrev pub AllPass : List Check → Type 0
AllPass [] = Unit {0}
AllPass (check ∷ checks) = Passes check × AllPass checks

-- the first test that is not passed has this fault
abbrev pub FirstFails : List Check → ConfigFault → Type 0
FirstFails [] fault = ⊥
FirstFails (check ∷ checks) fault = Fails check fault ⊎ (Passes check × FirstFails checks fault)

-- the first test that is not passed has this fault, if it isn't memory, which may run out at any
abbrev pub IsFirstFault : List Check → ConfigFault → Type 0
IsFirstFault checks fault = fault ≢ OutOfMemory → FirstFails checks fault
