-- Only proofs and private functions use this: how the system and the reading of a configuration fail.
use Rattle.std.specs.Prelude.{◌≡◌, ◌≢◌, ◌⊎◌, ◌<◌, ◌≤◌, ℕ, List, length}
use Rattle.std.specs.IoError.{error_kind}
use Rattle.std.specs.declared.io.Error.{Error}
use Rattle.std.specs.declared.io.ErrorKind.TheVariants as kind
use Rattle.toml.specs.Data.{Members}
use Rattle.gate_config.specs.declared.fault.ConfigFault.{ConfigFault}
use Rattle.gate_config.specs.declared.fault.ConfigFault.TheVariants as config_fault
use Rattle.gate_config.specs.Check.{IsFirstFault}
use Rattle.gate_config.specs.Config.{IsDocument}
use Rattle.gate_config.specs.Document.{document_checks}
use Rattle.gate_faults.specs.declared.fault.RunFault.TheVariants as run
use Rattle.gate_start.specs.declared.fault.ServeFault.{ServeFault}
use Rattle.gate_start.specs.declared.fault.ServeFault.TheVariants.{Config, Run}
use Rattle.gate_start.specs.BeforeServing.{IsNoDocument, IsFaulty}

-- an error of the system is this fault: out of memory, or else the other one
abbrev pub IsFaultOf : Error → ServeFault → ServeFault → Type 0
IsFaultOf error other found =
    ((error_kind error ≡ kind.OutOfMemory) × (found ≡ Run run.OutOfMemory))
    ⊎ ((error_kind error ≢ kind.OutOfMemory) × (found ≡ other))

-- what is known of a text that could not be read as a configuration: its first fault, or memory ran out
pub record IsReadFault (text : List ℕ) (found : ConfigFault) : Type 0 where
  pub too_large : 1048576 < length text → found ≡ config_fault.TooLarge
  pub not_toml : length text ≤ 1048576 → IsNoDocument text
      → (found ≡ config_fault.NotToml) ⊎ (found ≡ config_fault.OutOfMemory)
  pub first : (document : Members) → IsDocument text document → IsFirstFault (document_checks document) found

-- a text configures nothing
abbrev pub IsTextEnd : ServeFault → Type 0
IsTextEnd (Config reported) = IsFaulty reported
IsTextEnd (Run run.OutOfMemory) = Unit {0}
IsTextEnd _ = ⊥
