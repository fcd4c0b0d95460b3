-- What `check` prints, and its exit status: `IsChecked` (Nagios Core 4 manual, Plugin API).
use Rattle.std.specs.Prelude.{◌≡◌, ◌≤◌, ◌⊎◌, ℕ, List, ◌++◌, length, max, codes, ⊤}
use Rattle.gate_streams.specs.Sink.{SinkState, Delivers}
use Rattle.operator_checks.specs.declared.findings.Finding.{Finding}
use Rattle.operator_checks.specs.Findings.{line, worst, state_status}
use Rattle.operator_setup.specs.declared.fault.ControlFault.{ControlFault}
use Rattle.operator_setup.specs.declared.fault.ControlFault.TheVariants.{WriteFault, NoClock, OutOfMemory}

-- the line of what is found was printed: at least one finding for each page that was asked for; the status is theirs
pub record IsReport (pages status : ℕ) (before after : SinkState) : Type 0 where
  pub findings : List Finding
  pub each : pages ≤ length findings
  pub printed : Delivers before after (line findings ++ codes "\n")
  pub status_is : status ≡ state_status (worst findings)

-- `NSCAGATE UNKNOWN - TEXT`
abbrev pub unknown_line : List ℕ → List ℕ
unknown_line text = codes "NSCAGATE UNKNOWN - " ++ text ++ codes "\n"

-- that nothing is known was printed, with a cause; the status is 3
pub record IsUnknown (status : ℕ) (before after : SinkState) : Type 0 where
  pub cause : List ℕ
  pub printed : Delivers before after (unknown_line cause)
  pub status_is : status ≡ 3

-- of so many gateways, or where none is named, of the configured one
abbrev pub IsChecked : ℕ → ℕ → SinkState → SinkState → Type 0
IsChecked gateways status before after =
    IsReport (max gateways 1) status before after ⊎ IsUnknown status before after

-- why nothing is known, not even that: the line can't be written, or the clock can't be read, or memory runs out
abbrev pub IsCheckFault : ControlFault → Type 0
IsCheckFault WriteFault = ⊤
IsCheckFault NoClock = ⊤
IsCheckFault OutOfMemory = ⊤
IsCheckFault fault = ⊥
