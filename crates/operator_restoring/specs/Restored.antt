-- What `restore` prints: `IsRestoreEnd`. Own rules.
use Rattle.std.specs.Prelude.{◌≡◌, ◌≤◌, ◌⊎◌, ℕ, ◌+◌, ◌==◌, Bool, false, List, ◌++◌, length, map, codes, if◌then◌else◌}
use Rattle.gate_model.specs.declared.object.ObjectLine.{ObjectLine}
use Rattle.gate_model.specs.declared.record.Moment.{Moment}
use Rattle.gate_grammar.specs.declared.commands.Command.{Command}
use Rattle.gate_streams.specs.Sink.{SinkState, Delivers}
use Rattle.gate_kept.specs.Written.{IsWritten}
use Rattle.operator_commands.specs.declared.request.Task.{Task}
use Rattle.operator_commands.specs.declared.request.Task.TheVariants.{Restore}
use Rattle.operator_ports.specs.declared.next.Next.{Next}
use Rattle.operator_ports.specs.declared.next.Next.TheVariants.{Page, Gone, Over}
use Rattle.operator_ports.specs.Commands.{entered_at}
use Rattle.operator_restore.specs.declared.prospect.Prospect.{Prospect}
use Rattle.operator_restore.specs.Naming.{command_line}
use Rattle.operator_restore.specs.Prospect.{IsLogProspect, IsPageProspect}

-- what is read next is a text that the gateway shows, where it is a page
abbrev pub IsShown : (List ℕ → Type 0) → Next → Type 0
IsShown shows (Page text) = shows text.items
IsShown shows Gone = Unit {0}
IsShown shows Over = Unit {0}

-- ---- what is planned

-- this is what is restored of some log, as planned at this moment
pub record IsOfLog (now : Moment) (prospect : Prospect) : Type 0 where
  pub fresh : List ObjectLine
  pub configured : List ObjectLine
  pub page : List ℕ
  pub log : List ℕ
  pub planned : IsLogProspect fresh configured page log now prospect

-- of some page, where an old one is asked for or not
pub record IsOfPage (old : Bool) (now : Moment) (prospect : Prospect) : Type 0 where
  pub fresh : List ObjectLine
  pub text : List ℕ
  pub planned : IsPageProspect fresh text old now prospect

-- this is what is restored of some log or some page
unfoldable pub IsPlannedAt : Bool → Moment → Prospect → Type 0
IsPlannedAt old now prospect = IsOfLog now prospect ⊎ IsOfPage old now prospect

-- ---- what is printed

-- all that is restored: results first, and then the other commands, entered at this moment
abbrev pub commands_of : Moment → Prospect → List Command
commands_of entered prospect = map (entered_at entered) (prospect.results.items ++ prospect.others.items)

-- the line that names a command that can't be written
abbrev pub left_line : Command → List ℕ
left_line one = command_line (codes "neither a packet nor a line holds it: ") one.body

-- the text was printed of which a gateway takes each of these commands that can be written; the status is 0 where nothing is
-- named, neither of what was kept nor of these
pub record IsPrinted (prospect : Prospect) (entered : Moment) (before after : SinkState) (status : ℕ) : Type 0 where
  pub text : List ℕ
  pub left : List Command
  pub written : IsWritten (commands_of entered prospect) text left
  pub printed : Delivers before after text
  pub status_is : status ≡ (if prospect.named + length left == 0 then 0 else 1)

-- the same of what was planned at some moment
pub record IsRestored (old : Bool) (before after : SinkState) (status : ℕ) : Type 0 where
  pub entered : Moment
  pub prospect : Prospect
  pub planned : IsPlannedAt old entered prospect
  pub printed : IsPrinted prospect entered before after status

-- nothing was printed
pub record IsNothingPrinted (before after : SinkState) (status : ℕ) : Type 0 where
  pub bad : 2 ≤ status
  pub same : after ≡ before

-- what is restored was printed, or nothing
abbrev pub IsRestoreEnd : Bool → SinkState → SinkState → ℕ → Type 0
IsRestoreEnd old before after status =
    IsRestored old before after status ⊎ IsNothingPrinted before after status

-- whether the words ask for a page that is old
abbrev pub is_old_asked : Task → Bool
is_old_asked (Restore page log old) = old
is_old_asked other = false
