-- What `watch` prints of the pages that it reads: `IsWatched`, and why it ends with a fault: `IsWatchFault`. Own rules.
use Rattle.std.specs.Prelude.{◌≡◌, ◌⊎◌, ℕ, Bool, true, false, List, [], ◌∷◌, ◌++◌, length, map, codes, Option, Some, None}
use Rattle.std.specs.List.{flat_map}
use Rattle.gate_streams.specs.Sink.{SinkState, Delivers}
use Rattle.status_export.specs.Document.{compact_text}
use Rattle.status_reading.specs.declared.page.StatusPage.{StatusPage}
use Rattle.page_changes.specs.declared.comparing.Change.{Change}
use Rattle.page_changes.specs.Changes.{changed}
use Rattle.change_lines.specs.Lines.{line}
use Rattle.operator_json.specs.Changes.{change_json}
use Rattle.operator_setup.specs.declared.fault.ControlFault.{ControlFault}
use Rattle.operator_setup.specs.declared.fault.ControlFault.TheVariants.{BadInterval, NoPage}
use Rattle.operator_setup.specs.Pages.{IsPageIn}
use Rattle.operator_setup.specs.Places.{seconds_of}
use Rattle.operator_ports.specs.declared.next.Next.{Next}
use Rattle.operator_ports.specs.Steps.{Step, Read, IsTextOf}
use Rattle.operator_showing.specs.Shown.{IsShowFault}

-- the seconds of `--interval`, or else 1
abbrev pub interval_of : Option (List ℕ) → Option ℕ
interval_of None = Some 1
interval_of (Some word) = seconds_of word

-- the line of a change, as JSON or not, with the moment of the page after it
abbrev pub change_line : Bool → ℕ → Change → List ℕ
change_line true moment change = compact_text (change_json moment change) ++ codes "\n"
change_line false moment change = line moment change

-- the lines of what is other on the second of two pages
abbrev pub change_lines : Bool → StatusPage → StatusPage → List ℕ
change_lines json before after = flat_map (change_line json after.moment) (changed before after)

-- the text was printed, or it has no bytes and nothing was
abbrev pub IsPrinted : List ℕ → SinkState → SinkState → Type 0
IsPrinted text before after = ((length text ≡ 0) × (after ≡ before)) ⊎ Delivers before after text

-- what is other on the page of the second text was printed
pub record IsChangePrinted (json : Bool) (one other : List ℕ) (before after : SinkState) : Type 0 where
  pub page : StatusPage
  pub is_page : IsPageIn one page
  pub next : StatusPage
  pub is_next : IsPageIn other next
  pub printed : IsPrinted (change_lines json page next) before after

-- what is other on each of these pages was printed, where the page of the first text was before them
abbrev pub AreFollowed : Bool → List ℕ → List Next → SinkState → SinkState → Type 0
AreFollowed json one [] before after = after ≡ before
AreFollowed json one (next ∷ nexts) before after =
    (other : List ℕ) × IsTextOf next other × (between : SinkState) × IsChangePrinted json one other before between
    × AreFollowed json other nexts between after

-- so many pages were read after this one, and what is other on each was printed
pub record IsFollowedFor (count : ℕ) (json : Bool) (one : List ℕ) (steps : List Step) (before after : SinkState) : Type 0 where
  pub reads : List Next
  pub done : steps ≡ map Read reads
  pub each : length reads ≡ count
  pub followed : AreFollowed json one reads before after

-- a page was read, and so many after it
pub record IsWatchedFor (count : ℕ) (json : Bool) (steps : List Step) (before after : SinkState) : Type 0 where
  pub first : Next
  pub text : List ℕ
  pub is_text : IsTextOf first text
  pub rest : List Step
  pub done : steps ≡ Read first ∷ rest
  pub followed : IsFollowedFor count json text rest before after

-- no page came; or a page was read, and some after it
abbrev pub IsWatched : Bool → List Step → SinkState → SinkState → Type 0
IsWatched json steps before after =
    ((steps ≡ []) × (after ≡ before)) ⊎ ((count : ℕ) × IsWatchedFor count json steps before after)

-- why no further page is followed: none comes or none is in the text, or the output can't be written
abbrev pub IsFollowFault : ControlFault → Type 0
IsFollowFault (NoPage fault) = Unit {0}
IsFollowFault fault = IsShowFault fault

-- the same, or why none is: `--interval` is none
abbrev pub IsWatchFault : Option (List ℕ) → ControlFault → Type 0
IsWatchFault interval BadInterval = interval_of interval ≡ None
IsWatchFault interval fault = IsFollowFault fault
