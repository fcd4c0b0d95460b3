-- What is done at a gateway for a request, what is printed of it, and the exit status: `IsCarriedOut`. Own rules.
use Rattle.std.specs.Prelude.{◌≡◌, ◌≢◌, ◌⊎◌, ℕ, ◌==◌, ◌||◌, Bool, true, false, List, [], ◌∷◌, ◌++◌, map, codes, Option, Some, None, if◌then◌else◌}
use Rattle.gate_model.specs.declared.record.Moment.{Moment}
use Rattle.gate_model.specs.declared.record.Outcome.{Outcome}
use Rattle.gate_model.specs.declared.submission.Body.{Body}
use Rattle.gate_grammar.specs.declared.commands.Command.{Command}
use Rattle.gate_streams.specs.Sink.{SinkState, Delivers}
use Rattle.status_export.specs.Document.{compact_text}
use Rattle.status_reading.specs.declared.page.StatusPage.{StatusPage}
use Rattle.status_reading.specs.Rows.{PageView, page_view}
use Rattle.operator_commands.specs.declared.request.Request.{Request}
use Rattle.operator_effects.specs.declared.ending.Ending.{Ending}
use Rattle.operator_effects.specs.declared.ending.Ending.TheVariants.{Refused}
use Rattle.operator_effects.specs.Commands.{commands_of}
use Rattle.operator_effects.specs.Endings.{status_of}
use Rattle.operator_effects.specs.Messages.{message}
use Rattle.operator_effects.specs.Plain.{plain_request}
use Rattle.operator_effects.specs.Refusals.{first_refusal}
use Rattle.operator_json.specs.Endings.{ending_json}
use Rattle.operator_ports.specs.Commands.{entered_at}
use Rattle.operator_ports.specs.declared.next.Next.{Next}
use Rattle.operator_ports.specs.Steps.{Step, Read, IsTextOf}
use Rattle.operator_setup.specs.Pages.{IsPageIn}
use Rattle.operator_sending.specs.Ended.{IsEnd}

-- ---- how one command ended

-- the message names the program where the command didn't end well
abbrev pub front : Ending → List ℕ
front ending = if status_of ending == 0 then [] else codes "nscagatectl: "

-- the line that reports how a command ended, as JSON or not
abbrev pub report_line : Bool → Body → Ending → List ℕ
report_line true body ending = compact_text (ending_json body ending) ++ codes "\n"
report_line false body ending = front ending ++ message body ending ++ codes "\n"

-- what is known of the output and of the errors at one moment
pub record Sinks : Type 0 where
  pub output : SinkState
  pub errors : SinkState

abbrev pub sinks : SinkState → SinkState → Sinks
sinks output errors = record { output = output; errors = errors }

-- the line was printed on the output, or on the errors, and nothing else
abbrev pub IsPrinted : Bool → List ℕ → Sinks → Sinks → Type 0
IsPrinted true line before after = Delivers before.output after.output line × (after.errors ≡ before.errors)
IsPrinted false line before after = Delivers before.errors after.errors line × (after.output ≡ before.output)

-- the command's end was reported: on the output where it ended well or the line is JSON, and otherwise on the errors
abbrev pub IsReport : Bool → Body → Ending → Sinks → Sinks → Type 0
IsReport json body ending before after =
    IsPrinted ((status_of ending == 0) || json) (report_line json body ending) before after

-- ---- all commands

-- these steps were made for the command, and how it ended by them was reported; the status is that of its end
pub record IsReportedEnd (json : Bool) (page : PageView) (command : Command) (steps : List Step) (status : ℕ)
    (before after : Sinks) : Type 0 where
  pub ending : Ending
  pub is_end : IsEnd command page steps ending
  pub reported : IsReport json command.body ending before after
  pub status_is : status ≡ status_of ending

-- steps were made for each command, and its end reported, up to the first that didn't end well, whose status is the exit
-- status: for none after it was a step made
abbrev pub AreReported : Bool → PageView → List Command → List Step → ℕ → Sinks → Sinks → Type 0
AreReported json page [] steps status before after = (steps ≡ []) × (status ≡ 0) × (after ≡ before)
AreReported json page (command ∷ commands) steps status before after =
    (own : List Step) × (rest : List Step) × (steps ≡ own ++ rest) × (one : ℕ) × (between : Sinks)
    × IsReportedEnd json page command own one before between
    × (((one ≡ 0) × AreReported json page commands rest status between after)
    ⊎ ((one ≢ 0) × (status ≡ one) × (rest ≡ []) × (after ≡ between)))

-- the command that the gateway would refuse was reported alone, and nothing was done at the gateway; or where there is
-- none all of them
abbrev pub AreReportedBy : Bool → PageView → List Command → List Step → ℕ → Sinks → Sinks → Option (Command × Outcome) → Type 0
AreReportedBy json page commands steps status before after (Some refusal) =
    IsReport json refusal.0.body (Refused refusal.1) before after × (status ≡ 1) × (steps ≡ [])
AreReportedBy json page commands steps status before after None = AreReported json page commands steps status before after

-- the first command that the gateway would refuse by its page, or all
abbrev pub AreAnswered : Bool → PageView → List Command → List Step → ℕ → Sinks → Sinks → Type 0
AreAnswered json page commands steps status before after =
    AreReportedBy json page commands steps status before after (first_refusal page commands)

-- by `--escaped` a request is meant without its escapes
abbrev pub meant : Bool → Request → Request
meant true given = plain_request given
meant false given = given

-- the commands of the request, on the page that the text is, were carried out and reported
pub record IsCarriedOutOn (json : Bool) (text : List ℕ) (given : Request) (steps : List Step) (status : ℕ)
    (before after : Sinks) : Type 0 where
  pub page : StatusPage
  pub is_page : IsPageIn text page
  pub entered : Moment
  pub user : List ℕ
  pub bodies : List Body
  pub are_commands : map Some bodies ≡ commands_of (page_view page) entered user given
  pub answered : AreAnswered json (page_view page) (map (entered_at entered) bodies) steps status before after

-- the gateway's page was read, and then the commands of the request on this page were carried out and reported
pub record IsCarriedOut (json : Bool) (given : Request) (steps : List Step) (status : ℕ) (before after : Sinks) : Type 0 where
  pub first : Next
  pub text : List ℕ
  pub is_text : IsTextOf first text
  pub rest : List Step
  pub done : steps ≡ Read first ∷ rest
  pub carried_out : IsCarriedOutOn json text given rest status before after
