-- How a command ended, by what was done at the gateway: `IsEnd`. Own rules.
use Rattle.std.specs.Prelude.{◌≡◌, ◌⊎◌, Bool, true, false, List, [], ◌∷◌, map, Option, None, Ok, Err}
use Rattle.gate_model.specs.declared.submission.Body.{Body}
use Rattle.gate_model.specs.declared.act.Deed.TheVariants as deeds
use Rattle.gate_model.specs.declared.act.Act.{Act}
use Rattle.gate_model.specs.declared.act.Act.TheVariants as acts
use Rattle.gate_model.specs.Act.{act_of}
use Rattle.gate_grammar.specs.declared.commands.Command.{Command}
use Rattle.status_reading.specs.Rows.{PageView}
use Rattle.page_changes.specs.declared.effects.Effect.{Effect}
use Rattle.operator_lines.specs.declared.asking.AskFault.{AskFault}
use Rattle.operator_lines.specs.declared.replies.Reply.{Reply}
use Rattle.operator_lines.specs.declared.replies.Reply.TheVariants.{Queued, Closing}
use Rattle.operator_effects.specs.declared.ending.Ending.{Ending}
use Rattle.operator_effects.specs.declared.ending.Ending.TheVariants.{NoAnswer}
use Rattle.operator_effects.specs.Endings.{ending_of}
use Rattle.operator_ports.specs.declared.next.Next.{Next}
use Rattle.operator_ports.specs.Steps.{Step, Sent, Read, IsUnsent}
use Rattle.operator_ports.specs.Watching.{IsWatched}

-- a page can show that the act was done: all but whether passive checks are enabled
abbrev pub is_shown : Act → Bool
is_shown (acts.On host service (deeds.Passive on)) = false
is_shown act = true

abbrev pub is_shutdown : Act → Bool
is_shutdown acts.Shutdown = true
is_shutdown act = false

-- pages are read for the act where it was answered so: it was queued, or the gateway is closing by it
abbrev pub is_watched : Act → Reply → Bool
is_watched act (Queued number) = is_shown act
is_watched act Closing = is_shutdown act
is_watched act reply = false

-- what was read after the answer, and seen there; no page is read where none can show it
abbrev pub IsSeen : Bool → Body → PageView → List Next → Option Effect → Type 0
IsSeen true body before reads seen = IsWatched body before reads seen
IsSeen false body before reads seen = (reads ≡ []) × (seen ≡ None)

-- the command was sent once and answered so, then these pages were read, and it ended by that answer and by what they
-- show
pub record IsAnswered (command : Command) (before : PageView) (steps : List Step) (ending : Ending) : Type 0 where
  pub reply : Reply
  pub reads : List Next
  pub seen : Option Effect
  pub done : steps ≡ Sent command (Ok reply) ∷ map Read reads
  pub is_seen : IsSeen (is_watched (act_of command.body) reply) command.body before reads seen
  pub ends : ending ≡ ending_of command.body reply seen

-- the command was sent once at most, and has no answer, for this fault; no page was read for it
pub record IsUnanswered (command : Command) (steps : List Step) (ending : Ending) : Type 0 where
  pub fault : AskFault
  pub done : (steps ≡ Sent command (Err fault) ∷ []) ⊎ (IsUnsent (Err fault) × (steps ≡ []))
  pub ends : ending ≡ NoAnswer fault

-- this was done for the command, where this page was read before it, and it ended so
abbrev pub IsEnd : Command → PageView → List Step → Ending → Type 0
IsEnd command before steps ending = IsAnswered command before steps ending ⊎ IsUnanswered command steps ending
