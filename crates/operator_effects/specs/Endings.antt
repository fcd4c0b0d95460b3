-- How a command ended: `ending_of` an answer and what was seen, and the exit status. Own rules.
use Rattle.std.specs.Prelude.{ℕ, Option, Some, None}
use Rattle.gate_model.specs.declared.submission.Body.{Body}
use Rattle.gate_model.specs.declared.act.Deed.TheVariants as deeds
use Rattle.gate_model.specs.declared.act.Act.{Act}
use Rattle.gate_model.specs.declared.act.Act.TheVariants as acts
use Rattle.gate_model.specs.Act.{act_of}
use Rattle.operator_lines.specs.declared.replies.Reply.{Reply}
use Rattle.operator_lines.specs.declared.replies.Reply.TheVariants.{Queued, Closing}
use Rattle.operator_lines.specs.declared.asking.AskFault.{AskFault}
use Rattle.operator_lines.specs.declared.asking.AskFault.TheVariants as ask
use Rattle.operator_lines.specs.declared.sending.SendFault.{SendFault}
use Rattle.operator_lines.specs.declared.sending.SendFault.TheVariants as send
use Rattle.page_changes.specs.declared.effects.Effect.{Effect}
use Rattle.operator_effects.specs.declared.ending.Ending.{Ending}
use Rattle.operator_effects.specs.declared.ending.Ending.TheVariants.{Shown, Unseen, NotShown, Refused, NotQueued, NoAnswer}

-- a command of which this effect was seen, or none, was queued
abbrev pub queued : Act → ℕ → Option Effect → Ending
queued act number (Some effect) = Shown effect
queued (acts.On host service (deeds.Passive on)) number None = Unseen number
queued act number None = NotShown

-- a gateway that is closing answers so to a shutdown, and refuses every other command
abbrev pub closing : Act → Option Effect → Ending
closing acts.Shutdown (Some effect) = Shown effect
closing acts.Shutdown None = NotShown
closing act seen = NotQueued Closing

-- how a command ended that was answered so, where a page showed this effect afterwards, or none did
abbrev pub ending_of : Body → Reply → Option Effect → Ending
ending_of body (Queued number) seen = queued (act_of body) number seen
ending_of body Closing seen = closing (act_of body) seen
ending_of body reply seen = NotQueued reply

-- the exit status where nothing was sent
abbrev pub unsent_status : SendFault → ℕ
unsent_status send.Unwritable = 2
unsent_status send.OutOfMemory = 3

-- the exit status where there is no answer
abbrev pub fault_status : AskFault → ℕ
fault_status (ask.Unsent cause) = unsent_status cause
fault_status fault = 3

-- 0: done and shown, as far as a page shows it; 1: refused, or not shown; 2: no line can hold it; 3: no answer
abbrev pub status_of : Ending → ℕ
status_of (Shown effect) = 0
status_of (Unseen number) = 0
status_of NotShown = 1
status_of (Refused outcome) = 1
status_of (NotQueued reply) = 1
status_of (NoAnswer fault) = fault_status fault
