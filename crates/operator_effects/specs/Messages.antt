-- The line that reports how a command ended: `message`. Names are escaped as a status page shows them. Own rules.
use Rattle.std.specs.Prelude.{ℕ, true, false, List, [], ◌++◌, codes, Option, Some, None}
use Rattle.std.specs.Fmt.{decimal}
use Rattle.gate_model.specs.declared.state.State.{State}
use Rattle.gate_model.specs.declared.submission.Body.{Body}
use Rattle.gate_model.specs.declared.act.Deed.{Deed}
use Rattle.gate_model.specs.declared.act.Deed.TheVariants as deeds
use Rattle.gate_model.specs.declared.act.Act.{Act}
use Rattle.gate_model.specs.declared.act.Act.TheVariants as acts
use Rattle.gate_model.specs.Escaping.{escaped}
use Rattle.gate_model.specs.Act.{act_of}
use Rattle.gate_lines.specs.Lines.{state_name}
use Rattle.page_changes.specs.declared.effects.Made.{Made}
use Rattle.page_changes.specs.declared.effects.Made.TheVariants.{Comment, Downtime}
use Rattle.page_changes.specs.declared.effects.Effect.{Effect}
use Rattle.page_changes.specs.Foreseen.{refusal_text}
use Rattle.operator_lines.specs.declared.replies.Reply.{Reply}
use Rattle.operator_lines.specs.declared.replies.Reply.TheVariants as replies
use Rattle.operator_lines.specs.declared.asking.AskFault.{AskFault}
use Rattle.operator_lines.specs.declared.asking.AskFault.TheVariants as ask
use Rattle.operator_lines.specs.declared.sending.SendFault.{SendFault}
use Rattle.operator_lines.specs.declared.sending.SendFault.TheVariants as send
use Rattle.operator_effects.specs.declared.ending.Ending.{Ending}
use Rattle.operator_effects.specs.declared.ending.Ending.TheVariants.{Shown, Unseen, NotShown, Refused, NotQueued, NoAnswer}

-- ---- what a command is of

-- `HOST`, or `HOST SERVICE`
abbrev pub object_text : List ℕ → Option (List ℕ) → List ℕ
object_text host None = escaped host
object_text host (Some service) = escaped host ++ codes " " ++ escaped service

-- the object or the id that a command names
abbrev pub subject : Act → List ℕ
subject (acts.On host service deed) = object_text host service
subject (acts.ScheduleServices host span) = object_text host None
subject (acts.DelComment kind id) = codes "comment " ++ decimal id
subject (acts.DelDowntime kind id) = codes "downtime " ++ decimal id
subject acts.Shutdown = codes "the gateway"

-- ---- what was done

-- the state of the object
abbrev pub state_part : Option State → List ℕ
state_part None = []
state_part (Some state) = codes " (" ++ state_name state ++ codes ")"

-- what was made, with its id
abbrev pub made_part : Option Made → List ℕ
made_part None = []
made_part (Some (Comment id)) = codes ", comment " ++ decimal id
made_part (Some (Downtime id)) = codes ", downtime " ++ decimal id

-- an acknowledgement is sticky
abbrev pub sticky_part : Act → List ℕ
sticky_part (acts.On host service (deeds.Acknowledge true persistent)) = codes ", sticky"
sticky_part _ = []

-- what a deed does
abbrev pub verb_of_deed : Deed → List ℕ
verb_of_deed (deeds.Result code) = codes "result: "
verb_of_deed (deeds.AddComment persistent) = codes "commented: "
verb_of_deed deeds.DelAllComments = codes "comments deleted: "
verb_of_deed (deeds.Acknowledge sticky persistent) = codes "acknowledged: "
verb_of_deed deeds.RemoveAck = codes "acknowledgement removed: "
verb_of_deed (deeds.Schedule span) = codes "downtime scheduled: "
verb_of_deed (deeds.Passive true) = codes "passive checks enabled: "
verb_of_deed (deeds.Passive false) = codes "passive checks disabled: "

-- what a command does
abbrev pub verb : Act → List ℕ
verb (acts.On host service deed) = verb_of_deed deed
verb (acts.ScheduleServices host span) = codes "downtime scheduled for each service: "
verb (acts.DelComment kind id) = codes "deleted: "
verb (acts.DelDowntime kind id) = codes "cancelled: "
verb acts.Shutdown = codes "closing: "

-- how a command did it, and what it made
abbrev pub details : Act → Effect → List ℕ
details act effect = state_part effect.state ++ sticky_part act ++ made_part effect.made

-- it was queued as this number, and that is all that is known
abbrev pub unseen : ℕ → List ℕ
unseen number = codes ", queued as " ++ decimal number ++ codes "; no page shows it"

-- ---- why it was not

-- why a gateway doesn't queue a command
abbrev pub reply_text : Reply → List ℕ
reply_text (replies.Queued number) = codes "queued"
reply_text replies.Full = codes "the queue is full"
reply_text replies.Spent = codes "the operators' quota is used up"
reply_text replies.Closing = codes "the gateway is closing"
reply_text (replies.Bad fault) = codes "the gateway can't read the line"

-- why nothing is sent
abbrev pub unsent_text : SendFault → List ℕ
unsent_text send.Unwritable = codes "no line can hold the command"
unsent_text send.OutOfMemory = codes "out of memory"

-- why there is no answer
abbrev pub fault_text : AskFault → List ℕ
fault_text (ask.Unsent cause) = unsent_text cause
fault_text ask.WriteFault = codes "the command can't be written"
fault_text ask.ReadFault = codes "no answer came in time"
fault_text ask.Ended = codes "the connection was closed before an answer"
fault_text ask.TooLong = codes "the answer is none of a gateway"
fault_text ask.NoAnswer = codes "the answer is none of a gateway"

-- ---- the line

-- the line of an act without its end
abbrev pub message_of : Act → Ending → List ℕ
message_of act (Shown effect) = verb act ++ subject act ++ details act effect
message_of act (Unseen number) = (verb act ++ subject act) ++ unseen number
message_of act NotShown = subject act ++ codes ": " ++ codes "queued, and not shown in time"
message_of act (Refused outcome) = subject act ++ codes ": " ++ refusal_text outcome
message_of act (NotQueued reply) = subject act ++ codes ": " ++ reply_text reply
message_of act (NoAnswer fault) = subject act ++ codes ": " ++ fault_text fault

-- the line of a command
abbrev pub message : Body → Ending → List ℕ
message body ending = message_of (act_of body) ending
