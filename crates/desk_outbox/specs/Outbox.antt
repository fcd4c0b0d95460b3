-- The orders for a gateway (`OutboxView`), and what came of one (`settled_of`). Own rules.
use Rattle.std.specs.Prelude.{ℕ, ◌+◌, Bool, true, false, not, nat_lt, List, [], ◌++◌, Option, None, Result, Ok, Err, codes}
use Rattle.gate_model.specs.declared.submission.Body.{Body}
use Rattle.operator_lines.specs.declared.replies.Reply.{Reply}
use Rattle.operator_lines.specs.declared.replies.Reply.TheVariants.{Queued}
use Rattle.operator_lines.specs.declared.asking.AskFault.{AskFault}
use Rattle.operator_lines.specs.declared.asking.AskFault.TheVariants.{Unsent, WriteFault}
use Rattle.desk_sending.specs.Answers.{answer_text}
use Rattle.desk_outbox.specs.declared.labels.Label.{Label}
use Rattle.desk_outbox.specs.declared.outbox.Settled.{Settled}
use Rattle.desk_outbox.specs.declared.outbox.TakeFault.{TakeFault}
use Rattle.desk_outbox.specs.declared.outbox.TakeFault.TheVariants.{Full, OutOfMemory}
use Rattle.desk_outbox.specs.Labels.{LabelledView}

-- the orders that wait, the oldest first; the label of the one that is under way; and what came of the last ones, the oldest
-- first
pub record OutboxView : Type 0 where
  pub waiting : List LabelledView
  pub under_way : Option Label
  pub settled : List Settled

abbrev pub empty : OutboxView
empty = record { waiting = []; under_way = None; settled = [] }

-- the words for an order that is not taken in
abbrev pub take_words : TakeFault → List ℕ
take_words Full = codes "1024 commands wait for this gateway"
take_words OutOfMemory = codes "out of memory"

-- ---- what came of an order

abbrev pub is_queued : Result Reply AskFault → Bool
is_queued (Ok (Queued number)) = true
is_queued answer = false

-- what comes before an answer: the gateway took the line in and refused it, or not all of it was written
abbrev pub prefix_of : Result Reply AskFault → List ℕ
prefix_of (Ok (Queued number)) = []
prefix_of (Ok reply) = codes "not queued: "
prefix_of (Err (Unsent cause)) = codes "not sent: "
prefix_of (Err WriteFault) = codes "not sent: "
prefix_of answer = []

-- the words for it
abbrev pub settled_text : Body → Result Reply AskFault → List ℕ
settled_text body answer = prefix_of answer ++ answer_text body answer

abbrev pub settled_of : LabelledView → Result Reply AskFault → ℕ → Settled
settled_of order answer now = record {
  label = order.label;
  moment = now;
  is_queued = is_queued answer;
  text = settled_text order.command.body answer;
}

-- ---- what is late

-- an order is late 30 seconds after its form
abbrev pub is_late : ℕ → LabelledView → Bool
is_late now order = not (nat_lt now (order.label.at + 30))

-- what came of it then
abbrev pub lapsed_of : LabelledView → ℕ → Settled
lapsed_of order now = record {
  label = order.label;
  moment = now;
  is_queued = false;
  text = codes "not sent: it waited for 30 seconds";
}
