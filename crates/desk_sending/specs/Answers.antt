-- What became of a command that was sent (`answer_text`), in the words of operator_effects. Own rule: the text of one that
-- is queued.
use Rattle.std.specs.Prelude.{ℕ, List, ◌++◌, codes, Result, Ok, Err}
use Rattle.std.specs.Fmt.{decimal}
use Rattle.gate_model.specs.declared.submission.Body.{Body}
use Rattle.operator_lines.specs.declared.replies.Reply.{Reply}
use Rattle.operator_lines.specs.declared.replies.Reply.TheVariants.{Queued}
use Rattle.operator_lines.specs.declared.asking.AskFault.{AskFault}
use Rattle.operator_effects.specs.declared.ending.Ending.TheVariants.{NotQueued, NoAnswer}
use Rattle.operator_effects.specs.Messages.{message}

abbrev pub answer_text : Body → Result Reply AskFault → List ℕ
answer_text body (Ok (Queued number)) = codes "queued " ++ decimal number
answer_text body (Ok reply) = message body (NotQueued reply)
answer_text body (Err fault) = message body (NoAnswer fault)
