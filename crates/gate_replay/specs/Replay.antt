-- What a replay prints, how it ends, and what it reports. It prints an answer to each packet and each
-- line, a status page where one is asked for, and then the log page. The main definitions are
-- `printed_by`, `EndsWith`, `IsReplayRun`. The rules are those that the queue's answers keep.
-- Own rule: a script has at most 1,048,576 bytes.
use Rattle.std.specs.Prelude.{◌≡◌, ℕ, ◌<◌, ◌≤◌, ◌⊎◌, Option, Some, None, IfSome, Bool, true, false, List, ◌++◌, length}
use Rattle.gate_model.specs.Meaning.{outcomes_of}
use Rattle.gate_core.specs.Limits.{Limits}
use Rattle.gate_core.specs.Legal.{Run}
use Rattle.gate_streams.specs.Fault.{status_at_end, IsFaultReported}
use Rattle.gate_streams.specs.Sink.{SinkState, Delivers, FailsOnce}
use Rattle.gate_lines.specs.LogPage.{log_text}
use Rattle.gate_replay.specs.declared.script.Script.{Script}
use Rattle.gate_faults.specs.declared.fault.RunFault.TheVariants as run
use Rattle.gate_replay.specs.declared.fault.ReplayFault.{ReplayFault}
use Rattle.gate_replay.specs.declared.fault.ReplayFault.TheVariants.{TooLong, Line, Run as OfRun}
use Rattle.gate_replay.specs.Script.{parsed_script_lines, IsScript, IsFirstFaultyLine}
use Rattle.gate_replay.specs.ReplayState.{ReplayState, IsPlayed, IsPlayedSoFar}
use Rattle.gate_replay.specs.Fault.{status_of, message_of}

-- what a script prints that leads to this gateway: the answers and the status pages, and then the log page
abbrev pub printed_by : Script → ReplayState → List ℕ
printed_by script g = g.printed ++ log_text g.records (outcomes_of script.setup.table g.records)

-- the text is all of the input, where that is known
abbrev pub IsWholeInput : Option (List ℕ) → List ℕ → Type 0
IsWholeInput input text = IfSome input (λ bytes. text ≡ bytes)

-- the input is a script, a gateway played it whole, and the output grew by what that prints. The last
-- is whether the log was full with an item left
pub record IsReplay (rules : Limits → Run → Type 0) (input : Option (List ℕ)) (before after : SinkState)
    (full : Bool) : Type 0 where
  pub text : List ℕ
  pub whole : IsWholeInput input text
  pub short : length text ≤ 1048576
  pub script : Script
  pub parsed : IsScript (parsed_script_lines text) script
  pub replayed : ReplayState
  pub played : IsPlayed rules script replayed
  pub full_is : replayed.full ≡ full
  pub printed : Delivers before after (printed_by script replayed)

-- where a drain was cut short with an item left, the log has room for it
abbrev pub HasRoomLeft : Script → ReplayState → Type 0
HasRoomLeft script g = g.full ≡ true → length g.records < script.setup.limit

-- the input is a script, a gateway played the first of its steps, the log wasn't full with an item left, and the output
-- grew by what these steps print and the log page after it
pub record IsCutShort (rules : Limits → Run → Type 0) (input : Option (List ℕ)) (before after : SinkState)
    : Type 0 where
  pub text : List ℕ
  pub whole : IsWholeInput input text
  pub short : length text ≤ 1048576
  pub script : Script
  pub parsed : IsScript (parsed_script_lines text) script
  pub replayed : ReplayState
  pub played : IsPlayedSoFar rules script replayed
  pub room : HasRoomLeft script replayed
  pub printed : Delivers before after (printed_by script replayed)

-- the input is no longer than a script may be, and its first faulty line has this number
pub record HasFaultyLine (input : Option (List ℕ)) (number : ℕ) : Type 0 where
  pub text : List ℕ
  pub whole : IsWholeInput input text
  pub short : length text ≤ 1048576
  pub faulty : IsFirstFaultyLine (parsed_script_lines text) number

-- the input is longer than a script may be
abbrev pub IsTooLong : Option (List ℕ) → Type 0
IsTooLong input = IfSome input (λ bytes. 1048576 < length bytes)

-- what is true of the input and of how the output grew, where a replay ends without a fault or with this
-- one. At OutOfMemory nothing was printed, or a call of the output failed, or the replay was cut short
abbrev pub EndsWith : (Limits → Run → Type 0) → Option (List ℕ) → SinkState → SinkState → Option ReplayFault → Type 0
EndsWith rules input before after None = IsReplay rules input before after false
EndsWith rules input before after (Some TooLong) = IsTooLong input × (after ≡ before)
EndsWith rules input before after (Some (Line number)) = HasFaultyLine input number × (after ≡ before)
EndsWith rules input before after (Some (OfRun run.LogFull)) = IsReplay rules input before after true
EndsWith rules input before after (Some (OfRun run.OutOfMemory)) =
    (after ≡ before) ⊎ FailsOnce before after ⊎ IsCutShort rules input before after
EndsWith rules input before after (Some (OfRun run.ReadFault)) = after ≡ before
EndsWith rules input before after (Some (OfRun run.WriteFault)) = FailsOnce before after
EndsWith rules input before after (Some (OfRun run.Spawn)) = ⊥

-- the replay of this input, with what is known of the output and of the errors before and after it, ends
-- with this exit status
pub record IsReplayRun (rules : Limits → Run → Type 0) (input : Option (List ℕ))
    (output output_after errors errors_after : SinkState) (status : ℕ) : Type 0 where
  pub fault : Option ReplayFault
  pub status_is : status ≡ status_at_end status_of fault
  pub ended : EndsWith rules input output output_after fault
  pub reported : IsFaultReported message_of fault errors errors_after
