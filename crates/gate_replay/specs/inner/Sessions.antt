-- Only proofs and private functions use this: what the session of one packet or of one line did, for any client.
use Rattle.std.specs.Prelude.{◌≡◌, ℕ, ◌+◌, List, [], ◌∷◌, ◌++◌, Option, Some, Result, Ok, Err, ⊤}
use Rattle.std.specs.Bool.{MatchBool}
use Rattle.gate_model.specs.declared.record.Moment.{Moment}
use Rattle.gate_model.specs.declared.submission.Body.{Body}
use Rattle.gate_model.specs.declared.submission.Numbered.{Numbered}
use Rattle.gate_packet.specs.Packet.{Content, reported_body}
use Rattle.gate_packet.specs.Decoding.{IsPacket, is_stale}
use Rattle.gate_packet.specs.Stream.{Begins}
use Rattle.gate_grammar.specs.declared.faults.LineFault.{LineFault}
use Rattle.gate_core.specs.declared.submit.Refused.{Refused}
use Rattle.gate_core.specs.declared.submit.CloseFault.{CloseFault}
use Rattle.gate_core.specs.Legal.{Run}
use Rattle.gate_reader.specs.declared.report.Answer.{Answer}
use Rattle.gate_reader.specs.declared.report.Answer.TheVariants.{Queued, Stale, Bad, Down}
use Rattle.gate_reader.specs.declared.report.Report.{Report}
use Rattle.gate_reader.specs.declared.report.Stop.{Stop}
use Rattle.gate_reader.specs.declared.report.Stop.TheVariants.{End, Truncated, Shutdown}
use Rattle.gate_reader.specs.Report.{answer_to, answer_line}
use Rattle.gate_reader.specs.Session.{ClientView, Submits}
use Rattle.gate_streams.specs.Sink.{SinkState, Writes}
use Rattle.gate_reader.specs.Lines.{OperatorView, Closes, first_close}
use Rattle.gate_replay.specs.declared.script.Step.{Step}
use Rattle.gate_replay.specs.declared.player.Player.{Player}
use Rattle.gate_replay.specs.declared.setup.Setup.{Setup}
use Rattle.gate_replay.specs.ReplayState.{ReplayState, Heard, prints, asks, is_shutdown, number_queued, serves}
use Rattle.gate_replay.specs.inner.Playing.{SoloView, HoldsRun}

-- the session stopped at the end of its input, after a rest or none, or after the answer that reports a close
abbrev pub HasEnded : Stop → Type 0
HasEnded End = ⊤
HasEnded (Truncated count) = ⊤
HasEnded Shutdown = ⊤
HasEnded _ = ⊥

-- the session gave this one answer, and was not cut short
pub record HasOnly (report : Report) (answer : Answer) : Type 0 where
  pub answers : report.answers ≡ answer ∷ []
  pub ended : HasEnded report.stop

-- the body was submitted, and answered so
abbrev pub SubmitsBody : {S : Type 0} → ClientView S → S → Body → Answer → S → Type 0
SubmitsBody view old body answer new =
    (reply : Result ℕ Refused) × Submits view old body reply new × (answer ≡ answer_to reply)

-- the first block of the bytes is this packet
pub record BeginsWith (bytes : List ℕ) (packet : Content) : Type 0 where
  pub block : List ℕ
  pub more : List ℕ
  pub begins : Begins bytes block more
  pub is_packet : IsPacket block packet

-- the packet was dropped as stale, or its result submitted
abbrev pub AnswersPacket : {S : Type 0} → ClientView S → ℕ → Content → Moment → S → Answer → S → Type 0
AnswersPacket view age packet now old answer new =
    MatchBool (is_stale packet.timestamp now.0 age) ((answer ≡ Stale) × (new ≡ old))
    (SubmitsBody view old (reported_body packet) answer new)

-- the operator closed, and was answered so
abbrev pub ShutsDown : {S : Type 0} → OperatorView S → S → Moment → Answer → S → Type 0
ShutsDown view old now answer new =
    (reply : Result Moment CloseFault) × (first : Moment) × Closes view old now reply new
    × (first_close reply ≡ Some first) × (answer ≡ Down first)

-- what was read from a line was carried out, and answered so
abbrev pub CarriesOut : {S : Type 0} → OperatorView S → Moment → S → Result Body LineFault → Answer → S → Type 0
CarriesOut view now old (Err cause) answer new = (answer ≡ Bad cause) × (new ≡ old)
CarriesOut view now old (Ok body) answer new =
    MatchBool (is_shutdown body) (ShutsDown view old now answer new) (SubmitsBody view.client old body answer new)

-- how many items the answer says were queued
abbrev pub queued_in : Answer → ℕ
queued_in (Queued number) = 1
queued_in _ = 0

-- the session's one answer was printed, and what it queued counted
pub record PrintsAnswer {D : Type 0} (report : Report) (was now : Player D) (before after : SinkState) : Type 0 where
  pub answer : Answer
  pub only : HasOnly report answer
  pub same : now ≡ record was { queued = was.queued + queued_in answer }
  pub printed : Writes before after (answer_line answer)

-- a step is a session that asks this queue so much and prints this answer
pub record Answers {D : Type 0} (view : SoloView D) (setup : Setup) (queue : D) (step : Step) (answer : Answer)
    (g : ReplayState) : Type 0 where
  pub heard : Heard
  pub pairs : Run
  pub does : (takes : List (Option Numbered))
      → serves setup step (record heard { takes = takes }) g ≡ prints (answer_line answer) (asks pairs g)
  pub holds : HoldsRun view setup queue (pairs ++ g.run)
  pub counted : number_queued (pairs ++ g.run) ≡ number_queued g.run + queued_in answer

-- the queue answered a step so, after each gateway that it held
abbrev pub AnswersStep : {D : Type 0} → SoloView D → D → ℕ → Moment → D → Step → Answer → Type 0
AnswersStep view old age now new step answer =
    (setup : Setup) (g : ReplayState) → HoldsRun view setup old g.run → now ≡ g.clock → age ≡ setup.age
    → Answers view setup new step answer g
