-- What a script does to a gateway in one thread: its state after some steps, by what its queue answered. The main
-- definitions are `state_after`, `IsWhole`, `IsPlayed` and `IsPlayedSoFar`.
-- Own rules: a packet is a session of client 1, and an operator's line one of client 2. After each session the queue is
-- drained into the applier. An item that finds the log full is still answered, and nothing happens after it.
use Rattle.std.specs.Prelude.{◌≡◌, ℕ, ◌+◌, ◌<◌, ◌≤◌, nat_lt, if◌then◌else◌, List, [], ◌∷◌, ◌++◌, length, map, reverse, Option, Some, None, unwrap_or, Result, Ok, Err, Bool, true, false}
use mathlib.Core.List.{IsPrefix}
use Rattle.gate_model.specs.declared.record.Moment.{Moment}
use Rattle.gate_model.specs.declared.record.Record.{Record}
use Rattle.gate_model.specs.declared.submission.Body.{Body}
use Rattle.gate_model.specs.declared.submission.Body.TheVariants.{Shutdown}
use Rattle.gate_model.specs.declared.submission.Numbered.{Numbered}
use Rattle.gate_model.specs.Record.{later}
use Rattle.gate_packet.specs.Packet.{Content, reported_body}
use Rattle.gate_packet.specs.Decoding.{is_stale}
use Rattle.gate_grammar.specs.declared.faults.LineFault.{LineFault}
use Rattle.gate_grammar.specs.Commands.{command_body}
use Rattle.gate_grammar.specs.Parsing.{◌>>=◌, text_before, parsed_line}
use Rattle.gate_core.specs.declared.event.Event.TheVariants.{Take, Close}
use Rattle.gate_core.specs.declared.event.Reply.TheVariants.{Taken, Empty}
use Rattle.gate_core.specs.declared.submit.Refused.{Refused}
use Rattle.gate_core.specs.Limits.{Limits, limits_of, default_quota}
use Rattle.gate_core.specs.Legal.{Run, queued, close_reply}
use Rattle.gate_core.specs.LocalClient.{submitted}
use Rattle.gate_replay.specs.Ending.{with_ends}
use Rattle.gate_reader.specs.declared.report.Answer.TheVariants.{Stale, Bad, Down}
use Rattle.gate_reader.specs.Report.{answer_to, answer_line}
use Rattle.gate_pages.specs.StatusPage.{status_text_at}
use Rattle.gate_replay.specs.SentPacket.{received}
use Rattle.gate_replay.specs.declared.script.Step.{Step}
use Rattle.gate_replay.specs.declared.script.Step.TheVariants as step
use Rattle.gate_replay.specs.declared.setup.Setup.{Setup}
use Rattle.gate_replay.specs.declared.script.Script.{Script}

-- ---- the state

-- a gateway after some steps: the clock's moment and the applier's, what its queue was asked with its answers (the
-- newest first), the records, what was printed, and whether the log was full with an item left
pub record ReplayState : Type 0 where
  pub clock : Moment
  pub moment : Moment
  pub run : Run
  pub records : List Record
  pub printed : List ℕ
  pub full : Bool

-- what a step was answered: a submission; a close, by the first one's moment where it wasn't the first; and the takes
-- of the drain, in order. A step that asks less leaves the others unread
pub record Heard : Type 0 where
  pub reply : Result ℕ Refused
  pub closed : Option Moment
  pub takes : List (Option Numbered)

-- a gateway that has opened
abbrev pub opened : Setup → ReplayState
opened setup =
    record { clock = setup.moment; moment = setup.moment; run = []; records = []; printed = []; full = false }

-- it prints this too
abbrev pub prints : List ℕ → ReplayState → ReplayState
prints text g = record g { printed = g.printed ++ text }

-- its queue was asked this too, and answered so
abbrev pub asks : Run → ReplayState → ReplayState
asks pairs g = record g { run = pairs ++ g.run }

-- ---- sessions

-- a client submits a body, and prints the line of the answer
abbrev pub submits : ℕ → Body → Result ℕ Refused → ReplayState → ReplayState
submits client body reply g = prints (answer_line (answer_to reply)) (asks (submitted client body reply) g)

-- the operator closes at the clock's moment, and prints the line of the answer, which has the first close's moment
abbrev pub shuts_down : Option Moment → ReplayState → ReplayState
shuts_down closed g =
    prints (answer_line (Down (unwrap_or closed g.clock))) (asks ((Close g.clock, close_reply closed) ∷ []) g)

-- a packet that is read in a session of client 1: one that is stale by the clock is dropped, the result of any other is
-- submitted
abbrev pub serves_packet : ℕ → Content → Heard → ReplayState → ReplayState
serves_packet age packet heard g =
    if is_stale packet.timestamp g.clock.0 age then prints (answer_line Stale) g
    else submits 1 (reported_body packet) heard.reply g

-- the body of the command that a line spells, or the line's first fault
abbrev pub body_of_line : List ℕ → Result Body LineFault
body_of_line line = do
  parsed ← parsed_line line
  Ok (command_body parsed.name parsed.arguments)

abbrev pub is_shutdown : Body → Bool
is_shutdown Shutdown = true
is_shutdown _ = false

-- what is read from a line is carried out by client 2: SHUTDOWN_PROGRAM closes, any other body is submitted
abbrev pub carries_out : Result Body LineFault → Heard → ReplayState → ReplayState
carries_out (Err cause) heard g = prints (answer_line (Bad cause)) g
carries_out (Ok body) heard g = if is_shutdown body then shuts_down heard.closed g else submits 2 body heard.reply g

-- a line is a session of client 2: its input is the text and an LF, and the line ends before the first LF
abbrev pub serves_line : List ℕ → Heard → ReplayState → ReplayState
serves_line text heard g = carries_out (body_of_line (text_before 10 (text ++ 10 ∷ []))) heard g

-- ---- the drain

-- an item was taken, and recorded at the clock's moment or the applier's, whichever is later
abbrev pub records_item : Numbered → ReplayState → ReplayState
records_item item g =
    let moment = later g.moment g.clock in
    record (asks ((Take, Taken item) ∷ []) g) {
      moment = moment;
      records = g.records ++ record { moment = moment; item = item } ∷ [];
    }

-- how many items the two clients were answered are queued
abbrev pub number_queued : Run → ℕ
number_queued run = length (queued 1 run) + length (queued 2 run)

-- the drain, by the answers to its takes: one that found nothing is the last. A drain that ends with an item left found
-- the log full
abbrev pub drains : List (Option Numbered) → ReplayState → ReplayState
drains [] g = record g { full = nat_lt (length g.records) (number_queued g.run) }
drains (Some item ∷ takes) g = drains takes (records_item item g)
drains (None ∷ takes) g = asks ((Take, Empty) ∷ []) g

-- the answers are those of one whole drain: it goes on while an item is left and the log isn't full, until a take finds
-- nothing
abbrev pub Finishes : ℕ → List (Option Numbered) → ReplayState → Type 0
Finishes limit [] g = length g.records < number_queued g.run → limit ≤ length g.records
Finishes limit (Some item ∷ takes) g =
    (length g.records < number_queued g.run) × (length g.records < limit) × Finishes limit takes (records_item item g)
Finishes limit (None ∷ takes) g = (length g.records < number_queued g.run) × (length g.records < limit) × (takes ≡ [])

-- ---- steps

-- the status page of the clock's moment or the applier's, whichever is later; the applier goes on to it
abbrev pub shows_page : Setup → ReplayState → ReplayState
shows_page setup g =
    let moment = later g.moment g.clock in
    prints (status_text_at setup.table setup.moment g.records moment) (record g { moment = moment })

-- the step is a session, which a drain follows
abbrev pub is_session : Step → Bool
is_session (step.Clock moment) = false
is_session (step.Packet sent) = true
is_session (step.Line text) = true
is_session step.Page = false

-- the step without its drain
abbrev pub serves : Setup → Step → Heard → ReplayState → ReplayState
serves setup (step.Clock moment) heard g = record g { clock = moment }
serves setup (step.Packet sent) heard g = serves_packet setup.age (received sent) heard g
serves setup (step.Line text) heard g = serves_line text heard g
serves setup step.Page heard g = shows_page setup g

-- the step; nothing happens once the log was full with an item left
abbrev pub plays : Setup → Step → Heard → ReplayState → ReplayState
plays setup step heard g =
    if g.full then g
    else (if is_session step then drains heard.takes (serves setup step heard g) else serves setup step heard g)

-- the gateway after these steps, the newest first, each with what it was answered
abbrev pub state_after : Setup → List (Step × Heard) → ReplayState
state_after setup [] = opened setup
state_after setup ((step, heard) ∷ before) = plays setup step heard (state_after setup before)

-- ---- replays

-- the step's drain is whole, if it has one
abbrev pub IsWholeStep : Setup → Step → Heard → ReplayState → Type 0
IsWholeStep setup step heard g =
    g.full ≡ false → is_session step ≡ true → Finishes setup.limit heard.takes (serves setup step heard g)

-- each step's drain is whole
abbrev pub IsWhole : Setup → List (Step × Heard) → Type 0
IsWhole setup [] = Unit {0}
IsWhole setup ((step, heard) ∷ before) = IsWholeStep setup step heard (state_after setup before) × IsWhole setup before

-- the steps alone
abbrev pub steps_of : List (Step × Heard) → List Step
steps_of done = map (λ pair. pair.0) done

-- the gateway played the whole script, over a queue of two clients, which then ended and were taken in. The queue's
-- answers keep these rules: those of the machine of all interleavings, or those that a gate keeps whatever other
-- threads do
pub record IsPlayed (rules : Limits → Run → Type 0) (script : Script) (g : ReplayState) : Type 0 where
  pub done : List (Step × Heard)
  pub steps_are : steps_of done ≡ reverse script.steps.items
  pub whole : IsWhole script.setup done
  pub is : g ≡ state_after script.setup done
  pub kept : rules (limits_of 2 default_quota script.setup.capacity) (with_ends g.run)

-- ---- replays that memory stops

-- the answers are those of a drain so far: each take came while an item was left and the log wasn't full
abbrev pub BeginsDrain : ℕ → List (Option Numbered) → ReplayState → Type 0
BeginsDrain limit [] g = Unit {0}
BeginsDrain limit (Some item ∷ takes) g =
    (length g.records < number_queued g.run) × (length g.records < limit)
    × BeginsDrain limit takes (records_item item g)
BeginsDrain limit (None ∷ takes) g =
    (length g.records < number_queued g.run) × (length g.records < limit) × (takes ≡ [])

-- the step's drain has begun, if it has one
abbrev pub IsBegunStep : Setup → Step → Heard → ReplayState → Type 0
IsBegunStep setup step heard g =
    g.full ≡ false → is_session step ≡ true → BeginsDrain setup.limit heard.takes (serves setup step heard g)

-- each step's drain is whole, but for the newest one's, which has begun
abbrev pub IsWholeSoFar : Setup → List (Step × Heard) → Type 0
IsWholeSoFar setup [] = Unit {0}
IsWholeSoFar setup ((step, heard) ∷ before) =
    IsBegunStep setup step heard (state_after setup before) × IsWhole setup before

-- the gateway played the first steps of the script, the last of them perhaps without the rest of its drain, over a
-- queue of two clients whose answers keep these rules. (Where the drain was cut short, `full` is true if an item was
-- left.)
pub record IsPlayedSoFar (rules : Limits → Run → Type 0) (script : Script) (g : ReplayState) : Type 0 where
  pub steps : List Step
  pub steps_begin : IsPrefix steps script.steps.items
  pub done : List (Step × Heard)
  pub steps_are : steps_of done ≡ reverse steps
  pub whole : IsWholeSoFar script.setup done
  pub is : g ≡ state_after script.setup done
  pub kept : rules (limits_of 2 default_quota script.setup.capacity) g.run
