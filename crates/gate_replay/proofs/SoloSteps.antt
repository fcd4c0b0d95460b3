-- Sessions of a queue's clients.
use Rattle.std.proofs.Common.{◌≡◌, ℕ, ◌+◌, ◌^◌, ◌<◌, ◌≤◌, List, [], ◌∷◌, ◌++◌, length, Option, Some, None, Result, Ok, Err, Bool, true, false, cond, refl, sym, ap, ◌∙◌, subst, arith, length-append}
use Rattle.std.specs.Bool.{MatchBool}
use Rattle.gate_model.specs.declared.record.Moment.{Moment}
use Rattle.gate_model.specs.declared.submission.Body.{Body}
use Rattle.gate_model.specs.declared.submission.Numbered.{Numbered}
use mathlib.Core.Logic.{dite}
use native.Mathlib.Decide.{ℕ_discrete}
use Rattle.gate_packet.specs.Packet.{reported_body}
use Rattle.gate_packet.specs.Decoding.{is_stale}
use Rattle.gate_replay.specs.SentPacket.{SentPacket, received}
use Rattle.gate_grammar.specs.declared.faults.LineFault.{LineFault}
use Rattle.gate_grammar.specs.Parsing.{text_before}
use Rattle.gate_core.specs.declared.event.Event.TheVariants.{Push, Close}
use Rattle.gate_core.specs.declared.event.Reply.TheVariants as reply
use Rattle.gate_core.specs.declared.submit.Refused.{Refused}
use Rattle.gate_core.specs.declared.submit.Refused.TheVariants as refused
use Rattle.gate_core.specs.declared.submit.CloseFault.{CloseFault}
use Rattle.gate_core.specs.declared.submit.CloseFault.TheVariants as fault
use Rattle.gate_core.specs.Limits.{Limits}
use Rattle.gate_core.specs.Merge.{numbered, of_client}
use Rattle.gate_core.specs.Legal.{Run, all_queued, queued, close_reply}
use Rattle.gate_core.specs.LocalClient.{submitted, closed_by}
use Rattle.gate_core.proofs.Merges.{of_client-append}
use Rattle.gate_replay.specs.Allowed.{IsAllowed}
use Rattle.gate_replay.proofs.Numbers.{allowed_numbers}
use Rattle.gate_reader.specs.declared.report.Answer.{Answer}
use Rattle.gate_reader.specs.declared.report.Answer.TheVariants as answer
use Rattle.gate_reader.specs.Report.{answer_to, answer_line}
use Rattle.gate_reader.specs.Session.{ClientView}
use Rattle.gate_reader.specs.Lines.{OperatorView, first_close}
use Rattle.gate_replay.specs.declared.script.Step.{Step}
use Rattle.gate_replay.specs.declared.script.Step.TheVariants as step
use Rattle.gate_replay.specs.declared.setup.Setup.{Setup}
use Rattle.gate_replay.specs.ReplayState.{ReplayState, Heard, prints, submits, shuts_down, body_of_line, is_shutdown, carries_out, number_queued, serves}
use Rattle.gate_applier.specs.Applier.{ApplierView}
use Rattle.gate_replay.specs.inner.Playing.{SoloView, HoldsRun, ShowsRecords}
use Rattle.gate_replay.specs.inner.Sessions.{AnswersPacket, SubmitsBody, ShutsDown, CarriesOut, queued_in, Answers, AnswersStep}

-- ---- counts

-- the items of a client, after one more of a client
more_of : (c client number : ℕ) (body : Body) (run : Run) → queued c ((Push client body, reply.Queued number) ∷ run) ≡ queued c run ++ of_client c (numbered client number body ∷ [])
more_of c client number body run = of_client-append c (all_queued run) (numbered client number body ∷ [])

more_queued : (client number : ℕ) (body : Body) (run : Run) → 1 ≤ client → client ≤ 2 → number_queued ((Push client body, reply.Queued number) ∷ run) ≡ number_queued run + 1
more_queued client number body run low high = dite (ℕ_discrete client 1) (λ is. rw is (at_one number body run)) (λ ne. let two : client ≡ 2 = omega arith in rw two (at_two number body run))
  where
    at_one : (number : ℕ) (body : Body) (run : Run) → number_queued ((Push 1 body, reply.Queued number) ∷ run) ≡ number_queued run + 1
    at_one number body run = omega (arith, ap length (more_of 1 1 number body run), ap length (more_of 2 1 number body run), length-append (queued 1 run) (numbered 1 number body ∷ []), length-append {A = Numbered} (queued 2 run) [])

    at_two : (number : ℕ) (body : Body) (run : Run) → number_queued ((Push 2 body, reply.Queued number) ∷ run) ≡ number_queued run + 1
    at_two number body run = omega (arith, ap length (more_of 1 2 number body run), ap length (more_of 2 2 number body run), length-append {A = Numbered} (queued 1 run) [], length-append (queued 2 run) (numbered 2 number body ∷ []))

queued_submitted : (client : ℕ) (body : Body) (r : Result ℕ Refused) (run : Run) → 1 ≤ client → client ≤ 2 → number_queued (submitted client body r ++ run) ≡ number_queued run + queued_in (answer_to r)
queued_submitted client body (Ok number) run low high = more_queued client number body run low high
queued_submitted client body (Err (refused.Closing first given)) run low high = omega arith
queued_submitted client body (Err (refused.Spent given)) run low high = omega arith
queued_submitted client body (Err (refused.Full given)) run low high = omega arith

pub queued_few : (limits : Limits) (run : Run) → IsAllowed limits run → limits.quota < 2 ^ 32 → number_queued run < 2 ^ 34
queued_few limits run h quota =
    let one : length (queued 1 run) ≤ limits.quota = (allowed_numbers limits run 1 h).1 in
    let other : length (queued 2 run) ≤ limits.quota = (allowed_numbers limits run 2 h).1 in
    omega (arith, one, other, quota)

-- ---- the queue of a client

-- the client's submissions add their events and replies to the run that its queue shows
abbrev pub AddsSubmissions : {D : Type 0} → SoloView D → ClientView D → ℕ → D → D → Type 0
AddsSubmissions {D} view client number old new =
    (body : Body) (r : Result ℕ Refused) (run : Run) → client.answers old body r new → view.after old run → view.after new (submitted number body r ++ run)

-- so do the operator's closes
abbrev pub AddsCloses : {D : Type 0} → SoloView D → OperatorView D → D → D → Type 0
AddsCloses {D} view operator old new =
    (moment : Moment) (r : Result Moment CloseFault) (run : Run) → operator.closes old moment r new → view.after old run → view.after new (closed_by moment r ++ run)

-- an applier that has the same records shows those of a gateway that has the same
pub records_on : (setup : Setup) (applier kept : ApplierView) (g h : ReplayState) → kept ≡ record applier { moment = kept.moment; room = kept.room } → h.records ≡ g.records → ShowsRecords setup applier g → ShowsRecords setup kept h
records_on setup applier kept g h is same shown = record {
  table = ap (λ (v : ApplierView). v.table) is ∙ shown.table;
  opening = ap (λ (v : ApplierView). v.opening) is ∙ shown.opening;
  limit = ap (λ (v : ApplierView). v.limit) is ∙ shown.limit;
  records = ap (λ (v : ApplierView). v.records) is ∙ shown.records ∙ sym same;
}

-- a queue that shows whatever run another one did
holds_turned : {D : Type 0} (view : SoloView D) (setup : Setup) (old new : D) (run : Run) → ((more : Run) → view.after old more → view.after new more) → view.limits new ≡ view.limits old → HoldsRun view setup old run → HoldsRun view setup new run
holds_turned view setup old new run turned limits h = record { after = turned run h.after; limits = limits ∙ h.limits }

-- ---- packets

-- a session that only prints
prints_alone : {D : Type 0} (view : SoloView D) (setup : Setup) (old new : D) (step : Step) (a : Answer) (g : ReplayState) → new ≡ old → queued_in a ≡ 0 → ((heard : Heard) → serves setup step heard g ≡ prints (answer_line a) g) → HoldsRun view setup old g.run → Answers view setup new step a g
prints_alone {D} view setup old new step a g same none does h = record {
  heard = record { reply = Ok 0; closed = None; takes = [] };
  pairs = [];
  does = λ takes. does (record { reply = Ok 0; closed = None; takes = takes });
  holds = subst (λ (d : D). HoldsRun view setup d g.run) (sym same) h;
  counted = omega (arith, none);
}

-- a session that submits a body
submits_alone : {D : Type 0} (view : SoloView D) (setup : Setup) (old new : D) (client : ℕ) (step : Step) (body : Body) (r : Result ℕ Refused) (g : ReplayState) → 1 ≤ client → client ≤ 2 → view.limits new ≡ view.limits old
    → (view.after old g.run → view.after new (submitted client body r ++ g.run))
    → ((heard : Heard) → serves setup step heard g ≡ submits client body heard.reply g) → HoldsRun view setup old g.run → Answers view setup new step (answer_to r) g
submits_alone view setup old new client step body r g low high limits adds does h = record {
  heard = record { reply = r; closed = None; takes = [] };
  pairs = submitted client body r;
  does = λ takes. does (record { reply = r; closed = None; takes = takes });
  holds = record { after = adds h.after; limits = limits ∙ h.limits };
  counted = queued_submitted client body r g.run low high;
}

packet_answers : {D : Type 0} (view : SoloView D) (client : ClientView D) (setup : Setup) (old new : D) (s : SentPacket) (a : Answer) (g : ReplayState) → AddsSubmissions view client 1 old new → view.limits new ≡ view.limits old
    → AnswersPacket client setup.age (received s) g.clock old a new → HoldsRun view setup old g.run → Answers view setup new (step.Packet s) a g
packet_answers {D} view client setup old new s a g adds limits h holds = go (is_stale (received s).timestamp g.clock.0 setup.age) refl h
  where
    go : (stale : Bool) → is_stale (received s).timestamp g.clock.0 setup.age ≡ stale → MatchBool stale ((a ≡ answer.Stale) × (new ≡ old)) (SubmitsBody client old (reported_body (received s)) a new) → Answers view setup new (step.Packet s) a g
    go true late k = subst (λ (x : Answer). Answers view setup new (step.Packet s) x g) (sym k.0)
        (prints_alone view setup old new (step.Packet s) answer.Stale g k.1 refl
        (λ heard. ap (λ b. cond b (prints (answer_line answer.Stale) g) (submits 1 (reported_body (received s)) heard.reply g)) late) holds)
    go false fresh k = subst (λ (x : Answer). Answers view setup new (step.Packet s) x g) (sym k.2)
        (submits_alone view setup old new 1 (step.Packet s) (reported_body (received s)) k.0 g (omega arith) (omega arith) limits (adds (reported_body (received s)) k.0 g.run k.1.answered)
        (λ heard. ap (λ b. cond b (prints (answer_line answer.Stale) g) (submits 1 (reported_body (received s)) heard.reply g)) fresh) holds)

pub packet_step : {D : Type 0} (view : SoloView D) (client : ClientView D) (queue old new : D) (age : ℕ) (s : SentPacket) (now : Moment) (a : Answer) → ((run : Run) → view.after queue run → view.after old run) → view.limits old ≡ view.limits queue
    → AddsSubmissions view client 1 old new → view.limits new ≡ view.limits old → AnswersPacket client age (received s) now old a new → AnswersStep view queue age now new (step.Packet s) a
packet_step {D} view client queue old new age s now a turned turned_limits adds limits h setup g holds now_is age_is =
    packet_answers view client setup old new s a g adds limits
    (subst (λ (n : ℕ). AnswersPacket client n (received s) g.clock old a new) age_is (subst (λ (m : Moment). AnswersPacket client age (received s) m old a new) now_is h))
    (holds_turned view setup queue old g.run turned turned_limits holds)

-- ---- lines

-- the operator's close was answered so
abbrev closed_of : Result Moment CloseFault → Option Moment
closed_of (Ok first) = None
closed_of (Err (fault.AlreadyClosing first)) = Some first
closed_of (Err fault.OutOfMemory) = None

closed_pairs : (now first : Moment) (r : Result Moment CloseFault) → first_close r ≡ Some first → closed_by now r ≡ (Close now, close_reply (closed_of r)) ∷ []
closed_pairs now first (Ok other) e = refl
closed_pairs now first (Err (fault.AlreadyClosing other)) e = refl
closed_pairs now first (Err fault.OutOfMemory) e = absurd (cc)

shutdown_answers : {D : Type 0} (view : SoloView D) (setup : Setup) (old new : D) (step : Step) (r : Result Moment CloseFault) (first : Moment) (g : ReplayState) → view.limits new ≡ view.limits old
    → (view.after old g.run → view.after new (closed_by g.clock r ++ g.run)) → first_close r ≡ Some first
    → ((heard : Heard) → serves setup step heard g ≡ shuts_down heard.closed g) → HoldsRun view setup old g.run → Answers view setup new step (answer.Down first) g
shutdown_answers view setup old new step r first g limits adds reported does h =
    let pairs : closed_by g.clock r ≡ (Close g.clock, close_reply (closed_of r)) ∷ [] = closed_pairs g.clock first r reported in
    record {
      heard = record { reply = Ok 0; closed = closed_of r; takes = [] };
      pairs = (Close g.clock, close_reply (closed_of r)) ∷ [];
      does = λ takes. does (record { reply = Ok 0; closed = closed_of r; takes = takes });
      holds = record { after = subst (λ (p : Run). view.after new (p ++ g.run)) pairs (adds h.after); limits = limits ∙ h.limits };
      counted = omega arith;
    }

command_answers : {D : Type 0} (view : SoloView D) (operator : OperatorView D) (setup : Setup) (old new : D) (step : Step) (body : Body) (a : Answer) (g : ReplayState) → AddsSubmissions view operator.client 2 old new → AddsCloses view operator old new
    → view.limits new ≡ view.limits old → CarriesOut operator g.clock old (Ok body) a new → ((heard : Heard) → serves setup step heard g ≡ carries_out (Ok body) heard g) → HoldsRun view setup old g.run → Answers view setup new step a g
command_answers {D} view operator setup old new step body a g adds closes limits h does holds = go (is_shutdown body) refl h
  where
    go : (shuts : Bool) → is_shutdown body ≡ shuts → MatchBool shuts (ShutsDown operator old g.clock a new) (SubmitsBody operator.client old body a new) → Answers view setup new step a g
    go true met k = subst (λ (x : Answer). Answers view setup new step x g) (sym k.4)
        (shutdown_answers view setup old new step k.0 k.1 g limits (closes g.clock k.0 g.run k.2.answered) k.3
        (λ heard. does heard ∙ ap (λ b. cond b (shuts_down heard.closed g) (submits 2 body heard.reply g)) met) holds)
    go false met k = subst (λ (x : Answer). Answers view setup new step x g) (sym k.2)
        (submits_alone view setup old new 2 step body k.0 g (omega arith) (omega arith) limits (adds body k.0 g.run k.1.answered)
        (λ heard. does heard ∙ ap (λ b. cond b (shuts_down heard.closed g) (submits 2 body heard.reply g)) met) holds)

line_answers : {D : Type 0} (view : SoloView D) (operator : OperatorView D) (setup : Setup) (old new : D) (step : Step) (read : Result Body LineFault) (a : Answer) (g : ReplayState) → AddsSubmissions view operator.client 2 old new → AddsCloses view operator old new
    → view.limits new ≡ view.limits old → CarriesOut operator g.clock old read a new → ((heard : Heard) → serves setup step heard g ≡ carries_out read heard g) → HoldsRun view setup old g.run → Answers view setup new step a g
line_answers view operator setup old new step (Ok body) a g adds closes limits h does holds = command_answers view operator setup old new step body a g adds closes limits h does holds
line_answers view operator setup old new step (Err cause) a g adds closes limits h does holds =
    subst (λ (x : Answer). Answers view setup new step x g) (sym h.0) (prints_alone view setup old new step (answer.Bad cause) g h.1 refl does holds)

pub line_step : {D : Type 0} (view : SoloView D) (operator : OperatorView D) (queue old new : D) (text : List ℕ) (now : Moment) (a : Answer) → ((run : Run) → view.after queue run → view.after old run) → view.limits old ≡ view.limits queue
    → AddsSubmissions view operator.client 2 old new → AddsCloses view operator old new → view.limits new ≡ view.limits old → CarriesOut operator now old (body_of_line (text_before 10 (text ++ 10 ∷ []))) a new
    → (age : ℕ) → AnswersStep view queue age now new (step.Line text) a
line_step {D} view operator queue old new text now a turned turned_limits adds closes limits h age setup g holds now_is age_is =
    line_answers view operator setup old new (step.Line text) (body_of_line (text_before 10 (text ++ 10 ∷ []))) a g adds closes limits
    (subst (λ (m : Moment). CarriesOut operator m old (body_of_line (text_before 10 (text ++ 10 ∷ []))) a new) now_is h) (λ heard. refl)
    (holds_turned view setup queue old g.run turned turned_limits holds)
