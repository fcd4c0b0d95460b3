-- The steps of a replay.
use Rattle.std.proofs.Common.{◌≡◌, ◌⊎◌, inl, inr, ℕ, ◌+◌, ◌^◌, ◌<◌, List, [], ◌∷◌, ◌++◌, length, take, drop, get_or, Option, Some, None, Result, Ok, Err, Bool, true, false, cond, refl, sym, ap, ◌∙◌, subst, arith, append_assoc}
use Rattle.std.specs.Prelude.{IfOk, IfErr, reverse}
use Rattle.std.proofs.lemmas.List.{reverse-append, take-append-drop, take_more}
use Rattle.gate_model.specs.declared.record.Moment.{Moment}
use Rattle.gate_model.specs.declared.submission.Numbered.{Numbered}
use Rattle.gate_model.specs.Record.{later}
use Rattle.gate_model.specs.declared.submission.Body.{Body}
use Rattle.gate_grammar.specs.declared.faults.LineFault.{LineFault}
use Rattle.gate_grammar.specs.Parsing.{text_before}
use Rattle.gate_core.specs.Limits.{Limits}
use Rattle.gate_core.specs.Legal.{Run}
use Rattle.gate_replay.specs.Allowed.{IsAllowed}
use Rattle.gate_applier.specs.Applier.{ApplierView}
use Rattle.gate_pages.specs.StatusPage.{status_text_at}
use Rattle.gate_reader.specs.declared.report.Answer.{Answer}
use Rattle.gate_reader.specs.declared.report.Report.{Report}
use Rattle.gate_reader.specs.Report.{answer_line}
use Rattle.gate_streams.specs.Sink.{SinkState, Fails, Writes}
use Rattle.gate_faults.specs.declared.fault.RunFault.TheVariants as run
use Rattle.gate_replay.specs.declared.fault.ReplayFault.{ReplayFault}
use Rattle.gate_replay.specs.declared.fault.ReplayFault.TheVariants as replay_fault
use Rattle.gate_replay.specs.declared.player.Player.{Player}
use Rattle.gate_replay.specs.declared.player.Stopped.{Stopped}
use Rattle.gate_replay.specs.declared.player.Stopped.TheVariants as stopped
use Rattle.gate_replay.specs.declared.script.Step.{Step}
use Rattle.gate_replay.specs.declared.script.Step.TheVariants as step
use Rattle.gate_replay.specs.declared.setup.Setup.{Setup}
use Rattle.gate_replay.specs.ReplayState.{ReplayState, Heard, prints, asks, body_of_line, carries_out, is_session, serves, drains, plays, state_after, steps_of, records_item, Finishes, IsWholeStep, IsWhole, BeginsDrain, IsBegunStep, IsWholeSoFar}
use Rattle.gate_replay.specs.inner.Sessions.{queued_in, HasOnly, PrintsAnswer, Answers, AnswersStep}
use Rattle.gate_replay.specs.inner.Playing.{SoloView, Setting, setting, Shows, IsNew, IsUnderWay, IsReady, Ends, Stays, DrainsTo, PlaysTo, PlayedTo, PlayedPart, IsWriteEnd, StopsBefore, PlaysFrom, StopsPlaying, StopsAll, DrainsFrom, StopsDraining}
use Rattle.gate_streams.proofs.Outputs.{fails_then, writes_none, writes_on}
use Rattle.gate_replay.proofs.SoloSteps.{queued_few, records_on}

abbrev nothing_heard : List (Option Numbered) → Heard
nothing_heard takes = record { reply = Ok 0; closed = None; takes = takes }

-- ---- one step without its drain

-- the step was served, without its drain
pub record Serves {D : Type 0} (view : SoloView D) (s : Setting) (player : Player D) (output : SinkState) (step : Step) (g : ReplayState) : Type 0 where
  pub heard : Heard
  pub shows : (takes : List (Option Numbered)) → Shows view s player output (serves s.setup step (record heard { takes = takes }) g)

-- the player, from whatever state of the gateway it had come to, served the step
abbrev pub ServesFrom : {D : Type 0} → SoloView D → Player D → SinkState → Step → Player D → SinkState → Type 0
ServesFrom view was before step now after = (s : Setting) (g : ReplayState) → Shows view s was before g → Serves view s now after step g

serves_clock : {D : Type 0} (view : SoloView D) (was : Player D) (clock : Moment) (output : SinkState) → ServesFrom view was output (step.Clock clock) (record was { clock = clock }) output
serves_clock {D} view was clock output s g h = record {
  heard = nothing_heard [];
  shows = λ takes. record {
    holds = record { after = h.holds.after; limits = h.holds.limits };
    applier = records_on s.setup was.applier was.applier g (record g { clock = clock }) refl refl h.applier;
    moment = h.moment;
    clock = refl;
    age = h.age;
    queued = h.queued;
    printed = h.printed;
    running = h.running;
  };
}

-- a session of the queue was answered, and its answer printed
pub serves_session : {D : Type 0} (view : SoloView D) (was now : Player D) (queue : D) (report : Report) (before after : SinkState) (step : Step)
    → ((answer : Answer) → HasOnly report answer → AnswersStep view was.queue was.age was.clock queue step answer)
    → PrintsAnswer report (record was { queue = queue }) now before after → ServesFrom view was before step now after
serves_session {D} view was now queue report before after step answers p s g h =
    let a = p.answer in
    let x : Answers view s.setup queue step a g = answers a p.only s.setup g h.holds h.clock h.age in
    record {
      heard = x.heard;
      shows = λ takes. subst (λ (v : ReplayState). Shows view s now after v) (sym (x.does takes)) (subst (λ (player : Player D). Shows view s player after (prints (answer_line a) (asks x.pairs g))) (sym p.same) (record {
        holds = record { after = x.holds.after; limits = x.holds.limits };
        applier = records_on s.setup was.applier was.applier g (prints (answer_line a) (asks x.pairs g)) refl refl h.applier;
        moment = h.moment;
        clock = h.clock;
        age = h.age;
        queued = ap (λ n. n + queued_in a) h.queued ∙ sym x.counted;
        printed = writes_on s.base before after g.printed (answer_line a) h.printed p.printed;
        running = h.running;
      }));
    }

serves_page : {D : Type 0} (view : SoloView D) (was : Player D) (applier : ApplierView) (before after : SinkState) → applier ≡ record was.applier { moment = applier.moment; room = applier.room } → applier.moment ≡ later was.applier.moment was.clock
    → Writes before after (status_text_at applier.table applier.opening applier.records applier.moment)
    → ServesFrom view was before step.Page (record was { applier = applier }) after
serves_page {D} view was applier before after same moment printed s g h =
    let shown = records_on s.setup was.applier applier g g same refl h.applier in
    let moment_is : applier.moment ≡ later g.moment g.clock = moment ∙ cc (h.moment, h.clock) in
    let text : status_text_at applier.table applier.opening applier.records applier.moment ≡ status_text_at s.setup.table s.setup.moment g.records (later g.moment g.clock) =
    rw (shown.table, shown.opening, shown.records, moment_is) refl in
    record {
      heard = nothing_heard [];
      shows = λ takes. record {
        holds = record { after = h.holds.after; limits = h.holds.limits };
        applier = record { table = shown.table; opening = shown.opening; limit = shown.limit; records = shown.records };
        moment = moment_is;
        clock = h.clock;
        age = h.age;
        queued = h.queued;
        printed = writes_on s.base before after g.printed _ h.printed (subst (λ (t : List ℕ). Writes before after t) text printed);
        running = h.running;
      };
    }

-- ---- one step

plays_if : (full session : Bool) (g v d : ReplayState) → full ≡ false → cond full g (cond session d v) ≡ cond session d v
plays_if full session g v d running = ap (λ b. cond b g (cond session d v)) running

session_is : (setup : Setup) (step : Step) (heard : Heard) (g : ReplayState) → g.full ≡ false → is_session step ≡ true → plays setup step heard g ≡ drains heard.takes (serves setup step heard g)
session_is setup step heard g running session =
    plays_if g.full (is_session step) g (serves setup step heard g) (drains heard.takes (serves setup step heard g)) running
    ∙ ap (λ b. cond b (drains heard.takes (serves setup step heard g)) (serves setup step heard g)) session

other_is : (setup : Setup) (step : Step) (heard : Heard) (g : ReplayState) → g.full ≡ false → is_session step ≡ false → plays setup step heard g ≡ serves setup step heard g
other_is setup step heard g running session =
    plays_if g.full (is_session step) g (serves setup step heard g) (drains heard.takes (serves setup step heard g)) running
    ∙ ap (λ b. cond b (drains heard.takes (serves setup step heard g)) (serves setup step heard g)) session

-- a step's service doesn't read its takes
carries_with : (read : Result Body LineFault) (heard : Heard) (takes : List (Option Numbered)) (g : ReplayState) → carries_out read (record heard { takes = takes }) g ≡ carries_out read heard g
carries_with (Ok body) heard takes g = refl
carries_with (Err cause) heard takes g = refl

serves_with : (setup : Setup) (step : Step) (heard : Heard) (takes : List (Option Numbered)) (g : ReplayState) → serves setup step (record heard { takes = takes }) g ≡ serves setup step heard g
serves_with setup (step.Line text) heard takes g = carries_with (body_of_line (text_before 10 (text ++ 10 ∷ []))) heard takes g
serves_with setup _ heard takes g = refl

-- the drain of a session led where its step leads
drains_plays : (AreWhole : ℕ → List (Option Numbered) → ReplayState → Type 0) (IsEnd : ReplayState → Type 0) (setup : Setup) (step : Step) (g : ReplayState) (heard : Heard) → g.full ≡ false → is_session step ≡ true
    → DrainsTo AreWhole IsEnd setup.limit (serves setup step heard g)
    → PlaysTo (λ setup step heard g. g.full ≡ false → is_session step ≡ true → AreWhole setup.limit heard.takes (serves setup step heard g)) IsEnd setup step g
drains_plays AreWhole IsEnd setup step g heard running session d =
    let with_takes : Heard = record heard { takes = d.takes } in
    let same : serves setup step with_takes g ≡ serves setup step heard g = serves_with setup step heard d.takes g in
    let is : plays setup step with_takes g ≡ drains d.takes (serves setup step heard g) = session_is setup step with_takes g running session ∙ ap (λ (v : ReplayState). drains d.takes v) same in
    record {
      heard = with_takes;
      whole = λ _ _. rw same d.whole;
      ends = subst IsEnd (sym is) d.ends;
    }

-- the step's service, whatever its takes
pub served_shows : {D : Type 0} (view : SoloView D) (s : Setting) (mid : Player D) (after : SinkState) (step : Step) (g : ReplayState) (v : Serves view s mid after step g) → Shows view s mid after (serves s.setup step v.heard g)
served_shows {D} view s mid after step g v = subst (λ (x : ReplayState). Shows view s mid after x) (serves_with s.setup step v.heard [] g) (v.shows [])

plays_session : {D : Type 0} (view : SoloView D) (r : Result (Player D) Stopped) (was mid : Player D) (step : Step) (before after : SinkState) → ServesFrom view was before step mid after → is_session step ≡ true
    → IfOk r (DrainsFrom view mid)
    → IfOk r (λ now. PlaysFrom view was before step now after)
plays_session view (Ok now) was mid step before after served session drained = λ s g h.
    let v = served s g h in drains_plays Finishes (Shows view s now after) s.setup step g v.heard h.running session (drained s after (serves s.setup step v.heard g) (served_shows view s mid after step g v))
plays_session view (Err stop) was mid step before after served session drained = tt

write_end_on : (a b c : SinkState) (fault : ReplayFault) → Fails a.tally b.tally 0 → IsWriteEnd b c fault → IsWriteEnd a c fault
write_end_on a b c (replay_fault.Run run.OutOfMemory) h k = fails_then a.tally b.tally c.tally 1 h k
write_end_on a b c (replay_fault.Run run.WriteFault) h k = fails_then a.tally b.tally c.tally 1 h k
write_end_on a b c _ h k = k

-- memory ran out, or a write failed, before the step was printed
stays_before : {D : Type 0} (view : SoloView D) (s : Setting) (was : Player D) (kept : ApplierView) (before after : SinkState) (g : ReplayState) → kept ≡ record was.applier { moment = kept.moment; room = kept.room } → after ≡ before → Shows view s was before g → Stays view s kept after g
stays_before {D} view s was kept before after g same silent h = record {
  stood = record { queue = was.queue; after = h.holds.after; limits_are = h.holds.limits };
  shown = records_on s.setup was.applier kept g g same refl h.applier;
  printed = subst (λ (o : SinkState). Writes s.base o g.printed) (sym silent) h.printed;
  room = λ full. let no : true ≡ false = sym full ∙ h.running in absurd (cc);
}

pub stops_before : {D E : Type 0} (view : SoloView D) (ended : SoloView E) (stop : Stopped) (was : Player D) (step : Step) (before after : SinkState) → StopsBefore was.applier before after stop → StopsPlaying view ended was before step after stop
stops_before view ended (stopped.Full kept) was step before after h = absurd h
stops_before view ended (stopped.OutOfMemory kept) was step before after h = λ s g shows. inl (stays_before view s was kept before after g h.0 h.1 shows)
stops_before view ended (stopped.Unwritten fault) was step before after h = h

-- so does a step that is no session
pub stops_other : {D E X : Type 0} (view : SoloView D) (ended : SoloView E) (r : Result X Stopped) (was : Player D) (step : Step) (before after : SinkState) → IfErr r (StopsBefore was.applier before after) → IfErr r (StopsPlaying view ended was before step after)
stops_other view ended (Ok now) was step before after h = tt
stops_other view ended (Err stop) was step before after h = stops_before view ended stop was step before after h

-- the drain of a session stopped
drain_stops : {D E : Type 0} (view : SoloView D) (ended : SoloView E) (r : Result (Player D) Stopped) (was mid : Player D) (step : Step) (before after : SinkState) → ServesFrom view was before step mid after → is_session step ≡ true
    → IfErr r (StopsDraining view ended mid)
    → IfErr r (StopsPlaying view ended was before step after)
drain_stops view ended (Ok now) was mid step before after served session h = tt
drain_stops view ended (Err (stopped.Full kept)) was mid step before after served session h = λ s g shows.
    let v = served s g shows in drains_plays Finishes (Ends ended s kept after) s.setup step g v.heard shows.running session (h s after (serves s.setup step v.heard g) (served_shows view s mid after step g v))
drain_stops view ended (Err (stopped.OutOfMemory kept)) was mid step before after served session h = λ s g shows.
    let v = served s g shows in inr (drains_plays BeginsDrain (Stays view s kept after) s.setup step g v.heard shows.running session (h s after (serves s.setup step v.heard g) (served_shows view s mid after step g v)))
drain_stops view ended (Err (stopped.Unwritten fault)) was mid step before after served session h = absurd h

-- a session was answered, its answer printed, and the queue drained
pub session_drained : {D E : Type 0} (view : SoloView D) (ended : SoloView E) (r : Result (Player D) Stopped) (was mid : Player D) (queue : D) (report : Report) (before after : SinkState) (step : Step)
    → ((answer : Answer) → HasOnly report answer → AnswersStep view was.queue was.age was.clock queue step answer)
    → PrintsAnswer report (record was { queue = queue }) mid before after → is_session step ≡ true
    → IfOk r (DrainsFrom view mid) → IfErr r (StopsDraining view ended mid)
    → IfOk r (λ now. PlaysFrom view was before step now after) × IfErr r (StopsPlaying view ended was before step after)
session_drained view ended r was mid queue report before after step answers printed session drained stopped =
    let served = serves_session view was mid queue report before after step answers printed in
    (plays_session view r was mid step before after served session drained, drain_stops view ended r was mid step before after served session stopped)

plays_other : {D : Type 0} (view : SoloView D) (was now : Player D) (step : Step) (before after : SinkState) → ServesFrom view was before step now after → is_session step ≡ false → PlaysFrom view was before step now after
plays_other {D} view was now step before after served other s g h =
    let v = served s g h in
    record {
      heard = v.heard;
      whole = λ _ session. let no : true ≡ false = sym session ∙ other in absurd (cc);
      ends = subst (λ (x : ReplayState). Shows view s now after x) (sym (other_is s.setup step v.heard g h.running other)) (served_shows view s now after step g v);
    }

pub plays_clock : {D : Type 0} (view : SoloView D) (was : Player D) (clock : Moment) (output : SinkState) → PlaysFrom view was output (step.Clock clock) (record was { clock = clock }) output
plays_clock view was clock output = plays_other view was (record was { clock = clock }) (step.Clock clock) output output (serves_clock view was clock output) refl

pub plays_page : {D : Type 0} (view : SoloView D) (was : Player D) (applier : ApplierView) (before after : SinkState) → applier ≡ record was.applier { moment = applier.moment; room = applier.room } → applier.moment ≡ later was.applier.moment was.clock
    → Writes before after (status_text_at applier.table applier.opening applier.records applier.moment)
    → PlaysFrom view was before step.Page (record was { applier = applier }) after
plays_page view was applier before after same moment printed =
    plays_other view was (record was { applier = applier }) step.Page before after (serves_page view was applier before after same moment printed) refl

-- ---- all steps

pub under_way : {D : Type 0} (view : SoloView D) (s : Setting) (player : Player D) (output : SinkState) (g : ReplayState) → Shows view s player output g → IsUnderWay view player output
under_way view s player output g h = record { setting = s; replayed = g; shows = h }

pub ready : {D : Type 0} (view : SoloView D) → ((queue : D) (run : Run) → view.after queue run → IsAllowed (view.limits queue) run) → (s : Setting) (player : Player D) (output : SinkState) (g : ReplayState) → Shows view s player output g → IsReady view player output
ready view allowed s player output g h =
    let quota_is : (view.limits player.queue).quota ≡ 4294967295 = ap (λ (l : Limits). l.quota) h.holds.limits in
    record {
      under_way = under_way view s player output g h;
      few = subst (λ n. n < 2 ^ 34) (sym h.queued) (queued_few (view.limits player.queue) g.run (allowed player.queue g.run h.holds.after) (omega (arith, quota_is)));
    }

pub played_none : {D : Type 0} (view : SoloView D) (setup : Setup) (player : Player D) (output : SinkState) → IsNew view setup player → PlayedTo IsWhole (Shows view (setting setup output) player output) setup []
played_none view setup player output h = record {
  done = [];
  steps_are = refl;
  whole = tt;
  ends = record {
    holds = h.holds;
    applier = record {
      table = ap (λ (v : ApplierView). v.table) h.applier;
      opening = ap (λ (v : ApplierView). v.opening) h.applier;
      limit = ap (λ (v : ApplierView). v.limit) h.applier;
      records = ap (λ (v : ApplierView). v.records) h.applier;
    };
    moment = ap (λ (v : ApplierView). v.moment) h.applier;
    clock = h.clock;
    age = h.age;
    queued = h.queued;
    printed = writes_none output;
    running = refl;
  };
}

pub next_step : (steps : List Step) (i : ℕ) (item : Step) → i < length steps → item ≡ get_or steps i item → take (i + 1) steps ≡ take i steps ++ item ∷ []
next_step steps i item inside is = take_more steps i item inside ∙ ap (λ x. take i steps ++ x ∷ []) (sym is)

-- one step more: the newest comes first
more_steps : (steps : List Step) (step : Step) (before : List Step) → before ≡ reverse steps → step ∷ before ≡ reverse (steps ++ step ∷ [])
more_steps steps step before e = ap (λ l. step ∷ l) e ∙ sym (reverse-append steps (step ∷ []))

pub played_more : {D : Type 0} (view : SoloView D) (s : Setting) (steps next : List Step) (was now : Player D) (before after : SinkState) (step : Step) → next ≡ steps ++ step ∷ [] → PlayedTo IsWhole (Shows view s was before) s.setup steps
    → PlaysFrom view was before step now after → PlayedTo IsWhole (Shows view s now after) s.setup next
played_more view s steps next was now before after step is h played =
    let p = played s (state_after s.setup h.done) h.ends in
    record {
      done = (step, p.heard) ∷ h.done;
      steps_are = more_steps steps step (steps_of h.done) h.steps_are ∙ ap reverse (sym is);
      whole = (p.whole, h.whole);
      ends = p.ends;
    }

-- nothing happens once the log is full
abbrev idle : List Step → List (Step × Heard) → List (Step × Heard)
idle [] done = done
idle (step ∷ more) done = idle more ((step, nothing_heard []) ∷ done)

idle_steps : (more : List Step) (done : List (Step × Heard)) → steps_of (idle more done) ≡ reverse more ++ steps_of done
idle_steps [] done = refl
idle_steps (step ∷ more) done =
    idle_steps more ((step, nothing_heard []) ∷ done)
    ∙ sym (append_assoc (reverse more) (step ∷ []) (steps_of done)) ∙ ap (λ l. l ++ steps_of done) (sym (reverse-append (step ∷ []) more))

stays_full : (setup : Setup) (step : Step) (heard : Heard) (g : ReplayState) → g.full ≡ true → plays setup step heard g ≡ g
stays_full setup step heard g full = ap (λ b. cond b g (cond (is_session step) (drains heard.takes (serves setup step heard g)) (serves setup step heard g))) full

idle_gateway : (setup : Setup) (more : List Step) (done : List (Step × Heard)) → (state_after setup done).full ≡ true → state_after setup (idle more done) ≡ state_after setup done
idle_gateway setup [] done full = refl
idle_gateway setup (step ∷ more) done full =
    let same : state_after setup ((step, nothing_heard []) ∷ done) ≡ state_after setup done = stays_full setup step (nothing_heard []) (state_after setup done) full in
    idle_gateway setup more ((step, nothing_heard []) ∷ done) (ap (λ (g : ReplayState). g.full) same ∙ full) ∙ same

idle_whole : (setup : Setup) (more : List Step) (done : List (Step × Heard)) → (state_after setup done).full ≡ true → IsWhole setup done → IsWhole setup (idle more done)
idle_whole setup [] done full whole = whole
idle_whole setup (step ∷ more) done full whole =
    let same : state_after setup ((step, nothing_heard []) ∷ done) ≡ state_after setup done = stays_full setup step (nothing_heard []) (state_after setup done) full in
    idle_whole setup more ((step, nothing_heard []) ∷ done) (ap (λ (g : ReplayState). g.full) same ∙ full) ((λ running _. let no : true ≡ false = sym full ∙ running in absurd (cc)), whole)

full_after : {E : Type 0} (ended : SoloView E) (s : Setting) (steps first rest : List Step) (step : Step) (kept : ApplierView) (after : SinkState) (IsEnd : ReplayState → Type 0) → first ++ step ∷ [] ++ rest ≡ steps → (h : PlayedTo IsWhole IsEnd s.setup first)
    → PlaysTo IsWholeStep (Ends ended s kept after) s.setup step (state_after s.setup h.done) → PlayedTo IsWhole (Ends ended s kept after) s.setup steps
full_after {E} ended s steps first rest step kept after IsEnd parts h p =
    let done : List (Step × Heard) = (step, p.heard) ∷ h.done in
    let all : steps_of done ≡ reverse (first ++ step ∷ []) = more_steps first step (steps_of h.done) h.steps_are in
    record {
      done = idle rest done;
      steps_are = idle_steps rest done ∙ ap (λ l. reverse rest ++ l) all ∙ sym (reverse-append (first ++ step ∷ []) rest) ∙ ap reverse parts;
      whole = idle_whole s.setup rest done p.ends.full (p.whole, h.whole);
      ends = subst (λ (x : ReplayState). Ends ended s kept after x) (sym (idle_gateway s.setup rest done p.ends.full)) p.ends;
    }

-- ---- where memory ran out

begins_whole : (limit : ℕ) (takes : List (Option Numbered)) (g : ReplayState) → Finishes limit takes g → BeginsDrain limit takes g
begins_whole limit [] g h = tt
begins_whole limit (Some item ∷ takes) g h = (h.0, h.1, begins_whole limit takes (records_item item g) h.2)
begins_whole limit (None ∷ takes) g h = h

-- what is whole is whole so far
pub whole_so_far : (setup : Setup) (done : List (Step × Heard)) → IsWhole setup done → IsWholeSoFar setup done
whole_so_far setup [] h = tt
whole_so_far setup ((step, heard) ∷ before) h =
    ((λ running session. begins_whole setup.limit heard.takes (serves setup step heard (state_after setup before)) (h.0 running session)), h.1)

part_after : {D : Type 0} (view : SoloView D) (s : Setting) (steps : List Step) (i : ℕ) (step : Step) (kept : ApplierView) (after : SinkState) (IsEnd : ReplayState → Type 0) → take (i + 1) steps ≡ take i steps ++ step ∷ [] → (h : PlayedTo IsWhole IsEnd s.setup (take i steps))
    → Stays view s kept after (state_after s.setup h.done) ⊎ PlaysTo IsBegunStep (Stays view s kept after) s.setup step (state_after s.setup h.done) → PlayedPart view s steps kept after
part_after view s steps i step kept after IsEnd is h (inl stays) = record {
  front = take i steps;
  front_begins = (drop i steps, take-append-drop i steps);
  played = record {
    done = h.done;
    steps_are = h.steps_are;
    whole = whole_so_far s.setup h.done h.whole;
    ends = stays;
  };
}
part_after view s steps i step kept after IsEnd is h (inr p) = record {
  front = take (i + 1) steps;
  front_begins = (drop (i + 1) steps, take-append-drop (i + 1) steps);
  played = record {
    done = (step, p.heard) ∷ h.done;
    steps_are = more_steps (take i steps) step (steps_of h.done) h.steps_are ∙ ap reverse (sym is);
    whole = (p.whole, h.whole);
    ends = p.ends;
  };
}

-- the replay stopped at a step, after steps of which none failed a call
pub played_stops : {D E : Type 0} (view : SoloView D) (ended : SoloView E) (stop : Stopped) (player : Player D) (base : SinkState) (steps : List Step) (i : ℕ) (step : Step) (was : Player D) (before after : SinkState) → take (i + 1) steps ≡ take i steps ++ step ∷ []
    → Fails base.tally before.tally 0 → ((setup : Setup) → IsNew view setup player → PlayedTo IsWhole (Shows view (setting setup base) was before) setup (take i steps))
    → StopsPlaying view ended was before step after stop → StopsAll view ended player base steps after stop
played_stops view ended (stopped.Full kept) player base steps i step was before after is none so_far full = λ setup new.
    let h = so_far setup new in
    full_after ended (setting setup base) steps (take i steps) (drop (i + 1) steps) step kept after (Shows view (setting setup base) was before) (ap (λ l. l ++ drop (i + 1) steps) (sym is) ∙ take-append-drop (i + 1) steps) h
    (full (setting setup base) (state_after setup h.done) h.ends)
played_stops view ended (stopped.OutOfMemory kept) player base steps i step was before after is none so_far part = λ setup new.
    let h = so_far setup new in
    part_after view (setting setup base) steps i step kept after (Shows view (setting setup base) was before) is h (part (setting setup base) (state_after setup h.done) h.ends)
played_stops view ended (stopped.Unwritten fault) player base steps i step was before after is none so_far f = write_end_on base before after fault none f
