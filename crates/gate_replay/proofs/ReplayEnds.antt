-- The ends of a replay.
use Rattle.std.proofs.Common.{◌≡◌, ◌⊎◌, inl, inr, ⊎_elim, ℕ, List, Option, Some, None, Bool, true, false, refl, ◌∙◌, subst}
use Rattle.std.specs.Prelude.{Result, Ok, Err, OnOk, IfErr}
use Rattle.gate_model.specs.declared.object.ObjectLine.{ObjectLine}
use Rattle.gate_model.specs.declared.record.Record.{Record}
use Rattle.gate_model.specs.Meaning.{outcomes_of}
use Rattle.gate_core.specs.Limits.{Limits, limits_of, default_quota}
use Rattle.gate_core.specs.Legal.{Run}
use Rattle.gate_replay.specs.Ending.{with_ends}
use Rattle.gate_applier.specs.Applier.{ApplierView}
use Rattle.gate_lines.specs.LogPage.{log_text}
use Rattle.gate_streams.specs.Sink.{SinkState, Fails, Writes, Delivers, FailsOnce}
use Rattle.gate_faults.specs.declared.fault.RunFault.TheVariants as run
use Rattle.gate_replay.specs.declared.fault.ReplayFault.{ReplayFault}
use Rattle.gate_replay.specs.declared.fault.ReplayFault.TheVariants.{Run as OfRun}
use Rattle.gate_replay.specs.declared.player.Player.{Player}
use Rattle.gate_replay.specs.declared.script.Script.{Script}
use Rattle.gate_replay.specs.Replay.{printed_by}
use Rattle.gate_replay.specs.ReplayState.{ReplayState, state_after, IsWhole, IsPlayedSoFar}
use Rattle.gate_streams.specs.Fault.{fault_in}
use Rattle.gate_replay.specs.inner.Playing.{SoloView, setting, ShowsRecords, Shows, Ends, IsShown, IsEnded, PlayedTo, PlayedPart, IsWriteEnd, IsPrinted, IsPrintedSoFar, EndsPlaying}
use Rattle.gate_streams.proofs.Outputs.{fails_then, delivers_on}

page_again : (table other : List ObjectLine) (records more : List Record) → records ≡ more → table ≡ other → log_text records (outcomes_of table records) ≡ log_text more (outcomes_of other more)
page_again table other records more e f = rw (e, f) refl

-- the log page is delivered after the answers and the status pages
page_on : (script : Script) (applier : ApplierView) (g : ReplayState) (b m a : SinkState) → ShowsRecords script.setup applier g → Writes b m g.printed → Delivers m a (log_text applier.records (outcomes_of applier.table applier.records)) → Delivers b a (printed_by script g)
page_on script applier g b m a shown written page =
    delivers_on b m a g.printed _ written (subst (λ (t : List ℕ). Delivers m a t) (page_again applier.table script.setup.table applier.records g.records shown.records shown.table) page)

-- all steps were played, and what they print was delivered
whole_printed : (rules : Limits → Run → Type 0) (script : Script) (full : Bool) (applier : ApplierView) (b m a : SinkState) (IsEnd : ReplayState → Type 0) (h : PlayedTo IsWhole IsEnd script.setup script.steps.items)
    → rules (limits_of 2 default_quota script.setup.capacity) (with_ends (state_after script.setup h.done).run) → (state_after script.setup h.done).full ≡ full
    → ShowsRecords script.setup applier (state_after script.setup h.done) → Writes b m (state_after script.setup h.done).printed → Delivers m a (log_text applier.records (outcomes_of applier.table applier.records)) → IsPrinted rules script b a full
whole_printed rules script full applier b m a IsEnd h kept full_is shown written page = record {
  replayed = state_after script.setup h.done;
  played = record { done = h.done; steps_are = h.steps_are; whole = h.whole; is = refl; kept = kept };
  full_is = full_is;
  printed = page_on script applier (state_after script.setup h.done) b m a shown written page;
}

-- the first steps were played
part_played : {D : Type 0} (view : SoloView D) (script : Script) (kept : ApplierView) (b m : SinkState) (h : PlayedPart view (setting script.setup b) script.steps.items kept m) → IsPlayedSoFar (IsShown view) script (state_after script.setup h.played.done)
part_played view script kept b m h = record {
  steps = h.front;
  steps_begin = h.front_begins;
  done = h.played.done;
  steps_are = h.played.steps_are;
  whole = h.played.whole;
  is = refl;
  kept = h.played.ends.stood;
}

-- ---- failed calls

-- the log page wasn't delivered
unlogged : (rules so_far : Limits → Run → Type 0) (script : Script) (b m a : SinkState) (fault : ReplayFault) → Fails b.tally m.tally 0 → IsWriteEnd m a fault → EndsPlaying rules so_far script b a (Some fault)
unlogged rules so_far script b m a (OfRun run.LogFull) w k = absurd k
unlogged rules so_far script b m a (OfRun run.OutOfMemory) w k = inr (inl (fails_then b.tally m.tally a.tally 1 w k))
unlogged rules so_far script b m a (OfRun run.WriteFault) w k = fails_then b.tally m.tally a.tally 1 w k
unlogged rules so_far script b m a _ w k = k

-- ---- the log page

-- the log page ends the replay
pub log_ends : {D E : Type 0} (view : SoloView D) (ended : SoloView E) (r : Result (Unit {0}) ReplayFault) (script : Script) (player : Player D) (applier : ApplierView) (b m a : SinkState) → applier ≡ player.applier → IsEnded view ended player.queue
    → PlayedTo IsWhole (Shows view (setting script.setup b) player m) script.setup script.steps.items
    → OnOk r (Delivers m a (log_text applier.records (outcomes_of applier.table applier.records))) → IfErr r (IsWriteEnd m a) → EndsPlaying (IsShown ended) (IsShown view) script b a (fault_in r)
log_ends view ended (Ok x) script player applier b m a is e h ok err =
    whole_printed (IsShown ended) script false player.applier b m a (Shows view (setting script.setup b) player m) h
    (record { queue = e.rest; after = e.after (state_after script.setup h.done).run h.ends.holds.after; limits_are = e.limits_are ∙ h.ends.holds.limits })
    h.ends.running h.ends.applier h.ends.printed (subst (λ (v : ApplierView). Delivers m a (log_text v.records (outcomes_of v.table v.records))) is ok)
log_ends view ended (Err fault) script player applier b m a is e h ok err =
    unlogged (IsShown ended) (IsShown view) script b m a fault h.ends.printed.none_failed err

fault_is : (rules so_far : Limits → Run → Type 0) (result : Result (Unit {0}) ReplayFault) (fault : ReplayFault) (script : Script) (b a : SinkState) → result ≡ Err fault → EndsPlaying rules so_far script b a (Some fault) → EndsPlaying rules so_far script b a (fault_in result)
fault_is rules so_far result fault script b a is ends = rw is ends

-- the log page after a full log ends the replay
pub full_ends : {D E : Type 0} (view : SoloView D) (ended : SoloView E) (printed result : Result (Unit {0}) ReplayFault) (script : Script) (kept : ApplierView) (b m a : SinkState) → PlayedTo IsWhole (Ends ended (setting script.setup b) kept m) script.setup script.steps.items
    → OnOk printed (Delivers m a (log_text kept.records (outcomes_of kept.table kept.records))) → IfErr printed (IsWriteEnd m a)
    → OnOk printed (result ≡ Err (OfRun run.LogFull)) → IfErr printed (λ other. result ≡ Err other) → EndsPlaying (IsShown ended) (IsShown view) script b a (fault_in result)
full_ends view ended (Ok done) result script kept b m a h ok err is other =
    fault_is (IsShown ended) (IsShown view) result (OfRun run.LogFull) script b a is
    (whole_printed (IsShown ended) script true kept b m a (Ends ended (setting script.setup b) kept m) h h.ends.kept h.ends.full h.ends.shown h.ends.printed ok)
full_ends view ended (Err fault) result script kept b m a h ok err is other =
    fault_is (IsShown ended) (IsShown view) result fault script b a other
    (unlogged (IsShown ended) (IsShown view) script b m a fault h.ends.printed.none_failed err)

-- the log page after memory ran out ends the replay
pub memory_ends : {D E : Type 0} (view : SoloView D) (ended : SoloView E) (printed result : Result (Unit {0}) ReplayFault) (script : Script) (kept : ApplierView) (b m a : SinkState) → PlayedPart view (setting script.setup b) script.steps.items kept m
    → OnOk printed (Delivers m a (log_text kept.records (outcomes_of kept.table kept.records))) → IfErr printed (IsWriteEnd m a)
    → OnOk printed (result ≡ Err (OfRun run.OutOfMemory)) → IfErr printed (λ other. result ≡ Err other) → EndsPlaying (IsShown ended) (IsShown view) script b a (fault_in result)
memory_ends view ended (Ok done) result script kept b m a h ok err is other =
    let g = state_after script.setup h.played.done in
    let ends = h.played.ends in
    fault_is (IsShown ended) (IsShown view) result (OfRun run.OutOfMemory) script b a is
    (inr (inr (record { replayed = g; played = part_played view script kept b m h; room = ends.room; printed = page_on script kept g b m a ends.shown ends.printed ok })))
memory_ends view ended (Err fault) result script kept b m a h ok err is other =
    fault_is (IsShown ended) (IsShown view) result fault script b a other
    (unlogged (IsShown ended) (IsShown view) script b m a fault h.played.ends.printed.none_failed err)

-- ---- the rules that the queue kept

kept_too : (rules others : Limits → Run → Type 0) (script : Script) (b a : SinkState) (full : Bool) → ((limits : Limits) (run : Run) → rules limits run → others limits run) → IsPrinted rules script b a full → IsPrinted others script b a full
kept_too rules others script b a full weaker h = record {
  replayed = h.replayed;
  played = record { done = h.played.done; steps_are = h.played.steps_are; whole = h.played.whole; is = h.played.is; kept = weaker _ (with_ends h.replayed.run) h.played.kept };
  full_is = h.full_is;
  printed = h.printed;
}

kept_so_far : (rules others : Limits → Run → Type 0) (script : Script) (b a : SinkState) → ((limits : Limits) (run : Run) → rules limits run → others limits run) → IsPrintedSoFar rules script b a → IsPrintedSoFar others script b a
kept_so_far rules others script b a weaker h = record {
  replayed = h.replayed;
  played = record {
    steps = h.played.steps;
    steps_begin = h.played.steps_begin;
    done = h.played.done;
    steps_are = h.played.steps_are;
    whole = h.played.whole;
    is = h.played.is;
    kept = weaker _ h.replayed.run h.played.kept;
  };
  room = h.room;
  printed = h.printed;
}

-- a queue that keeps some rules keeps those that follow from them
pub ends_too : (rules so_far others : Limits → Run → Type 0) (script : Script) (b a : SinkState) (end : Option ReplayFault) → ((limits : Limits) (run : Run) → rules limits run → others limits run) → ((limits : Limits) (run : Run) → so_far limits run → others limits run)
    → EndsPlaying rules so_far script b a end → EndsPlaying others others script b a end
ends_too rules so_far others script b a None weaker weaker_too h = kept_too rules others script b a false weaker h
ends_too rules so_far others script b a (Some (OfRun run.LogFull)) weaker weaker_too h = kept_too rules others script b a true weaker h
ends_too rules so_far others script b a (Some (OfRun run.OutOfMemory)) weaker weaker_too h =
    ⊎_elim (λ (same : a ≡ b). inl same)
    (λ (rest : FailsOnce b a ⊎ IsPrintedSoFar so_far script b a).
    ⊎_elim (λ (f : FailsOnce b a). inr (inl f)) (λ (p : IsPrintedSoFar so_far script b a). inr (inr (kept_so_far so_far others script b a weaker_too p))) rest)
    h
ends_too rules so_far others script b a _ weaker weaker_too h = h
