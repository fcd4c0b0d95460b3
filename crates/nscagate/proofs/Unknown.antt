-- Words that ask for a command, where memory ran out before that was known.
use Rattle.std.proofs.Common.{◌≡◌, ℕ, List, [], Option, Some, None, refl, inl}
use Rattle.std.specs.Prelude.{Result, Err}
use Rattle.gate_core.specs.Limits.{Limits}
use Rattle.gate_core.specs.Legal.{Run}
use Rattle.gate_streams.specs.Sink.{SinkState}
use Rattle.gate_words.specs.Words.{Asked, replay, serve}
use Rattle.gate_words.specs.declared.words.Request.{Request}
use Rattle.gate_words.specs.declared.fault.WordsFault.{WordsFault}
use Rattle.gate_words.specs.declared.fault.WordsFault.TheVariants as words_fault
use Rattle.gate_replay.specs.Replay.{IsReplayRun}
use Rattle.gate_faults.specs.declared.fault.RunFault.TheVariants as run
use Rattle.gate_replay.specs.declared.fault.ReplayFault.TheVariants as replay_fault
use Rattle.gate_start.specs.declared.fault.ServeFault.TheVariants as fault
use Rattle.nscagate.specs.Program.{IsRefusal, IsServeRun}

abbrev not_asked : WordsFault → Result Request WordsFault
not_asked found = Err found

-- a replay
pub unknown_replay : (rules : Limits → Run → Type 0) (input : Option (List ℕ)) (output errors errors_after : SinkState) (status : ℕ) (found : WordsFault) (asked : Option Asked) → (not_asked found ≡ Err words_fault.BadArguments → asked ≡ None) → asked ≡ Some replay → IsRefusal found errors errors_after status → IsReplayRun rules input output output errors errors_after status
unknown_replay rules input output errors errors_after status words_fault.BadArguments asked refused is k = let e = refused refl in absurd (cc)
unknown_replay rules input output errors errors_after status words_fault.OutOfMemory asked refused is k =
    record { fault = Some (replay_fault.Run run.OutOfMemory); status_is = k.status_is; ended = inl refl; reported = k.reported }

-- the daemon
pub unknown_serve : (path : List ℕ) (input : Option (List ℕ)) (output errors errors_after : SinkState) (status : ℕ) (found : WordsFault) (asked : Option Asked) → (not_asked found ≡ Err words_fault.BadArguments → asked ≡ None) → asked ≡ Some (serve path) → IsRefusal found errors errors_after status → IsServeRun input output output errors errors_after status
unknown_serve path input output errors errors_after status words_fault.BadArguments asked refused is k = let e = refused refl in absurd (cc)
unknown_serve path input output errors errors_after status words_fault.OutOfMemory asked refused is k =
    record { reports = []; fault = Some (fault.Run run.OutOfMemory); status_is = k.status_is; ended = inl (refl, refl); middle = errors; taken = inl refl; reported = k.reported }
