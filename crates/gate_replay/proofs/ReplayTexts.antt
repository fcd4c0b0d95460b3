-- What was read of the input, and how a replay of it ends.
use Rattle.std.proofs.Common.{◌≡◌, ◌⊎◌, inl, inr, ⊎_elim, ℕ, ◌<◌, ◌≤◌, ◌++◌, List, [], length, take, Option, Some, None, ap, ◌∙◌, arith, take_all}
use Rattle.std.specs.Prelude.{IfSome, option_map}
use Rattle.std.proofs.lemmas.List.{length-take}
use Rattle.gate_core.specs.Limits.{Limits}
use Rattle.gate_core.specs.Legal.{Run}
use Rattle.gate_faults.specs.declared.fault.RunFault.TheVariants as run
use Rattle.gate_replay.specs.declared.fault.ReplayFault.{ReplayFault}
use Rattle.gate_replay.specs.declared.fault.ReplayFault.TheVariants.{Run as OfRun}
use Rattle.gate_replay.specs.declared.script.Script.{Script}
use Rattle.gate_replay.specs.Script.{parsed_script_lines, IsScript}
use Rattle.gate_streams.specs.Sink.{SinkState, FailsOnce}
use Rattle.gate_replay.specs.Replay.{IsWholeInput, EndsWith}
use Rattle.gate_replay.specs.inner.Playing.{IsPrintedSoFar, EndsPlaying}

-- what was read is all, where it is less than the most
pub whole_text : (known : Option (List ℕ)) (front items : List ℕ) (most : ℕ) → front ≡ [] → IfSome (option_map (take most) known) (λ xs. items ≡ front ++ xs) → length items < most → IsWholeInput known items
whole_text None front items most e h few = tt
whole_text (Some bytes) front items most e h few =
    let k : items ≡ take most bytes = h ∙ ap (λ f. f ++ take most bytes) e in
    let short : length bytes ≤ most = omega (arith, ap (λ (t : List ℕ). length t) k, length-take most bytes) in
    k ∙ take_all most bytes short

-- an input that was read and is a script
pub played_input : (rules : Limits → Run → Type 0) (input : Option (List ℕ)) (text : List ℕ) (played : Script) (fault : Option ReplayFault) (b a : SinkState) → IsWholeInput input text → length text ≤ 1048576 → IsScript (parsed_script_lines text) played → EndsPlaying rules rules played b a fault → EndsWith rules input b a fault
played_input rules input text played None b a whole short parsed h = record { text = text; whole = whole; short = short; script = played; parsed = parsed; replayed = h.replayed; played = h.played; full_is = h.full_is; printed = h.printed }
played_input rules input text played (Some (OfRun run.LogFull)) b a whole short parsed h = record { text = text; whole = whole; short = short; script = played; parsed = parsed; replayed = h.replayed; played = h.played; full_is = h.full_is; printed = h.printed }
played_input rules input text played (Some (OfRun run.OutOfMemory)) b a whole short parsed h =
    ⊎_elim (λ (same : a ≡ b). inl same)
    (λ (rest : FailsOnce b a ⊎ IsPrintedSoFar rules played b a).
    ⊎_elim (λ (f : FailsOnce b a). inr (inl f))
    (λ (p : IsPrintedSoFar rules played b a). inr (inr (record { text = text; whole = whole; short = short; script = played; parsed = parsed; replayed = p.replayed; played = p.played; room = p.room; printed = p.printed })))
    rest)
    h
played_input rules input text played (Some (OfRun run.WriteFault)) b a whole short parsed h = h
played_input rules input text played _ b a whole short parsed h = absurd h
