-- What a session leaves of its limits.
use Rattle.std.proofs.Common.{◌≡◌, ℕ, ◌+◌, ◌≤◌, List, length, sym, ap, ◌∙◌, arith}
use Rattle.gate_streams.specs.Source.{SourceState}
use Rattle.gate_reader.specs.Session.{ClientView, Parties, SessionKind}
use Rattle.gate_reader.specs.Pieces.{counted_reads, IsPiece}
use Rattle.gate_reader.specs.declared.report.Answer.{Answer}
use Rattle.gate_reader.specs.declared.report.SessionLimits.{SessionLimits}
use Rattle.gate_reader.specs.declared.report.Stop.{Stop}
use Rattle.gate_reader.specs.declared.report.Stop.TheVariants.{End, Truncated, BadPacket, ReadFault, WriteFault, TooMany, OutOfMemory, Shutdown}
use Rattle.gate_reader.specs.inner.Progress.{Runs}

counted_at_most : (stop : Stop) (calls : ℕ) → counted_reads stop calls ≤ calls
counted_at_most End calls = omega arith
counted_at_most (Truncated n) calls = omega arith
counted_at_most ReadFault calls = omega arith
counted_at_most (BadPacket f) calls = omega arith
counted_at_most WriteFault calls = omega arith
counted_at_most TooMany calls = omega arith
counted_at_most OutOfMemory calls = omega arith
counted_at_most Shutdown calls = omega arith

pub reads_within : {S : Type 0} (view : ClientView S) (kind : SessionKind S) (limits : SessionLimits) (before after : Parties S) (source_before source_after : SourceState) (answers : List Answer) (stop : Stop) (reads : ℕ)
    → Runs view kind limits before after source_before source_after answers stop reads → reads ≤ limits.reads
reads_within view kind limits before after source_before source_after answers stop reads runs =
    let calls = runs.session.calls in
    let few = counted_at_most stop calls in
    let most = runs.session.within_reads in
    let made = runs.counted in
    omega (arith, few, most, made)

pub piece_of : {S : Type 0} (view : ClientView S) (kind : SessionKind S) (limits left : SessionLimits) (before after : Parties S) (source_before source_after : SourceState) (answers : List Answer) (stop : Stop) (reads : ℕ)
    → (runs : Runs view kind limits before after source_before source_after answers stop reads)
    → left.items + length answers ≡ limits.items → left.reads + reads ≡ limits.reads
    → IsPiece view kind limits before.client runs.readings after.client source_before source_after answers stop left
piece_of view kind limits left before after source_before source_after answers stop reads runs items_left reads_left = record {
  session = runs.session;
  is_left = record {
    items = items_left;
    reads = ap (λ n. left.reads + n) (sym runs.counted) ∙ reads_left;
  };
}
