-- Only proofs and private functions use this: what a session of a piece is, and what it adds to what is queued for its
-- client.
use Rattle.std.specs.Prelude.{◌≡◌, ℕ, List, ◌++◌, length, Bool, true, false}
use Rattle.gate_model.specs.declared.submission.Numbered.{Numbered}
use Rattle.gate_environment.specs.declared.connections.PieceEnd.{PieceEnd}
use Rattle.gate_environment.specs.declared.connections.PieceEnd.TheVariants.{GoesOn, Over}
use Rattle.gate_streams.specs.Source.{SourceState}
use Rattle.gate_streams.specs.Sink.{SinkState}
use Rattle.gate_reader.specs.Session.{ClientView, Parties}
use Rattle.gate_reader.specs.Pieces.{IsPacketPiece, IsFirstPacketPiece}
use Rattle.gate_reader.specs.declared.report.Answer.{Answer}
use Rattle.gate_reader.specs.declared.report.Answer.TheVariants.{Queued}
use Rattle.gate_reader.specs.declared.report.SessionLimits.{SessionLimits}
use Rattle.gate_reader.specs.declared.report.Stop.{Stop}
use Rattle.gate_reader.specs.declared.report.Stop.TheVariants.{End}
use Rattle.gate_worker.specs.Numbers.{queued_numbers, item_numbers, numbers_after}

-- a piece with packets: the first of its connection or a later one
abbrev pub IsPacketPieceBy : {S : Type 0} → Bool → ClientView S → SessionLimits → ℕ → Parties S → Parties S
    → SourceState → SourceState → SinkState → SinkState → List Answer → Stop → SessionLimits → Type 0
IsPacketPieceBy true view limits age before after source_before source_after sink_before sink_after answers stop left =
    IsFirstPacketPiece view limits age before after source_before source_after sink_before sink_after answers stop left
IsPacketPieceBy false view limits age before after source_before source_after sink_before sink_after answers stop left =
    IsPacketPiece view limits age before after source_before source_after answers stop left

-- its connection goes on where the piece was served to its end, and is over after each other stop
abbrev pub end_of_piece : Stop → Bool → PieceEnd
end_of_piece End queued = GoesOn queued
end_of_piece stop queued = Over

-- the answer is Queued
abbrev pub is_queued : Answer → Bool
is_queued (Queued number) = true
is_queued answer = false

-- more items were queued: their numbers are those that were answered with Queued, and go on from the old ones
abbrev pub Extends : List Numbered → List Numbered → List Answer → Type 0
Extends old new answers =
    (more : List Numbered) × (new ≡ old ++ more)
    × (item_numbers more ≡ queued_numbers answers)
    × (item_numbers more ≡ numbers_after (length old) (length more))
