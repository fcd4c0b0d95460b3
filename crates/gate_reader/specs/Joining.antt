-- Pieces of a connection that were cut between two items answer together what one piece with all of it would. Own rules.
use Rattle.std.specs.Prelude.{◌≡◌, ℕ, List, ◌++◌, Option, Some, None}
use Rattle.gate_model.specs.declared.record.Moment.{Moment}
use Rattle.gate_streams.specs.Source.{SourceState}
use Rattle.gate_streams.specs.Sink.{SinkState}
use Rattle.gate_environment.specs.Clock.{ClockState}
use Rattle.gate_reader.specs.Session.{ClientView, parties}
use Rattle.gate_reader.specs.Packets.{packets, IsPacketSession}
use Rattle.gate_reader.specs.Lines.{OperatorView, lines, IsLineSession}
use Rattle.gate_reader.specs.Pieces.{IsPiece, IsPacketPiece, IsFirstPacketPiece, IsLinePiece}
use Rattle.gate_reader.specs.declared.report.Answer.{Answer}
use Rattle.gate_reader.specs.declared.report.SessionLimits.{SessionLimits}
use Rattle.gate_reader.specs.declared.report.Stop.{Stop}
use Rattle.gate_reader.specs.declared.report.Stop.TheVariants.{End}

-- the bytes of both, one after the other, where they are known
abbrev pub bytes_of_both : Option (List ℕ) → Option (List ℕ) → Option (List ℕ)
bytes_of_both (Some first) (Some second) = Some (first ++ second)
bytes_of_both first second = None

-- a source of these bytes, where they are known; its calls are not counted
abbrev pub uncounted : Option (List ℕ) → SourceState
uncounted bytes = record { left = bytes; tally = None }

-- what a piece with packets served until its end, and then one that went on from there with what was left, is what one
-- piece serves; whatever the clock showed between them
abbrev pub ServedPacketsJoin : {S : Type 0} → ClientView S → ℕ → Type 0
ServedPacketsJoin {S} view age =
    (limits between left : SessionLimits) (old middle new : S) (readings more : List Moment)
    (first_before first_after second_before second_after : SourceState) (one two : List Answer) (stop : Stop)
    → IsPiece view (packets view limits.items age) limits old readings middle first_before first_after one End between
    → IsPiece view (packets view between.items age) between middle more new second_before second_after two stop left
    → IsPiece view (packets view limits.items age) limits old (readings ++ more) new
    (uncounted (bytes_of_both first_before.left second_before.left)) (uncounted second_after.left) (one ++ two) stop left

-- a piece with packets that stopped at its end, and one that went on from there with what was left, are one piece: with
-- the bytes, the readings and the answers of both, and the second one's stop
abbrev pub PacketPiecesJoin : {S C : Type 0} → ClientView S → (C → ClockState) → ℕ → Type 0
PacketPiecesJoin {S} {C} view state age =
    (limits between left : SessionLimits) (old middle new : S) (clock_old clock_middle clock_new : C)
    (first_before first_after second_before second_after : SourceState) (one two : List Answer) (stop : Stop)
    → (first : IsPacketPiece view limits age (parties old (state clock_old)) (parties middle (state clock_middle))
    first_before first_after one End between)
    → (second : IsPacketPiece view between age (parties middle (state clock_middle)) (parties new (state clock_new))
    second_before second_after two stop left)
    → (whole : IsPacketPiece view limits age (parties old (state clock_old)) (parties new (state clock_new))
    (uncounted (bytes_of_both first_before.left second_before.left)) (uncounted second_after.left)
    (one ++ two) stop left)
    × (whole.readings ≡ first.readings ++ second.readings)

-- a connection's first piece with packets that stopped at its end, and one that went on from there with what was left,
-- are one first piece
abbrev pub FirstPacketPieceJoins : {S C : Type 0} → ClientView S → (C → ClockState) → ℕ → Type 0
FirstPacketPieceJoins {S} {C} view state age =
    (limits between left : SessionLimits) (old middle new : S) (clock_old clock_middle clock_new : C)
    (first_before first_after second_before second_after : SourceState) (sink_before sink_after : SinkState)
    (one two : List Answer) (stop : Stop)
    → (first : IsFirstPacketPiece view limits age (parties old (state clock_old)) (parties middle (state clock_middle))
    first_before first_after sink_before sink_after one End between)
    → (second : IsPacketPiece view between age (parties middle (state clock_middle)) (parties new (state clock_new))
    second_before second_after two stop left)
    → (whole : IsFirstPacketPiece view limits age (parties old (state clock_old)) (parties new (state clock_new))
    (uncounted (bytes_of_both first_before.left second_before.left)) (uncounted second_after.left)
    sink_before sink_after (one ++ two) stop left)
    × (whole.now ≡ first.now) × (whole.readings ≡ first.readings ++ second.readings)

-- a connection's first piece with packets is a whole session of packets
abbrev pub FirstPacketPieceIsSession : {S C : Type 0} → ClientView S → (C → ClockState) → ℕ → Type 0
FirstPacketPieceIsSession {S} {C} view state age =
    (limits left : SessionLimits) (old new : S) (clock_old clock_new : C) (source_before source_after : SourceState)
    (sink_before sink_after : SinkState) (answers : List Answer) (stop : Stop)
    → IsFirstPacketPiece view limits age (parties old (state clock_old)) (parties new (state clock_new))
    source_before source_after sink_before sink_after answers stop left
    → IsPacketSession view limits age (parties old (state clock_old)) (parties new (state clock_new))
    source_before source_after sink_before sink_after answers stop

-- what a piece with lines served until its end, and then one that went on from there with what was left, is what one
-- piece serves; whatever the clock showed between them
abbrev pub ServedLinesJoin : {S : Type 0} → OperatorView S → Type 0
ServedLinesJoin {S} view =
    (limits between left : SessionLimits) (old middle new : S) (readings more : List Moment)
    (first_before first_after second_before second_after : SourceState) (one two : List Answer) (stop : Stop)
    → IsPiece view.client (lines view limits.items) limits old readings middle first_before first_after one End between
    → IsPiece view.client (lines view between.items) between middle more new second_before second_after two stop left
    → IsPiece view.client (lines view limits.items) limits old (readings ++ more) new
    (uncounted (bytes_of_both first_before.left second_before.left)) (uncounted second_after.left) (one ++ two) stop left

-- a piece with lines that stopped at its end, and one that went on from there with what was left, are one piece: with
-- the bytes, the readings, the answers and the written lines of both, and the second one's stop
abbrev pub LinePiecesJoin : {S C : Type 0} → OperatorView S → (C → ClockState) → Type 0
LinePiecesJoin {S} {C} view state =
    (limits between left : SessionLimits) (old middle new : S) (clock_old clock_middle clock_new : C)
    (first_before first_after second_before second_after : SourceState) (sink_before sink_middle sink_after : SinkState)
    (one two : List Answer) (stop : Stop)
    → (first : IsLinePiece view limits (parties old (state clock_old)) (parties middle (state clock_middle))
    first_before first_after sink_before sink_middle one End between)
    → (second : IsLinePiece view between (parties middle (state clock_middle)) (parties new (state clock_new))
    second_before second_after sink_middle sink_after two stop left)
    → (whole : IsLinePiece view limits (parties old (state clock_old)) (parties new (state clock_new))
    (uncounted (bytes_of_both first_before.left second_before.left)) (uncounted second_after.left)
    sink_before sink_after (one ++ two) stop left)
    × (whole.readings ≡ first.readings ++ second.readings)

-- a piece with lines is a whole session of lines
abbrev pub LinePieceIsSession : {S C : Type 0} → OperatorView S → (C → ClockState) → Type 0
LinePieceIsSession {S} {C} view state =
    (limits left : SessionLimits) (old new : S) (clock_old clock_new : C) (source_before source_after : SourceState)
    (sink_before sink_after : SinkState) (answers : List Answer) (stop : Stop)
    → IsLinePiece view limits (parties old (state clock_old)) (parties new (state clock_new))
    source_before source_after sink_before sink_after answers stop left
    → IsLineSession view limits (parties old (state clock_old)) (parties new (state clock_new))
    source_before source_after sink_before sink_after answers stop
