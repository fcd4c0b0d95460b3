-- Pieces with packets and pieces with lines, one after the other.
use Rattle.std.proofs.Common.{◌≡◌, ℕ, ◌+◌, List, ◌∷◌, ◌++◌, length, length-append, refl, inl, inr, arith}
use Rattle.gate_streams.specs.Sink.{SinkState}
use Rattle.gate_packet.specs.Stream.{Cuts, IsRest}
use Rattle.gate_reader.specs.Report.{AreOpen}
use Rattle.gate_environment.specs.Clock.{ClockState}
use Rattle.gate_reader.specs.Session.{ClientView, parties}
use Rattle.gate_reader.specs.Packets.{HandlesBlock, StopsAtBlock, packets}
use Rattle.gate_reader.specs.Lines.{HasNoBreak, CutsLines, OperatorView, HandlesLine, StopsAtLine, WritesAnswers, Answered, lines}
use Rattle.gate_reader.specs.Joining.{ServedPacketsJoin, ServedLinesJoin, PacketPiecesJoin, FirstPacketPieceJoins, FirstPacketPieceIsSession, LinePiecesJoin, LinePieceIsSession}
use Rattle.gate_reader.specs.declared.report.Answer.{Answer}
use Rattle.gate_reader.specs.declared.report.Stop.{Stop}
use Rattle.gate_reader.specs.declared.report.Stop.TheVariants.{End, Truncated, BadPacket, ReadFault, WriteFault, TooMany, OutOfMemory, Shutdown}
use Rattle.gate_environment.proofs.Readings.{shows_append}
use Rattle.gate_reader.proofs.Blocks.{packet_laws}
use Rattle.gate_reader.proofs.LineCuts.{line_laws}
use Rattle.gate_reader.proofs.LineSteps.{may_later}
use Rattle.gate_reader.proofs.LineProgress.{writes_append, writes_fail}
use Rattle.gate_reader.proofs.PacketSessions.{session_of_first}
use Rattle.gate_reader.proofs.Joins.{open_append, close_later, open_before_last_later, StopsLater, pieces_join}

-- ---- packets

block_stops_later : {S : Type 0} (view : ClientView S) (most fewer age : ℕ) (one two : List Answer) → AreOpen one → fewer + length one ≡ most → StopsLater (packets view most age) (packets view fewer age) one two
block_stops_later view most fewer age one two o all End rest answered last new s = absurd s
block_stops_later view most fewer age one two o all (Truncated n) rest answered last new s = absurd s
block_stops_later view most fewer age one two o all ReadFault rest answered last new s = absurd s
block_stops_later view most fewer age one two o all WriteFault rest answered last new s = absurd s
block_stops_later view most fewer age one two o all TooMany rest answered last new s =
    let full = s.2 in (open_append one two o s.0, s.1, omega (arith, length-append one two, all, full), s.3)
block_stops_later view most fewer age one two o all OutOfMemory rest answered last new s =
    let few = s.2 in (open_append one two o s.0, s.1, omega (arith, length-append one two, all, few), s.3)
block_stops_later view most fewer age one two o all (BadPacket f) rest answered last new s =
    let few = s.2 in (open_append one two o s.0, s.1, omega (arith, length-append one two, all, few), s.3, s.4)
block_stops_later view most fewer age one two o all Shutdown rest answered last new s = (close_later one two o s.0, s.1)

pub served_packets_join : {S : Type 0} (view : ClientView S) (age : ℕ) → ServedPacketsJoin view age
served_packets_join view age limits between left old middle new readings more first_before first_after second_before second_after one two stop first second =
    pieces_join view Cuts IsRest (HandlesBlock view age) (StopsAtBlock limits.items age) (StopsAtBlock between.items age)
    limits between left old middle new readings more first_before first_after second_before second_after one two stop
    (packet_laws view limits.items age) (block_stops_later view limits.items between.items age one two) first second

pub packet_pieces_join : {S C : Type 0} (view : ClientView S) (state : C → ClockState) (age : ℕ) → PacketPiecesJoin view state age
packet_pieces_join view state age limits between left old middle new clock_old clock_middle clock_new first_before first_after second_before second_after one two stop first second = (
  record {
    readings = first.readings ++ second.readings;
    clock = shows_append (state clock_old) (state clock_middle) (state clock_new) first.readings second.readings first.clock second.clock;
    served = served_packets_join view age limits between left old middle new first.readings second.readings first_before first_after second_before second_after one two stop first.served second.served;
  },
  refl,
)

end_is_no_fault : End ≡ WriteFault → ⊥
end_is_no_fault e = absurd (cc)

pub first_packet_piece_joins : {S C : Type 0} (view : ClientView S) (state : C → ClockState) (age : ℕ) → FirstPacketPieceJoins view state age
first_packet_piece_joins view state age limits between left old middle new clock_old clock_middle clock_new first_before first_after second_before second_after sink_before sink_after one two stop first second = (
  record {
    now = first.now;
    readings = first.readings ++ second.readings;
    clock = shows_append (state clock_old) (state clock_middle) (state clock_new) (first.now ∷ first.readings) second.readings first.clock second.clock;
    outcome = elim first.outcome [
      | inl piece ↦ inl (record {
        written = piece.written;
        served = served_packets_join view age limits between left old middle new first.readings second.readings first_before first_after second_before second_after one two stop piece.served second.served;
      })
      | inr none ↦ absurd (end_is_no_fault none.ungreeted.stopped)
    ];
  },
  refl,
  refl,
)

pub first_packet_piece_is_session : {S C : Type 0} (view : ClientView S) (state : C → ClockState) (age : ℕ) → FirstPacketPieceIsSession view state age
first_packet_piece_is_session view state age limits left old new clock_old clock_new source_before source_after sink_before sink_after answers stop first =
    session_of_first view age limits left (parties old (state clock_old)) (parties new (state clock_new)) source_before source_after sink_before sink_after answers stop first

-- ---- lines

line_stops_later : {S : Type 0} (view : OperatorView S) (most fewer : ℕ) (one two : List Answer) → AreOpen one → fewer + length one ≡ most → StopsLater (lines view most) (lines view fewer) one two
line_stops_later view most fewer one two o all End rest answered last new s = absurd s
line_stops_later view most fewer one two o all (Truncated n) rest answered last new s = absurd s
line_stops_later view most fewer one two o all ReadFault rest answered last new s = absurd s
line_stops_later view most fewer one two o all (BadPacket f) rest answered last new s = absurd s
line_stops_later view most fewer one two o all WriteFault rest answered last new s = (open_before_last_later one two o s.0, s.1)
line_stops_later view most fewer one two o all TooMany rest answered last new s =
    let full = s.2 in (open_append one two o s.0, s.1, omega (arith, length-append one two, all, full), s.3)
line_stops_later view most fewer one two o all OutOfMemory rest answered last new s =
    let out = s.1 in
    let few = s.2 in (
      open_append one two o s.0,
      record {
        line = out.line;
        more = out.more;
        begins = out.begins;
        ran_out = elim out.ran_out [
          | inl stays ↦ inl (stays.0, may_later one two out.line stays.1)
          | inr closes ↦ inr closes
        ];
      },
      omega (arith, length-append one two, all, few),
    )
line_stops_later view most fewer one two o all Shutdown rest answered last new s = (close_later one two o s.0, s.1)

answered_later : (stop : Stop) (one two : List Answer) (a m b : SinkState) → WritesAnswers a m one → Answered stop two m b → Answered stop (one ++ two) a b
answered_later WriteFault one two a m b w f = writes_fail a m b one two w f
answered_later End one two a m b w v = writes_append a m b one two w v
answered_later (Truncated n) one two a m b w v = writes_append a m b one two w v
answered_later (BadPacket f) one two a m b w v = writes_append a m b one two w v
answered_later ReadFault one two a m b w v = writes_append a m b one two w v
answered_later TooMany one two a m b w v = writes_append a m b one two w v
answered_later OutOfMemory one two a m b w v = writes_append a m b one two w v
answered_later Shutdown one two a m b w v = writes_append a m b one two w v

pub served_lines_join : {S : Type 0} (view : OperatorView S) → ServedLinesJoin view
served_lines_join view limits between left old middle new readings more first_before first_after second_before second_after one two stop first second =
    pieces_join view.client CutsLines HasNoBreak (HandlesLine view) (StopsAtLine view limits.items) (StopsAtLine view between.items)
    limits between left old middle new readings more first_before first_after second_before second_after one two stop
    (line_laws view limits.items) (line_stops_later view limits.items between.items one two) first second

pub line_pieces_join : {S C : Type 0} (view : OperatorView S) (state : C → ClockState) → LinePiecesJoin view state
line_pieces_join view state limits between left old middle new clock_old clock_middle clock_new first_before first_after second_before second_after sink_before sink_middle sink_after one two stop first second = (
  record {
    readings = first.readings ++ second.readings;
    clock = shows_append (state clock_old) (state clock_middle) (state clock_new) first.readings second.readings first.clock second.clock;
    served = served_lines_join view limits between left old middle new first.readings second.readings first_before first_after second_before second_after one two stop first.served second.served;
    written = answered_later stop one two sink_before sink_middle sink_after first.written second.written;
  },
  refl,
)

pub line_piece_is_session : {S C : Type 0} (view : OperatorView S) (state : C → ClockState) → LinePieceIsSession view state
line_piece_is_session view state limits left old new clock_old clock_new source_before source_after sink_before sink_after answers stop piece = record {
  readings = piece.readings;
  clock = piece.clock;
  served = piece.served.session;
  written = piece.written;
}
