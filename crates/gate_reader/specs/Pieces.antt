-- Sessions of pieces: what a connection sends may be served in pieces, one after the other, beside those of other
-- connections. What is left of a connection's limits after a piece is what its next piece may do. Own rules.
use Rattle.std.specs.Prelude.{◌≡◌, ℕ, ◌+◌, ◌-◌, ◌⊎◌, List, ◌∷◌, length}
use Rattle.gate_model.specs.declared.record.Moment.{Moment}
use Rattle.gate_environment.specs.Clock.{ShowsEach}
use Rattle.gate_streams.specs.Source.{SourceState}
use Rattle.gate_streams.specs.Sink.{SinkState, Delivers}
use Rattle.gate_reader.specs.Session.{ClientView, Parties, SessionKind, IsSession}
use Rattle.gate_reader.specs.Packets.{greeting, packets, IsUngreeted}
use Rattle.gate_reader.specs.Lines.{OperatorView, lines, Answered}
use Rattle.gate_reader.specs.declared.report.Answer.{Answer}
use Rattle.gate_reader.specs.declared.report.SessionLimits.{SessionLimits}
use Rattle.gate_reader.specs.declared.report.Stop.{Stop}
use Rattle.gate_reader.specs.declared.report.Stop.TheVariants.{End, Truncated}

-- of so many reads of a session that stopped so, those that count: the one that found the end gave nothing, so that it is
-- the same where a stream is served whole and where it is served in pieces
abbrev pub counted_reads : Stop → ℕ → ℕ
counted_reads End calls = calls - 1
counted_reads (Truncated count) calls = calls - 1
counted_reads stop calls = calls

-- what is left of the limits of a session that made so many reads, answered so, and stopped so
pub record IsLeft (limits : SessionLimits) (calls : ℕ) (answers : List Answer) (stop : Stop) (left : SessionLimits)
    : Type 0 where
  pub items : left.items + length answers ≡ limits.items
  pub reads : left.reads + counted_reads stop calls ≡ limits.reads

-- a session of one piece, and what it leaves of its limits
pub record IsPiece {S : Type 0} (view : ClientView S) (kind : SessionKind S) (limits : SessionLimits) (old : S)
    (readings : List Moment) (new : S) (source_before source_after : SourceState) (answers : List Answer) (stop : Stop)
    (left : SessionLimits) : Type 0 where
  pub session : IsSession view kind limits old readings new source_before source_after answers stop
  pub is_left : IsLeft limits session.calls answers stop left

-- a piece with packets, after the greeting
pub record IsPacketPiece {S : Type 0} (view : ClientView S) (limits : SessionLimits) (age : ℕ)
    (before after : Parties S) (source_before source_after : SourceState) (answers : List Answer) (stop : Stop)
    (left : SessionLimits) : Type 0 where
  pub readings : List Moment
  pub clock : ShowsEach before.clock after.clock readings
  pub served : IsPiece view (packets view limits.items age) limits before.client readings after.client
      source_before source_after answers stop left

-- the greeting alone was written, and a piece with packets was then served
pub record IsGreetedPiece {S : Type 0} (view : ClientView S) (limits : SessionLimits) (age : ℕ) (now : Moment) (old : S)
    (readings : List Moment) (new : S) (source_before source_after : SourceState) (sink_before sink_after : SinkState)
    (answers : List Answer) (stop : Stop) (left : SessionLimits) : Type 0 where
  pub written : Delivers sink_before sink_after (greeting now)
  pub served : IsPiece view (packets view limits.items age) limits old readings new
      source_before source_after answers stop left

-- no greeting was written: nothing else was done, and all is left
pub record IsUngreetedPiece {S : Type 0} (limits : SessionLimits) (old : S) (readings : List Moment) (new : S)
    (source_before source_after : SourceState) (sink_before sink_after : SinkState) (answers : List Answer)
    (stop : Stop) (left : SessionLimits) : Type 0 where
  pub ungreeted : IsUngreeted old readings new source_before source_after sink_before sink_after answers stop
  pub all_left : left ≡ limits

-- the first piece of an agent's connection: its greeting takes the first reading, and where it can't be written nothing
-- else is done
pub record IsFirstPacketPiece {S : Type 0} (view : ClientView S) (limits : SessionLimits) (age : ℕ)
    (before after : Parties S) (source_before source_after : SourceState) (sink_before sink_after : SinkState)
    (answers : List Answer) (stop : Stop) (left : SessionLimits) : Type 0 where
  pub now : Moment
  pub readings : List Moment
  pub clock : ShowsEach before.clock after.clock (now ∷ readings)
  pub outcome :
      IsGreetedPiece view limits age now before.client readings after.client
      source_before source_after sink_before sink_after answers stop left
      ⊎ IsUngreetedPiece limits before.client readings after.client
      source_before source_after sink_before sink_after answers stop left

-- a piece with lines, each answered by one line
pub record IsLinePiece {S : Type 0} (view : OperatorView S) (limits : SessionLimits) (before after : Parties S)
    (source_before source_after : SourceState) (sink_before sink_after : SinkState) (answers : List Answer)
    (stop : Stop) (left : SessionLimits) : Type 0 where
  pub readings : List Moment
  pub clock : ShowsEach before.clock after.clock readings
  pub served : IsPiece view.client (lines view limits.items) limits before.client readings after.client
      source_before source_after answers stop left
  pub written : Answered stop answers sink_before sink_after
