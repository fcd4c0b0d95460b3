-- What a worker does: `IsWork`, pieces of connections one after the other, each a session as gate_reader defines it. Own
-- rules.
use Rattle.std.specs.Prelude.{◌≡◌, ◌≢◌, ◌⊎◌, ◌==◌, if◌then◌else◌, ◌+◌, ℕ, List, [], ◌∷◌, ◌++◌, map, flat_map, filter, not, ◌||◌, Bool, true, false, Option, Some, None, IfSome, IsSome, ⊤}
use Rattle.std.specs.List.{AllByRecursion, list_any}
use Rattle.gate_model.specs.declared.record.Moment.{Moment}
use Rattle.gate_queue.specs.Client.{ClientState, client_state}
use Rattle.gate_queue.specs.GateClient.{StandsFor, IsSameClient}
use Rattle.gate_queue.specs.GateOperator.{Closes}
use Rattle.gate_environment.specs.Clock.{clock_within}
use Rattle.gate_streams.specs.Source.{Tally, SourceState}
use Rattle.gate_streams.specs.Sink.{SinkState}
use Rattle.gate_reader.specs.Report.{is_open, AreOpen}
use Rattle.gate_reader.specs.Session.{ClientView, parties, Handled, SessionKind, LeadsTo, bytes_of, answers_of, queued_among}
use Rattle.gate_reader.specs.Packets.{packets}
use Rattle.gate_reader.specs.Lines.{OperatorView, lines}
use Rattle.gate_reader.specs.Pieces.{IsPacketPiece, IsFirstPacketPiece, IsLinePiece}
use Rattle.gate_reader.specs.declared.report.Answer.{Answer}
use Rattle.gate_reader.specs.declared.report.Answer.TheVariants.{Queued, Closing, Down}
use Rattle.gate_reader.specs.declared.report.Report.{Report}
use Rattle.gate_reader.specs.declared.report.SessionLimits.{SessionLimits}
use Rattle.gate_reader.specs.declared.report.Stop.TheVariants.{Shutdown}
use Rattle.gate_environment.specs.Streams.{SendFirst, AreSent}
use Rattle.gate_worker.specs.declared.limits.WorkerLimits.{WorkerLimits}
use Rattle.gate_worker.specs.Stops.{StopsAt}
use Rattle.gate_worker.specs.declared.worker.Cause.{Cause}
use Rattle.gate_worker.specs.declared.worker.Cause.TheVariants.{NoMoreConnections}

-- ---- one session

-- a client of a gate, as a session of packets sees the one with this number
abbrev pub client_of : ℕ → ClientView ClientState
client_of number = record {
  stands = StandsFor;
  knows = λ client. client.known_close;
  answers = λ old body answer new. Unit {0};
  number = number;
}

-- a client of a gate that may close it, as a session of lines sees the one with this number
abbrev pub operator_of : ℕ → OperatorView ClientState
operator_of number = record { client = client_of number; closes = Closes }

-- the kind of session of a client with this number, these limits and this greatest age: lines if it is an operator's, and
-- else packets
abbrev pub kind_of : Bool → SessionLimits → ℕ → ℕ → SessionKind ClientState
kind_of true session age number = lines (operator_of number) session.items
kind_of false session age number = packets (client_of number) session.items age

-- items stand at the front of what was sent, where that is known; the client handled them in order; these are their
-- answers; and what is new in its queue is what they name, each with its body
pub record Means (kind : SessionKind ClientState) (old : ClientState) (sent : Option (List ℕ)) (items : List Handled)
    (answers : List Answer) (new : ClientState) : Type 0 where
  pub answered : ClientState
  pub front : IfSome sent (λ stream. (left : List ℕ) × kind.cuts stream (bytes_of items) left)
  pub handled : LeadsTo kind.handles old items answered
  pub listed : answers ≡ answers_of items
  pub queued : new.queued ≡ old.queued ++ queued_among old.number items

-- a piece of a connection that was served: at which place, whether it was the first of its connection, what it sent, where
-- that is known, its items, its report, and what it left of the limits of its connection
pub record ServedPiece : Type 0 where
  pub place : ℕ
  pub is_first : Bool
  pub sent : Option (List ℕ)
  pub items : List Handled
  pub report : Report
  pub left : SessionLimits

abbrev pub served_piece : ℕ → Bool → Option (List ℕ) → List Handled → Report → SessionLimits → ServedPiece
served_piece place is_first sent items report left = record {
  place = place;
  is_first = is_first;
  sent = sent;
  items = items;
  report = report;
  left = left;
}

-- a session of such a piece, with these limits, by a clock that may show these moments: lines if it is an operator's, and
-- else packets, before which an agent is greeted in its first piece
abbrev pub IsSessionBy : Bool → Bool → SessionLimits → ℕ → (Moment → Type 0) → ClientState → ClientState → SourceState
    → SourceState → SinkState → SinkState → Report → SessionLimits → Type 0
IsSessionBy true is_first session age shows old new source_before source_after sink_before sink_after report left =
    IsLinePiece (operator_of old.number) session
    (parties old (clock_within shows)) (parties new (clock_within shows))
    source_before source_after sink_before sink_after report.answers report.stop left
IsSessionBy false true session age shows old new source_before source_after sink_before sink_after report left =
    IsFirstPacketPiece (client_of old.number) session age
    (parties old (clock_within shows)) (parties new (clock_within shows))
    source_before source_after sink_before sink_after report.answers report.stop left
IsSessionBy false false session age shows old new source_before source_after sink_before sink_after report left =
    IsPacketPiece (client_of old.number) session age
    (parties old (clock_within shows)) (parties new (clock_within shows))
    source_before source_after report.answers report.stop left

-- the piece was served with these limits, in a session that began while the client knew of no close. In short: its items
-- mean what its report answers and what was queued
pub record IsServed (is_operator : Bool) (limits : SessionLimits) (age : ℕ) (shows : Moment → Type 0)
    (old : ClientState) (piece : ServedPiece) (new : ClientState) : Type 0 where
  pub tally : Option Tally
  pub source_after : SourceState
  pub sink_before : SinkState
  pub sink_after : SinkState
  pub knew_none : old.known_close ≡ None
  pub same : IsSameClient old new
  pub session : IsSessionBy is_operator piece.is_first limits age shows old new
      (record { left = piece.sent; tally = tally }) source_after sink_before sink_after piece.report piece.left
  pub means : Means (kind_of is_operator limits age old.number) old piece.sent piece.items piece.report.answers new

-- ---- one piece after the other

-- the limits of a piece: those of a connection for its first one, and for another what the piece before it at its place
-- left
abbrev pub limits_of : SessionLimits → (ℕ → SessionLimits) → ServedPiece → SessionLimits
limits_of session left piece = if piece.is_first then session else left piece.place

-- what is left at each place after this piece
abbrev pub left_after : (ℕ → SessionLimits) → ServedPiece → ℕ → SessionLimits
left_after left piece place = if place == piece.place then piece.left else left place

-- the pieces were served in order, the first from this state of the client on, the last up to that one, each with what
-- is left of the limits of its connection
abbrev pub ServesEach : Bool → WorkerLimits → (Moment → Type 0) → (ℕ → SessionLimits) → ClientState
    → List ServedPiece → ClientState → Type 0
ServesEach is_operator limits shows left old [] new = new ≡ old
ServesEach is_operator limits shows left old (piece ∷ pieces) new =
    (middle : ClientState)
    × IsServed is_operator (limits_of limits.session left piece) limits.greatest_age shows old piece middle
    × ServesEach is_operator limits shows (left_after left piece) middle pieces new

-- an answer Queued is among them
abbrev pub has_queued : List Answer → Bool
has_queued [] = false
has_queued (Queued number ∷ answers) = true
has_queued (answer ∷ answers) = has_queued answers

-- an answer Closing or Down is among them
abbrev pub met_close : List Answer → Bool
met_close answers = list_any (λ answer. not (is_open answer)) answers

-- a worker keeps the report of a piece of which something was queued, or that met the close
abbrev pub is_kept : Report → Bool
is_kept report = has_queued report.answers || met_close report.answers

-- the connection of this piece was counted before it
abbrev pub was_counted : (ℕ → Bool) → ServedPiece → Bool
was_counted counted piece = if piece.is_first then false else counted piece.place

-- which connections are counted after this piece, by their places: those of which something was queued
abbrev pub counted_after : (ℕ → Bool) → ServedPiece → ℕ → Bool
counted_after counted piece place =
    if place == piece.place then (if was_counted counted piece then true else has_queued piece.report.answers) else counted place

-- it is counted for the first time
abbrev pub count_of : Bool → Bool → ℕ
count_of true queued = 0
count_of false true = 1
count_of false false = 0

-- how many connections there are of which something was queued
abbrev pub counted_connections : (ℕ → Bool) → List ServedPiece → ℕ
counted_connections counted [] = 0
counted_connections counted (piece ∷ pieces) =
    count_of (was_counted counted piece) (has_queued piece.report.answers)
    + counted_connections (counted_after counted piece) pieces

-- each of them is the first piece of its connection
abbrev pub AreFirst : List ServedPiece → Type 0
AreFirst pieces = AllByRecursion (λ piece. piece.is_first ≡ true) pieces

-- pieces were served; where streams are known, they are connections that sent the first of these streams, and the others
-- are left; what was queued is what their items name, in order; the reports are those of which something was queued, and of
-- those that met the close. Of a close the client may have learned after the last session
pub record Serves (is_operator : Bool) (limits : WorkerLimits) (shows : Moment → Type 0)
    (streams left : Option (List (List ℕ))) (begun : ClientState) (reports : List Report) (ended : ClientState)
    : Type 0 where
  pub pieces : List ServedPiece
  pub last : ClientState
  pub sent : SendFirst streams (map (λ piece. piece.sent) pieces) left
  pub whole : IsSome streams → AreFirst pieces
  pub each : ServesEach is_operator limits shows (λ place. limits.session) begun pieces last
  pub queued : last.queued ≡ begun.queued ++ flat_map (λ piece. queued_among begun.number piece.items) pieces
  pub reported : reports ≡ filter is_kept (map (λ piece. piece.report) pieces)
  pub stays : ended ≡ client_state last.gate last.number last.queued ended.known_close
  pub learns : IfSome last.known_close (λ first. ended.known_close ≡ Some first)

-- ---- the close

-- the client knows of the close that the answer reports, if it reports one
abbrev pub KnowsOf : Option Moment → Answer → Type 0
KnowsOf known (Closing first) = known ≡ Some first
KnowsOf known (Down first) = known ≡ Some first
KnowsOf known answer = ⊤

-- a session that met a close, if it did: the client then knows of it
pub record KnowsItsClose (known : Option Moment) (report : Report) : Type 0 where
  pub answers : AllByRecursion (KnowsOf known) report.answers
  pub stop : report.stop ≡ Shutdown → IsSome known

-- a session that met no close
pub record MetNoClose (report : Report) : Type 0 where
  pub answers : AreOpen report.answers
  pub stop : report.stop ≢ Shutdown

-- only the last session may have met a close, and then the client knows of it
abbrev pub EndsAtClose : Option Moment → List Report → Type 0
EndsAtClose known [] = ⊤
EndsAtClose known (report ∷ reports) =
    KnowsItsClose known report × (MetNoClose report ⊎ (reports ≡ [])) × EndsAtClose known reports

-- ---- a worker

-- a worker with these limits, of operators or of agents, by a clock that may show these moments, began with this client
-- and ended with that one for this cause: its connections sent these streams, as far as it served them, and all where
-- they ended; these are its reports; and it ended where as many connections as allowed had something queued, or earlier
pub record IsWork (is_operator : Bool) (limits : WorkerLimits) (shows : Moment → Type 0)
    (streams : Option (List (List ℕ))) (begun : ClientState) (reports : List Report) (ended : ClientState)
    (cause : Cause) : Type 0 where
  pub left : Option (List (List ℕ))
  pub serves : Serves is_operator limits shows streams left begun reports ended
  pub all : cause ≡ NoMoreConnections → AreSent left
  pub stops : StopsAt limits.sessions cause (counted_connections (λ place. false) serves.pieces) ended.known_close
  pub closes : EndsAtClose ended.known_close reports
