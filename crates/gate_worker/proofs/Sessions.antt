-- What a session answered with Queued is what it queued.
use Rattle.std.proofs.Common.{◌≡◌, ℕ, inl, inr, Bool, true, false, List, [], ◌∷◌, ◌++◌, length, Option, Some, None, refl, sym, ap, ◌∙◌, subst}
use Rattle.std.specs.Prelude.{IfSome}
use Rattle.std.specs.Io.KnownBytes.{Consumes}
use Rattle.std.proofs.lemmas.List.{append-nil}
use Rattle.gate_model.specs.declared.record.Moment.{Moment}
use Rattle.gate_model.specs.declared.submission.Body.{Body}
use Rattle.gate_model.specs.declared.submission.Numbered.{Numbered}
use Rattle.gate_reader.specs.declared.report.Answer.{Answer}
use Rattle.gate_reader.specs.declared.report.Answer.TheVariants.{Queued}
use Rattle.gate_reader.specs.declared.report.SessionLimits.{SessionLimits}
use Rattle.gate_reader.specs.declared.report.Stop.{Stop}
use Rattle.gate_environment.specs.Clock.{ClockState, ShowsEach, clock_within}
use Rattle.gate_streams.specs.Source.{SourceState}
use Rattle.gate_streams.specs.Sink.{SinkState}
use Rattle.gate_reader.specs.Session.{ClientView, Parties, parties, Handled, SessionKind, LeadsTo, IsSession, queued_as, queued_among, bytes_of, answers_of}
use Rattle.gate_reader.proofs.Serving.{KindLaws}
use Rattle.gate_reader.proofs.Blocks.{packet_laws}
use Rattle.gate_reader.proofs.LineCuts.{line_laws}
use Rattle.gate_reader.specs.Packets.{AnswersBlock, packets}
use Rattle.gate_reader.specs.Lines.{OperatorView, AnswersLine, lines}
use Rattle.gate_reader.specs.Pieces.{IsPiece, IsFirstPacketPiece, IsLinePiece}
use Rattle.gate_worker.specs.Numbers.{number_in, queued_numbers, item_numbers, numbers_after}
use Rattle.gate_reader.specs.declared.report.Report.{Report}
use Rattle.gate_queue.specs.GateClient.{IsSameClient}
use Rattle.gate_worker.specs.Work.{ServedPiece, served_piece, client_of, operator_of, kind_of, Means, IsSessionBy, IsServed}
use Rattle.gate_worker.specs.inner.Serving.{IsPacketPieceBy, Extends}
use Rattle.gate_queue.specs.Client.{ClientState}
use Rattle.gate_worker.proofs.Numbering.{item_numbers-append, numbers_of_items}

-- an item that reports a body, or was not answered with Queued
abbrev QueuedHasBody : Option Body → Answer → Type 0
QueuedHasBody body answer = (client : ℕ) → item_numbers (queued_as client body answer) ≡ number_in answer

block_has_body : {S : Type 0} (view : ClientView S) (age : ℕ) (old : S) (block : List ℕ) (now : Moment) (body : Option Body) (answer : Answer) (new : S) → AnswersBlock view age old block now body answer new → QueuedHasBody body answer
block_has_body view age old block now (Some b) (Queued k) new h client = refl
block_has_body view age old block now None (Queued k) new h client = absurd h
block_has_body view age old block now (Some b) answer new h client = refl
block_has_body view age old block now None answer new h client = refl

line_has_body : {S : Type 0} (view : OperatorView S) (old : S) (line : List ℕ) (readings : List Moment) (body : Option Body) (answer : Answer) (new : S) → AnswersLine view old line readings body answer new → QueuedHasBody body answer
line_has_body view old line readings (Some b) (Queued k) new h client = refl
line_has_body view old line readings None (Queued k) new h client = absurd h
line_has_body view old line readings (Some b) answer new h client = refl
line_has_body view old line readings None answer new h client = refl

-- what was queued among the items has the numbers that were answered
queued_is_answered : {S : Type 0} (handles : S → Handled → S → Type 0) → ((x : S) (item : Handled) (y : S) → handles x item y → QueuedHasBody item.body item.answer)
    → (client : ℕ) (old : S) (items : List Handled) (new : S) → LeadsTo handles old items new → item_numbers (queued_among client items) ≡ queued_numbers (answers_of items)
queued_is_answered handles has client old [] new leads = refl
queued_is_answered handles has client old (item ∷ items) new leads =
    item_numbers-append (queued_as client item.body item.answer) (queued_among client items)
    ∙ ap (λ l. l ++ item_numbers (queued_among client items)) (has old item leads.0 leads.1 client)
    ∙ ap (λ l. number_in item.answer ++ l) (queued_is_answered handles has client leads.0 items new leads.2)

-- for whatever list the client stood, it stands for that list and for more, numbered after it, with the numbers that were answered with Queued
abbrev pub Grows : {S : Type 0} → (S → List Numbered → Type 0) → S → List Answer → S → Type 0
Grows stands old answers new =
    (list : List Numbered) → stands old list
    → (more : List Numbered) × stands new (list ++ more)
    × (item_numbers more ≡ queued_numbers answers) × (item_numbers more ≡ numbers_after (length list) (length more))

grows_by : {S : Type 0} (view : ClientView S) (kind : SessionKind S) → ((x : S) (item : Handled) (y : S) → kind.handles x item y → QueuedHasBody item.body item.answer)
    → (limits : SessionLimits) (old : S) (readings : List Moment) (new : S) (source_before source_after : SourceState) (answers : List Answer) (stop : Stop)
    → IsSession view kind limits old readings new source_before source_after answers stop → Grows view.stands old answers new
grows_by view kind has limits old readings new source_before source_after answers stop s list stands =
    let more = queued_among view.number s.items in
    let q = s.queued list stands in
    (more, q.0, queued_is_answered kind.handles has view.number old s.items s.answered s.serves.leads ∙ ap queued_numbers (sym s.listed), numbers_of_items (length list) more q.1)

packets_grow : {S : Type 0} (view : ClientView S) (limits : SessionLimits) (age : ℕ) (old : S) (readings : List Moment) (new : S) (source_before source_after : SourceState) (answers : List Answer) (stop : Stop) (left : SessionLimits)
    → IsPiece view (packets view limits.items age) limits old readings new source_before source_after answers stop left → Grows view.stands old answers new
packets_grow view limits age old readings new source_before source_after answers stop left s =
    grows_by view (packets view limits.items age) (λ x item y h. block_has_body view age x item.bytes h.0 item.body item.answer y h.2) limits old readings new source_before source_after answers stop s.session

first_piece_grows : {S : Type 0} (view : ClientView S) (limits : SessionLimits) (age : ℕ) (before after : Parties S) (source_before source_after : SourceState) (sink_before sink_after : SinkState) (answers : List Answer) (stop : Stop) (left : SessionLimits)
    → IsFirstPacketPiece view limits age before after source_before source_after sink_before sink_after answers stop left → Grows view.stands before.client answers after.client
first_piece_grows {S} view limits age before after source_before source_after sink_before sink_after answers stop left s = elim s.outcome [
  | inl greeted ↦ packets_grow view limits age before.client s.readings after.client source_before source_after answers stop left greeted.served
  | inr ungreeted ↦ λ (list : List Numbered) (stands : view.stands before.client list). (
    [],
    subst (λ (c : S). view.stands c (list ++ [])) (sym ungreeted.ungreeted.stays.0) (subst (view.stands before.client) (sym (append-nil list)) stands),
    ap queued_numbers (sym ungreeted.ungreeted.none_answered),
    refl,
  )
]

line_piece_grows : {S : Type 0} (view : OperatorView S) (limits : SessionLimits) (before after : Parties S) (source_before source_after : SourceState) (sink_before sink_after : SinkState) (answers : List Answer) (stop : Stop) (left : SessionLimits)
    → IsLinePiece view limits before after source_before source_after sink_before sink_after answers stop left → Grows view.client.stands before.client answers after.client
line_piece_grows view limits before after source_before source_after sink_before sink_after answers stop left s =
    grows_by view.client (lines view limits.items) (λ x item y h. line_has_body view x item.bytes item.readings item.body item.answer y h) limits _ _ _ source_before source_after answers stop s.served.session

session_extends : (is_operator is_first : Bool) (session : SessionLimits) (age : ℕ) (shows : Moment → Type 0) (old new : ClientState) (source_before source_after : SourceState) (sink_before sink_after : SinkState) (report : Report) (left : SessionLimits)
    → IsSessionBy is_operator is_first session age shows old new source_before source_after sink_before sink_after report left → Extends old.queued new.queued report.answers
session_extends true is_first session age shows old new source_before source_after sink_before sink_after report left s =
    line_piece_grows (operator_of old.number) session _ _ _ _ _ _ _ _ _ s old.queued refl
session_extends false true session age shows old new source_before source_after sink_before sink_after report left s =
    first_piece_grows (client_of old.number) session age _ _ _ _ _ _ _ _ _ s old.queued refl
session_extends false false session age shows old new source_before source_after sink_before sink_after report left s =
    packets_grow (client_of old.number) session age _ _ _ _ _ _ _ _ s.served old.queued refl

-- what a piece adds to what is queued for a client
pub served_extends : (is_operator : Bool) (session : SessionLimits) (age : ℕ) (shows : Moment → Type 0) (old : ClientState) (piece : ServedPiece) (new : ClientState)
    → IsServed is_operator session age shows old piece new → Extends old.queued new.queued piece.report.answers
served_extends is_operator session age shows old piece new s =
    session_extends is_operator piece.is_first session age shows old new _ _ _ _ piece.report piece.left s.session

-- ---- what a session means

front_of : (cuts : List ℕ → List (List ℕ) → List ℕ → Type 0) → ((bytes later : List ℕ) (items : List (List ℕ)) (left : List ℕ) → cuts bytes items left → cuts (bytes ++ later) items (left ++ later))
    → (sent after : Option (List ℕ)) (input rest : List ℕ) (items : List (List ℕ)) → Consumes sent after input → cuts input items rest
    → IfSome sent (λ stream. (left : List ℕ) × cuts stream items left)
front_of cuts later None after input rest items read cut = tt
front_of cuts later (Some stream) None input rest items read cut = absurd read
front_of cuts later (Some stream) (Some more) input rest items read cut =
    (rest ++ more, subst (λ (bytes : List ℕ). cuts bytes items (rest ++ more)) (sym read) (later input more items rest cut))

pub means_by : (view : ClientView ClientState) (kind : SessionKind ClientState) → KindLaws view kind → (limits : SessionLimits) (old : ClientState) (readings : List Moment) (new : ClientState) (source_before source_after : SourceState) (answers : List Answer) (stop : Stop)
    → ((client : ClientState) (items : List Numbered) → view.stands client items → client.queued ≡ items) → view.stands old old.queued → view.number ≡ old.number
    → (s : IsSession view kind limits old readings new source_before source_after answers stop) → Means kind old source_before.left s.items answers new
means_by view kind laws limits old readings new source_before source_after answers stop stands_for stands named s = record {
  answered = s.answered;
  front = front_of kind.cuts laws.later source_before.left source_after.left s.input s.rest (bytes_of s.items) s.read s.serves.cut;
  handled = s.serves.leads;
  listed = s.listed;
  queued = stands_for new _ (s.queued old.queued stands).0 ∙ ap (λ (n : ℕ). old.queued ++ queued_among n s.items) named;
}

none_in_front : (kind : SessionKind ClientState) {view : ClientView ClientState} → KindLaws view kind → (sent : Option (List ℕ)) → IfSome sent (λ stream. (left : List ℕ) × kind.cuts stream [] left)
none_in_front kind laws None = tt
none_in_front kind laws (Some stream) = (stream, laws.none stream)

packets_mean : (session : SessionLimits) (age : ℕ) (old : ClientState) (readings : List Moment) (new : ClientState) (source_before source_after : SourceState) (answers : List Answer) (stop : Stop) (left : SessionLimits)
    → IsPiece (client_of old.number) (packets (client_of old.number) session.items age) session old readings new source_before source_after answers stop left
    → (items : List Handled) × Means (kind_of false session age old.number) old source_before.left items answers new
packets_mean session age old readings new source_before source_after answers stop left s =
    let view = client_of old.number in (
      s.session.items,
      means_by view (packets view session.items age) (packet_laws view session.items age) session old readings new
          source_before source_after answers stop (λ client items h. h) refl refl s.session,
    )

-- the items of a session, and what they mean
session_means : (is_operator is_first : Bool) (session : SessionLimits) (age : ℕ) (shows : Moment → Type 0) (old new : ClientState) (source_before source_after : SourceState) (sink_before sink_after : SinkState) (report : Report) (left : SessionLimits)
    → IsSessionBy is_operator is_first session age shows old new source_before source_after sink_before sink_after report left
    → (items : List Handled) × Means (kind_of is_operator session age old.number) old source_before.left items report.answers new
session_means true is_first session age shows old new source_before source_after sink_before sink_after report left s =
    let view = operator_of old.number in (
      s.served.session.items,
      means_by view.client (lines view session.items) (line_laws view session.items) session old s.readings new
          source_before source_after report.answers report.stop (λ client items h. h) refl refl s.served.session,
    )
session_means false true session age shows old new source_before source_after sink_before sink_after report left s = elim s.outcome [
  | inl greeted ↦ packets_mean session age old s.readings new source_before source_after report.answers report.stop left greeted.served
  | inr ungreeted ↦ (
    [],
    record {
      answered = old;
      front = none_in_front (packets (client_of old.number) session.items age) (packet_laws (client_of old.number) session.items age) source_before.left;
      handled = refl;
      listed = ungreeted.ungreeted.none_answered;
      queued = ap (λ (c : ClientState). c.queued) ungreeted.ungreeted.stays.0 ∙ sym (append-nil old.queued);
    },
  )
]
session_means false false session age shows old new source_before source_after sink_before sink_after report left s =
    packets_mean session age old s.readings new source_before source_after report.answers report.stop left s.served

-- ---- the clock

-- a session by a clock of which no more is known than which moments it may show, whatever is known of it afterwards
same_clock : (shows : Moment → Type 0) (later : ClockState) (moments : List Moment) → ShowsEach (clock_within shows) later moments → ShowsEach (clock_within shows) (clock_within shows) moments
same_clock shows later moments s = record { read = tt; shown = s.shown; stays = λ moment h. h }

agent_within : (is_first : Bool) (session : SessionLimits) (age : ℕ) (shows : Moment → Type 0) (later : ClockState) (old new : ClientState) (source_before source_after : SourceState) (sink_before sink_after : SinkState) (report : Report) (left : SessionLimits)
    → IsPacketPieceBy is_first (client_of old.number) session age (parties old (clock_within shows)) (parties new later) source_before source_after sink_before sink_after report.answers report.stop left
    → IsSessionBy false is_first session age shows old new source_before source_after sink_before sink_after report left
agent_within true session age shows later old new source_before source_after sink_before sink_after report left s =
    record { now = s.now; readings = s.readings; clock = same_clock shows later (s.now ∷ s.readings) s.clock; outcome = s.outcome }
agent_within false session age shows later old new source_before source_after sink_before sink_after report left s =
    record { readings = s.readings; clock = same_clock shows later s.readings s.clock; served = s.served }

-- ---- a piece that was served

-- a session of a piece, from a client that is the old one to one that is the new one
session_served : (is_operator : Bool) (session : SessionLimits) (age : ℕ) (shows : Moment → Type 0) (place : ℕ) (is_first : Bool) (old begun after new : ClientState) (source_before source_after : SourceState) (sink_before sink_after : SinkState) (report : Report) (left : SessionLimits)
    → begun ≡ old → new ≡ after → old.known_close ≡ None → IsSameClient begun after
    → IsSessionBy is_operator is_first session age shows begun after source_before source_after sink_before sink_after report left
    → (items : List Handled) × IsServed is_operator session age shows old (served_piece place is_first source_before.left items report left) new
session_served is_operator session age shows place is_first old begun after new source_before source_after sink_before sink_after report left from into knew_none same done =
    let s : IsSessionBy is_operator is_first session age shows old new source_before source_after sink_before sink_after report left =
    subst (λ (c : ClientState). IsSessionBy is_operator is_first session age shows old c source_before source_after sink_before sink_after report left) (sym into)
    (subst (λ (c : ClientState). IsSessionBy is_operator is_first session age shows c after source_before source_after sink_before sink_after report left) from done) in
    let m = session_means is_operator is_first session age shows old new source_before source_after sink_before sink_after report left s in (
      m.0,
      record {
        tally = source_before.tally;
        source_after = source_after;
        sink_before = sink_before;
        sink_after = sink_after;
        knew_none = knew_none;
        same = subst (λ (c : ClientState). IsSameClient old c) (sym into) (subst (λ (c : ClientState). IsSameClient c after) from same);
        session = s;
        means = m.1;
      },
    )

-- a piece of an agent's connection was served
pub agent_served : (session : SessionLimits) (age : ℕ) (shows : Moment → Type 0) (later : ClockState) (place : ℕ) (is_first : Bool) (old begun after new : ClientState) (source_before source_after : SourceState) (sink_before sink_after : SinkState) (report : Report) (left : SessionLimits)
    → begun ≡ old → new ≡ after → old.known_close ≡ None → IsSameClient begun after
    → IsPacketPieceBy is_first (client_of begun.number) session age (parties begun (clock_within shows)) (parties after later) source_before source_after sink_before sink_after report.answers report.stop left
    → (items : List Handled) × IsServed false session age shows old (served_piece place is_first source_before.left items report left) new
agent_served session age shows later place is_first old begun after new source_before source_after sink_before sink_after report left from into knew_none same done =
    session_served false session age shows place is_first old begun after new source_before source_after sink_before sink_after report left from into knew_none same
    (agent_within is_first session age shows later begun after source_before source_after sink_before sink_after report left done)

-- a piece of an operator's connection was served
pub operator_served : (session : SessionLimits) (age : ℕ) (shows : Moment → Type 0) (later : ClockState) (place : ℕ) (is_first : Bool) (old begun after new : ClientState) (source_before source_after : SourceState) (sink_before sink_after : SinkState) (report : Report) (left : SessionLimits)
    → begun ≡ old → new ≡ after → old.known_close ≡ None → IsSameClient begun after
    → IsLinePiece (operator_of begun.number) session (parties begun (clock_within shows)) (parties after later) source_before source_after sink_before sink_after report.answers report.stop left
    → (items : List Handled) × IsServed true session age shows old (served_piece place is_first source_before.left items report left) new
operator_served session age shows later place is_first old begun after new source_before source_after sink_before sink_after report left from into knew_none same done =
    session_served true session age shows place is_first old begun after new source_before source_after sink_before sink_after report left from into knew_none same
    (record { readings = done.readings; clock = same_clock shows later done.readings done.clock; served = done.served; written = done.written })
