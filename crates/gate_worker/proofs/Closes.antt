-- What a client knows of a close that a session met.
use Rattle.std.proofs.Common.{◌≡◌, ℕ, inl, inr, Bool, true, false, List, [], ◌∷◌, ◌++◌, Option, Some, None, Result, Ok, Err, refl, sym, ap, ◌∙◌, subst}
use Rattle.std.specs.Prelude.{IfSome, IsSome}
use Rattle.std.specs.List.{AllByRecursion}
use Rattle.std.proofs.lemmas.Bool.{true≢false, false≢true}
use Rattle.std.proofs.lemmas.Option.{none-some}
use Rattle.gate_model.specs.declared.record.Moment.{Moment}
use Rattle.gate_model.specs.declared.submission.Body.{Body}
use Rattle.gate_core.specs.declared.submit.Refused.{Refused}
use Rattle.gate_core.specs.declared.submit.Refused.TheVariants as refused
use Rattle.gate_core.specs.declared.submit.CloseFault.{CloseFault}
use Rattle.gate_core.specs.declared.submit.CloseFault.TheVariants as fault
use Rattle.gate_queue.specs.Client.{ClientState}
use Rattle.gate_reader.specs.declared.report.Answer.{Answer}
use Rattle.gate_reader.specs.declared.report.Answer.TheVariants.{Closing, Stale, EmptyHost, Bad, Down}
use Rattle.gate_reader.specs.declared.report.Report.{Report}
use Rattle.gate_reader.specs.declared.report.SessionLimits.{SessionLimits}
use Rattle.gate_reader.specs.declared.report.Stop.{Stop}
use Rattle.gate_reader.specs.declared.report.Stop.TheVariants as halt
use Rattle.gate_streams.specs.Source.{SourceState}
use Rattle.gate_reader.specs.Report.{answer_to, is_open, AreOpen, EndInClose}
use Rattle.gate_streams.specs.Sink.{SinkState}
use Rattle.gate_reader.specs.Session.{ClientView, Submits, Handled, SessionKind, LeadsTo, Stops, IsSession, answers_of}
use Rattle.gate_reader.specs.Packets.{AnswersBlock, packets}
use Rattle.gate_reader.specs.Lines.{OperatorView, Closes, AnswersLine, lines}
use Rattle.gate_reader.specs.Pieces.{IsPiece}
use Rattle.gate_worker.specs.Work.{ServedPiece, client_of, operator_of, IsSessionBy, IsServed, KnowsOf, KnowsItsClose, MetNoClose}

-- who knew of a close still knows of it
abbrev pub Stays : Option Moment → Option Moment → Type 0
Stays old new = (first : Moment) → old ≡ Some first → new ≡ Some first

-- ---- one item

submits_stay : {S : Type 0} (view : ClientView S) (old : S) (body : Body) (reply : Result ℕ Refused) (new : S) → Submits view old body reply new → Stays (view.knows old) (view.knows new)
submits_stay view old body (Ok number) new s first e = absurd (none-some first (sym s.knew_of_none.0 ∙ e))
submits_stay view old body (Err (refused.Closing moment returned)) new s first e =
    let same : first ≡ moment = subst (λ (k : Option Moment). IfSome k (λ known. known ≡ moment)) e s.refused.2 in
    s.refused.1 ∙ ap Some (sym same)
submits_stay view old body (Err (refused.Spent returned)) new s first e = absurd (none-some first (sym s.refused.1 ∙ e))
submits_stay view old body (Err (refused.Full returned)) new s first e = absurd (none-some first (sym s.refused.1 ∙ e))

submits_tell : {S : Type 0} (view : ClientView S) (old : S) (body : Body) (reply : Result ℕ Refused) (new : S) → Submits view old body reply new → KnowsOf (view.knows new) (answer_to reply)
submits_tell view old body (Ok number) new s = tt
submits_tell view old body (Err (refused.Closing moment returned)) new s = s.refused.1
submits_tell view old body (Err (refused.Spent returned)) new s = tt
submits_tell view old body (Err (refused.Full returned)) new s = tt

closes_stay : {S : Type 0} (view : OperatorView S) (old : S) (now : Moment) (reply : Result Moment CloseFault) (new : S) → Closes view old now reply new → Stays (view.client.knows old) (view.client.knows new)
closes_stay view old now (Ok moment) new c first e = absurd (none-some first (sym c.closed.1 ∙ e))
closes_stay view old now (Err (fault.AlreadyClosing moment)) new c first e =
    let same : first ≡ moment = subst (λ (k : Option Moment). IfSome k (λ known. known ≡ moment)) e c.refused.1 in
    c.refused.0 ∙ ap Some (sym same)
closes_stay view old now (Err fault.OutOfMemory) new c first e = absurd (none-some first (sym c.refused.0 ∙ e))

block_stays : {S : Type 0} (view : ClientView S) (age : ℕ) (old : S) (block : List ℕ) (now : Moment) (body : Option Body) (answer : Answer) (new : S) → AnswersBlock view age old block now body answer new → Stays (view.knows old) (view.knows new)
block_stays view age old block now (Some b) answer new h first e = submits_stay view old b h.reply new h.submitted first e
block_stays view age old block now None Stale new h first e = ap view.knows h.1 ∙ e
block_stays view age old block now None EmptyHost new h first e = ap view.knows h.1 ∙ e
block_stays view age old block now None answer new h first e = absurd h

block_tells : {S : Type 0} (view : ClientView S) (age : ℕ) (old : S) (block : List ℕ) (now : Moment) (body : Option Body) (answer : Answer) (new : S) → AnswersBlock view age old block now body answer new → KnowsOf (view.knows new) answer
block_tells view age old block now (Some b) answer new h = subst (KnowsOf (view.knows new)) (sym h.answered) (submits_tell view old b h.reply new h.submitted)
block_tells view age old block now None Stale new h = tt
block_tells view age old block now None EmptyHost new h = tt
block_tells view age old block now None answer new h = absurd h

line_stays : {S : Type 0} (view : OperatorView S) (old : S) (line : List ℕ) (readings : List Moment) (body : Option Body) (answer : Answer) (new : S) → AnswersLine view old line readings body answer new → Stays (view.client.knows old) (view.client.knows new)
line_stays view old line readings (Some b) (Down moment) new h first e = closes_stay view old h.now h.reply new h.closed first e
line_stays view old line readings (Some b) answer new h first e = submits_stay view.client old b h.reply new h.submitted first e
line_stays view old line readings None (Bad cause) new h first e = ap view.client.knows h.1 ∙ e
line_stays view old line readings None answer new h first e = absurd h

line_tells : {S : Type 0} (view : OperatorView S) (old : S) (line : List ℕ) (readings : List Moment) (body : Option Body) (answer : Answer) (new : S) → AnswersLine view old line readings body answer new → KnowsOf (view.client.knows new) answer
line_tells view old line readings (Some b) (Down moment) new h = h.known
line_tells view old line readings (Some b) answer new h = subst (KnowsOf (view.client.knows new)) (sym h.answered) (submits_tell view.client old b h.reply new h.submitted)
line_tells view old line readings None (Bad cause) new h = tt
line_tells view old line readings None answer new h = absurd h

-- ---- items one after the other

pub knows_on : (old new : Option Moment) → Stays old new → (answer : Answer) → KnowsOf old answer → KnowsOf new answer
knows_on old new stays (Closing moment) k = stays moment k
knows_on old new stays (Down moment) k = stays moment k
knows_on old new stays answer k = tt

pub all_on : (old new : Option Moment) → Stays old new → (answers : List Answer) → AllByRecursion (KnowsOf old) answers → AllByRecursion (KnowsOf new) answers
all_on old new stays [] k = tt
all_on old new stays (answer ∷ answers) k = (knows_on old new stays answer k.0, all_on old new stays answers k.1)

-- a kind of session whose items keep what a client knows of the close, and of whose answers it knows
record Tells {S : Type 0} (view : ClientView S) (handles : S → Handled → S → Type 0) : Type 0 where
  pub stays : (old : S) (item : Handled) (new : S) → handles old item new → Stays (view.knows old) (view.knows new)
  pub tells : (old : S) (item : Handled) (new : S) → handles old item new → KnowsOf (view.knows new) item.answer

leads_stay : {S : Type 0} (view : ClientView S) (handles : S → Handled → S → Type 0) → Tells view handles → (old : S) (items : List Handled) (new : S) → LeadsTo handles old items new → Stays (view.knows old) (view.knows new)
leads_stay view handles laws old [] new leads first e = ap view.knows leads ∙ e
leads_stay view handles laws old (item ∷ items) new leads first e =
    leads_stay view handles laws leads.0 items new leads.2 first (laws.stays old item leads.0 leads.1 first e)

leads_tell : {S : Type 0} (view : ClientView S) (handles : S → Handled → S → Type 0) → Tells view handles → (old : S) (items : List Handled) (new : S) → LeadsTo handles old items new → AllByRecursion (KnowsOf (view.knows new)) (answers_of items)
leads_tell view handles laws old [] new leads = tt
leads_tell view handles laws old (item ∷ items) new leads = (
  knows_on (view.knows leads.0) (view.knows new) (leads_stay view handles laws leads.0 items new leads.2) item.answer (laws.tells old item leads.0 leads.1),
  leads_tell view handles laws leads.0 items new leads.2,
)

-- ---- sessions

packets_after : {S : Type 0} (view : ClientView S) (limits : SessionLimits) (age : ℕ) (why : Stop) (answers : List Answer) (rest : List ℕ) (answered : S) (last : List Moment) (new : S) (calls failures : ℕ) (left : Option (List ℕ))
    → Stops (packets view limits.items age) limits why answers rest answered last new calls failures left → Stays (view.knows answered) (view.knows new)
packets_after {S} view limits age halt.End answers rest answered last new calls failures left s first e = ap view.knows s.1.0 ∙ e
packets_after {S} view limits age (halt.Truncated count) answers rest answered last new calls failures left s first e = ap view.knows s.1.0 ∙ e
packets_after {S} view limits age halt.ReadFault answers rest answered last new calls failures left s first e = ap view.knows s.1.0 ∙ e
packets_after {S} view limits age halt.TooMany answers rest answered last new calls failures left s first e = ap view.knows s.0.1.0 ∙ e
packets_after {S} view limits age halt.OutOfMemory answers rest answered last new calls failures left s first e = ap view.knows s.0.1 ∙ e
packets_after {S} view limits age (halt.BadPacket cause) answers rest answered last new calls failures left s first e = ap view.knows s.0.1 ∙ e
packets_after {S} view limits age halt.Shutdown answers rest answered last new calls failures left s first e = ap view.knows s.0.1.0 ∙ e
packets_after {S} view limits age halt.WriteFault answers rest answered last new calls failures left s first e = absurd s.0

lines_after : {S : Type 0} (view : OperatorView S) (limits : SessionLimits) (why : Stop) (answers : List Answer) (rest : List ℕ) (answered : S) (last : List Moment) (new : S) (calls failures : ℕ) (left : Option (List ℕ))
    → Stops (lines view limits.items) limits why answers rest answered last new calls failures left → Stays (view.client.knows answered) (view.client.knows new)
lines_after {S} view limits halt.End answers rest answered last new calls failures left s first e = ap view.client.knows s.1.0 ∙ e
lines_after {S} view limits (halt.Truncated count) answers rest answered last new calls failures left s first e = ap view.client.knows s.1.0 ∙ e
lines_after {S} view limits halt.ReadFault answers rest answered last new calls failures left s first e = ap view.client.knows s.1.0 ∙ e
lines_after {S} view limits halt.TooMany answers rest answered last new calls failures left s first e = ap view.client.knows s.0.1.0 ∙ e
lines_after {S} view limits halt.OutOfMemory answers rest answered last new calls failures left s first e = elim s.0.1.ran_out [
  | inl stays ↦ ap view.client.knows stays.0.0 ∙ e
  | inr out ↦ closes_stay view answered out.now (Err fault.OutOfMemory) new out.refused first e
]
lines_after {S} view limits halt.WriteFault answers rest answered last new calls failures left s first e = ap view.client.knows s.0.1.0 ∙ e
lines_after {S} view limits halt.Shutdown answers rest answered last new calls failures left s first e = ap view.client.knows s.0.1.0 ∙ e
lines_after {S} view limits (halt.BadPacket cause) answers rest answered last new calls failures left s first e = absurd s.0

last_known : (known : Option Moment) (front : List Answer) (last : Answer) → AllByRecursion (KnowsOf known) (front ++ last ∷ []) → KnowsOf known last
last_known known [] last k = k.0
last_known known (answer ∷ front) last k = last_known known front last k.1

close_known : (known : Option Moment) (answer : Answer) → is_open answer ≡ false → KnowsOf known answer → IsSome known
close_known known (Closing moment) e k = subst (λ (o : Option Moment). IsSome o) (sym k) refl
close_known known (Down moment) e k = subst (λ (o : Option Moment). IsSome o) (sym k) refl
close_known known answer e k = absurd (true≢false e)

in_close : (known : Option Moment) (answers : List Answer) → AllByRecursion (KnowsOf known) answers → EndInClose answers → IsSome known
in_close known answers k end =
    close_known known end.1 end.4 (last_known known end.0 end.1 (subst (λ (l : List Answer). AllByRecursion (KnowsOf known) l) end.2 k))

knows_close : {S : Type 0} (view : ClientView S) (kind : SessionKind S) (limits : SessionLimits) → Tells view kind.handles
    → ((why : Stop) (answers : List Answer) (rest : List ℕ) (answered : S) (last : List Moment) (new : S) (calls failures : ℕ) (left : Option (List ℕ)) → Stops kind limits why answers rest answered last new calls failures left → Stays (view.knows answered) (view.knows new))
    → ((answers : List Answer) (rest : List ℕ) (answered : S) (last : List Moment) (new : S) → kind.stops halt.Shutdown answers rest answered last new → EndInClose answers)
    → (old : S) (readings : List Moment) (new : S) (source_before source_after : SourceState) (report : Report)
    → IsSession view kind limits old readings new source_before source_after report.answers report.stop → KnowsItsClose (view.knows new) report
knows_close view kind limits laws later ends old readings new source_before source_after report s =
    let known = view.knows new in
    let told : AllByRecursion (KnowsOf known) report.answers =
    subst (λ (l : List Answer). AllByRecursion (KnowsOf known) l) (sym s.listed)
    (all_on (view.knows s.answered) known (later report.stop report.answers s.rest s.answered s.last new s.calls s.failures source_after.left s.stops)
    (answers_of s.items) (leads_tell view kind.handles laws old s.items s.answered s.serves.leads)) in
    record {
      answers = told;
      stop = λ e. in_close known report.answers told (ends report.answers s.rest s.answered s.last new
          (subst (λ (why : Stop). Stops kind limits why report.answers s.rest s.answered s.last new s.calls s.failures source_after.left) e s.stops).0);
    }

abbrev is_write_fault : Stop → Bool
is_write_fault halt.WriteFault = true
is_write_fault why = false

packets_know : (session : SessionLimits) (age number : ℕ) (old : ClientState) (readings : List Moment) (new : ClientState) (source_before source_after : SourceState) (report : Report) (left : SessionLimits)
    → IsPiece (client_of number) (packets (client_of number) session.items age) session old readings new source_before source_after report.answers report.stop left → KnowsItsClose new.known_close report
packets_know session age number old readings new source_before source_after report left s =
    let view = client_of number in
    knows_close view (packets view session.items age) session
    (record {
      stays = λ x item y h. block_stays view age x item.bytes h.0 item.body item.answer y h.2;
      tells = λ x item y h. block_tells view age x item.bytes h.0 item.body item.answer y h.2;
    })
    (packets_after view session age) (λ answers rest answered last new h. h.0) _ _ _ _ _ report s.session

session_knows : (is_operator is_first : Bool) (session : SessionLimits) (age : ℕ) (shows : Moment → Type 0) (old new : ClientState) (source_before source_after : SourceState) (sink_before sink_after : SinkState) (report : Report) (left : SessionLimits)
    → IsSessionBy is_operator is_first session age shows old new source_before source_after sink_before sink_after report left → KnowsItsClose new.known_close report
session_knows true is_first session age shows old new source_before source_after sink_before sink_after report left s =
    let view = operator_of old.number in
    knows_close view.client (lines view session.items) session
    (record {
      stays = λ x item y h. line_stays view x item.bytes item.readings item.body item.answer y h;
      tells = λ x item y h. line_tells view x item.bytes item.readings item.body item.answer y h;
    })
    (lines_after view session) (λ answers rest answered last new h. h.0) _ _ _ _ _ report s.served.session
session_knows false true session age shows old new source_before source_after sink_before sink_after report left s = elim s.outcome [
  | inl greeted ↦ packets_know session age old.number old s.readings new source_before source_after report left greeted.served
  | inr ungreeted ↦ record {
    answers = subst (λ (l : List Answer). AllByRecursion (KnowsOf new.known_close) l) (sym ungreeted.ungreeted.none_answered) tt;
    stop = λ e. absurd (true≢false (ap is_write_fault (sym ungreeted.ungreeted.stopped ∙ e)));
  }
]
session_knows false false session age shows old new source_before source_after sink_before sink_after report left s =
    packets_know session age old.number old s.readings new source_before source_after report left s.served

-- of a close that a session met, its client knows
pub served_knows : (is_operator : Bool) (session : SessionLimits) (age : ℕ) (shows : Moment → Type 0) (old : ClientState) (piece : ServedPiece) (new : ClientState)
    → IsServed is_operator session age shows old piece new → KnowsItsClose new.known_close piece.report
served_knows is_operator session age shows old piece new s =
    session_knows is_operator piece.is_first session age shows old new _ _ _ _ piece.report piece.left s.session

-- ---- no close

open_one : (answer : Answer) → KnowsOf None answer → is_open answer ≡ true
open_one (Closing moment) k = absurd (none-some moment k)
open_one (Down moment) k = absurd (none-some moment k)
open_one answer k = refl

open_all : (answers : List Answer) → AllByRecursion (KnowsOf None) answers → AreOpen answers
open_all [] k = tt
open_all (answer ∷ answers) k = (open_one answer k.0, open_all answers k.1)

pub met_none : (known : Option Moment) (report : Report) → known ≡ None → KnowsItsClose known report → MetNoClose report
met_none known report none k = record {
  answers = open_all report.answers (subst (λ (o : Option Moment). AllByRecursion (KnowsOf o) report.answers) none k.answers);
  stop = λ e. false≢true (subst (λ (o : Option Moment). IsSome o) none (k.stop e));
}

knows_one : (known : Option Moment) (answer : Answer) → is_open answer ≡ true → KnowsOf known answer
knows_one known (Closing moment) e = absurd (false≢true e)
knows_one known (Down moment) e = absurd (false≢true e)
knows_one known answer e = tt

knows_all : (known : Option Moment) (answers : List Answer) → AreOpen answers → AllByRecursion (KnowsOf known) answers
knows_all known [] all = tt
knows_all known (answer ∷ answers) all = (knows_one known answer all.0, knows_all known answers all.1)

pub knows_none : (known : Option Moment) (report : Report) → MetNoClose report → KnowsItsClose known report
knows_none known report none = record { answers = knows_all known report.answers none.answers; stop = λ e. absurd (none.stop e) }

some_later : (old new : Option Moment) → Stays old new → IsSome old → IsSome new
some_later None new stays e = absurd (false≢true e)
some_later (Some first) new stays e = subst (λ (o : Option Moment). IsSome o) (sym (stays first refl)) refl

pub knows_later : (old new : Option Moment) (report : Report) → Stays old new → KnowsItsClose old report → KnowsItsClose new report
knows_later old new report stays k = record {
  answers = all_on old new stays report.answers k.answers;
  stop = λ e. some_later old new stays (k.stop e);
}
