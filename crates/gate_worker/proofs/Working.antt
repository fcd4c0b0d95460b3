-- One piece after the other.
use Rattle.std.proofs.Common.{◌≡◌, ℕ, inl, inr, ◌⊎◌, Bool, true, false, cond, List, [], ◌∷◌, ◌++◌, length, map, flat_map, Option, Some, None, ◌+◌, ◌<◌, ◌≤◌, set, refl, sym, ap, ◌∙◌, subst, append-nil, append_assoc, arith}
use Rattle.std.specs.Prelude.{IfSome, IsSome, filter, ◌||◌}
use Rattle.std.proofs.lemmas.Bool.{true≢false, false≢true}
use Rattle.std.proofs.lemmas.List.{map-append}
use Rattle.std.proofs.lemmas.List.Elements.{filter-append}
use Rattle.std.proofs.lemmas.Option.{none-some}
use Rattle.gate_model.specs.declared.record.Moment.{Moment}
use Rattle.gate_queue.specs.Gate.{GateId}
use Rattle.gate_queue.specs.Client.{ClientState, client_state}
use Rattle.gate_queue.specs.Knowledge.{CloseKnowledge, Learns}
use Rattle.gate_queue.specs.GateOperator.{Joins}
use Rattle.gate_reader.specs.Session.{queued_among}
use Rattle.gate_reader.specs.declared.report.Answer.{Answer}
use Rattle.gate_reader.specs.declared.report.Answer.TheVariants.{Queued, Full, Spent, Closing, Stale, EmptyHost, Bad, Down}
use Rattle.gate_reader.specs.declared.report.Report.{Report}
use Rattle.gate_worker.specs.Numbers.{queued_numbers, item_numbers, numbers_after, reported_numbers}
use Rattle.gate_environment.specs.Streams.{ComesNext, AreSent, SendFirst}
use Rattle.gate_environment.specs.Parting.{parting, parting_all}
use Rattle.gate_environment.specs.declared.connections.PieceEnd.{PieceEnd}
use Rattle.gate_environment.proofs.PartingLaws.{parting_none, parting_next}
use Rattle.gate_worker.specs.Work.{ServedPiece, IsServed, limits_of, left_after, ServesEach, has_queued, met_close, is_kept, count_of, AreFirst, Serves, KnowsItsClose, MetNoClose, EndsAtClose}
use Rattle.gate_worker.specs.Stops.{StopsAt}
use Rattle.gate_worker.specs.inner.Parting.{end_after, GivesBack}
use Rattle.gate_worker.specs.inner.Serving.{end_of_piece}
use Rattle.gate_worker.specs.inner.Progress.{IsAsBefore, progress_before, progress_after, left_after_all, AgreesWith}
use Rattle.gate_worker.specs.declared.progress.Progress.{Progress}
use Rattle.gate_worker.specs.declared.progress.ProgressTable.{ProgressTable}
use Rattle.gate_worker.proofs.Tables.{agrees_none, agrees_same, agrees_next, before_piece}
use Rattle.gate_reader.specs.declared.report.SessionLimits.{SessionLimits}
use Rattle.gate_worker.specs.declared.limits.WorkerLimits.{WorkerLimits}
use Rattle.gate_worker.specs.declared.worker.Cause.{Cause}
use Rattle.gate_worker.specs.declared.worker.Cause.TheVariants.{NoMoreConnections}
use Rattle.gate_worker.proofs.Numbering.{item_numbers-append, numbers_go_on}
use Rattle.gate_worker.proofs.Sessions.{served_extends}
use Rattle.gate_worker.proofs.Closes.{Stays, served_knows, met_none, knows_none, knows_later}

-- ---- what is known

stays_of : (old new : Option Moment) → IfSome old (λ first. new ≡ Some first) → Stays old new
stays_of old new h first e = subst (λ (k : Option Moment). IfSome k (λ known. new ≡ Some known)) e h

none_before : (old new : Option Moment) → IfSome old (λ first. new ≡ Some first) → new ≡ None → old ≡ None
none_before None new h none = refl
none_before (Some first) new h none = absurd (none-some first (sym none ∙ h))

learns_self : (known : Option Moment) → IfSome known (λ first. known ≡ Some first)
learns_self None = tt
learns_self (Some first) = refl

learns_on : (a b c : Option Moment) → IfSome a (λ first. b ≡ Some first) → IfSome b (λ first. c ≡ Some first) → IfSome a (λ first. c ≡ Some first)
learns_on None b c h k = tt
learns_on (Some first) b c h k = subst (λ (o : Option Moment). IfSome o (λ known. c ≡ Some known)) h k

same_client : (new last middle : ClientState) → middle ≡ client_state last.gate last.number last.queued middle.known_close
    → new ≡ client_state middle.gate middle.number middle.queued new.known_close → new ≡ client_state last.gate last.number last.queued new.known_close
same_client new last middle stays looked =
    looked ∙ ap (λ (c : ClientState). client_state c.gate c.number c.queued new.known_close) stays

-- ---- pieces one after the other

each_next : (is_operator : Bool) (limits : WorkerLimits) (shows : Moment → Type 0) (left : ℕ → SessionLimits) (old : ClientState) (pieces : List ServedPiece) (middle : ClientState) (piece : ServedPiece) (new : ClientState)
    → ServesEach is_operator limits shows left old pieces middle
    → IsServed is_operator (limits_of limits.session (left_after_all left pieces) piece) limits.greatest_age shows middle piece new
    → ServesEach is_operator limits shows left old (pieces ++ piece ∷ []) new
each_next is_operator limits shows left old [] middle piece new e s =
    (new, subst (λ (c : ClientState). IsServed is_operator (limits_of limits.session left piece) limits.greatest_age shows c piece new) e s, refl)
each_next is_operator limits shows left old (first ∷ pieces) middle piece new e s =
    (e.0, e.1, each_next is_operator limits shows (left_after left first) e.0 pieces middle piece new e.2 s)

each_queued : (is_operator : Bool) (limits : WorkerLimits) (shows : Moment → Type 0) (left : ℕ → SessionLimits) (number : ℕ) (old : ClientState) (pieces : List ServedPiece) (new : ClientState)
    → old.number ≡ number → ServesEach is_operator limits shows left old pieces new
    → new.queued ≡ old.queued ++ flat_map (λ (p : ServedPiece). queued_among number p.items) pieces
each_queued is_operator limits shows left number old [] new named e = ap (λ (c : ClientState). c.queued) e ∙ sym (append-nil old.queued)
each_queued is_operator limits shows left number old (piece ∷ pieces) new named e =
    let rest = flat_map (λ (p : ServedPiece). queued_among number p.items) pieces in
    each_queued is_operator limits shows (left_after left piece) number e.0 pieces new (e.1.same.number ∙ named) e.2
    ∙ ap (λ l. l ++ rest) (e.1.means.queued ∙ ap (λ n. old.queued ++ queued_among n piece.items) named)
    ∙ append_assoc old.queued (queued_among number piece.items) rest

first_next : (pieces : List ServedPiece) (piece : ServedPiece) → AreFirst pieces → piece.is_first ≡ true → AreFirst (pieces ++ piece ∷ [])
first_next [] piece all first = (first, tt)
first_next (other ∷ pieces) piece all first = (all.0, first_next pieces piece all.1 first)

-- where streams were known, those that are left are
known_left : (streams left : Option (List (List ℕ))) (sent : List (Option (List ℕ))) → SendFirst streams sent left → IsSome streams → IsSome left
known_left None left sent h some = absurd (false≢true some)
known_left (Some streams) left sent h some = subst (λ (o : Option (List (List ℕ))). IsSome o) (sym h.2) refl

sent_next : (streams left later : Option (List (List ℕ))) (pieces : List ServedPiece) (piece : ServedPiece)
    → SendFirst streams (map (λ (p : ServedPiece). p.sent) pieces) left → ComesNext left (Some piece.sent) later
    → SendFirst streams (map (λ (p : ServedPiece). p.sent) (pieces ++ piece ∷ [])) later
sent_next None left later pieces piece h next = tt
sent_next (Some streams) left later pieces piece h next =
    let sent : ServedPiece → Option (List ℕ) = λ p. p.sent in
    let n = subst (λ (o : Option (List (List ℕ))). ComesNext o (Some piece.sent) later) h.2 next in (
      n.1,
      h.1 ∙ ap (λ l. map sent pieces ++ map Some l) n.2
          ∙ ap (λ o. map sent pieces ++ o ∷ map Some n.1) (sym n.3)
          ∙ sym (append_assoc (map sent pieces) (piece.sent ∷ []) (map Some n.1))
          ∙ ap (λ l. l ++ map Some n.1) (sym (map-append sent pieces (piece ∷ []))),
      n.4,
    )

pub none_left : (streams left : Option (List (List ℕ))) → ComesNext streams None left → AreSent streams
none_left None left h = tt
none_left (Some streams) left h = h

pub both_known : {X : Type 0} (P Q : X → Type 0) (o : Option X) → IfSome o P → IfSome o Q → IfSome o (λ x. P x × Q x)
both_known P Q None p q = tt
both_known P Q (Some x) p q = (p, q)

sent_none : (streams : Option (List (List ℕ))) → SendFirst streams [] streams
sent_none None = tt
sent_none (Some streams) = (streams, refl, refl)

pub serves_none : (is_operator : Bool) (limits : WorkerLimits) (shows : Moment → Type 0) (streams : Option (List (List ℕ))) (begun client : ClientState)
    → client ≡ client_state begun.gate begun.number begun.queued client.known_close → IfSome begun.known_close (λ first. client.known_close ≡ Some first)
    → Serves is_operator limits shows streams streams begun [] client
serves_none is_operator limits shows streams begun client stays learns = record {
  pieces = [];
  last = begun;
  sent = sent_none streams;
  whole = λ some. tt;
  each = refl;
  queued = sym (append-nil begun.queued);
  reported = refl;
  stays = stays;
  learns = learns;
}

-- a look at the close after the last session
pub serves_look : (is_operator : Bool) (limits : WorkerLimits) (shows : Moment → Type 0) (streams left : Option (List (List ℕ))) (begun : ClientState) (reports : List Report) (client looked : ClientState)
    → Serves is_operator limits shows streams left begun reports client
    → looked ≡ client_state client.gate client.number client.queued looked.known_close → IfSome client.known_close (λ first. looked.known_close ≡ Some first)
    → Serves is_operator limits shows streams left begun reports looked
serves_look is_operator limits shows streams left begun reports client looked s stays learns = record {
  pieces = s.pieces;
  last = s.last;
  sent = s.sent;
  whole = s.whole;
  each = s.each;
  queued = s.queued;
  reported = s.reported;
  stays = same_client looked s.last client s.stays stays;
  learns = learns_on s.last.known_close client.known_close looked.known_close s.learns learns;
}

-- one more piece, before which the client knew of no close
pub serves_next : (is_operator : Bool) (limits : WorkerLimits) (shows : Moment → Type 0) (streams left later : Option (List (List ℕ))) (begun : ClientState) (reports pushed : List Report) (looked : ClientState) (piece : ServedPiece) (new : ClientState)
    → (s : Serves is_operator limits shows streams left begun reports looked) → looked.known_close ≡ None
    → IsServed is_operator (limits_of limits.session (left_after_all (λ (place : ℕ). limits.session) s.pieces) piece) limits.greatest_age shows looked piece new
    → ComesNext left (Some piece.sent) later → (IsSome left → piece.is_first ≡ true) → pushed ≡ reports ++ filter is_kept (piece.report ∷ [])
    → (t : Serves is_operator limits shows streams later begun pushed new) × (t.pieces ≡ s.pieces ++ piece ∷ [])
serves_next is_operator limits shows streams left later begun reports pushed looked piece new s none served next whole kept =
    let known = none_before s.last.known_close looked.known_close s.learns none in
    let same : looked ≡ s.last = s.stays ∙ ap (λ k. client_state s.last.gate s.last.number s.last.queued k) (none ∙ sym known) in
    let report : ServedPiece → Report = λ p. p.report in
    let each = each_next is_operator limits shows (λ (place : ℕ). limits.session) begun s.pieces s.last piece new s.each
    (subst (λ (c : ClientState). IsServed is_operator (limits_of limits.session (left_after_all (λ (place : ℕ). limits.session) s.pieces) piece) limits.greatest_age shows c piece new) same served) in (
      record {
        pieces = s.pieces ++ piece ∷ [];
        last = new;
        sent = sent_next streams left later s.pieces piece s.sent next;
        whole = λ some. first_next s.pieces piece (s.whole some) (whole (known_left streams left _ s.sent some));
        each = each;
        queued = each_queued is_operator limits shows (λ (place : ℕ). limits.session) begun.number begun (s.pieces ++ piece ∷ []) new refl each;
        reported = kept ∙ ap (λ l. l ++ filter is_kept (piece.report ∷ [])) s.reported
            ∙ sym (filter-append is_kept (map report s.pieces) (piece.report ∷ []))
            ∙ ap (filter is_kept) (sym (map-append report s.pieces (piece ∷ [])));
        stays = refl;
        learns = learns_self new.known_close;
      },
      refl,
    )

-- ---- what a worker has done so far

-- it served pieces, its table agrees with them, and it gave them back
pub record Worked (is_operator : Bool) (limits : WorkerLimits) (shows : Moment → Type 0) (streams left : Option (List (List ℕ))) (given now : Option (List PieceEnd)) (begun : ClientState) (reports : List Report) (table : ProgressTable) (client : ClientState) : Type 0 where
  pub serves : Serves is_operator limits shows streams left begun reports client
  pub agrees : AgreesWith limits.session table serves.pieces
  pub parted : now ≡ parting_all (map end_after serves.pieces) given

pub worked_none : (is_operator : Bool) (limits : WorkerLimits) (shows : Moment → Type 0) (streams : Option (List (List ℕ))) (given : Option (List PieceEnd)) (begun : ClientState) (reports : List Report) (table : ProgressTable) (client : ClientState)
    → client ≡ client_state begun.gate begun.number begun.queued client.known_close → IfSome begun.known_close (λ first. client.known_close ≡ Some first)
    → reports ≡ [] → table.session ≡ limits.session → table.entries.items ≡ [] → table.counted ≡ 0
    → Worked is_operator limits shows streams streams given given begun reports table client
unfolding serves_none
worked_none is_operator limits shows streams given begun reports table client stays learns empty session entries counted =
    subst (λ (l : List Report). Worked is_operator limits shows streams streams given given begun l table client) (sym empty)
    (record { serves = serves_none is_operator limits shows streams begun client stays learns; agrees = agrees_none limits.session table session entries counted; parted = parting_none given })

-- a look at the close, and a table that says the same
pub worked_look : (is_operator : Bool) (limits : WorkerLimits) (shows : Moment → Type 0) (streams left : Option (List (List ℕ))) (given now taken : Option (List PieceEnd)) (begun : ClientState) (reports reserved : List Report) (table grown : ProgressTable) (client looked : ClientState)
    → Worked is_operator limits shows streams left given now begun reports table client
    → looked ≡ client_state client.gate client.number client.queued looked.known_close → IfSome client.known_close (λ first. looked.known_close ≡ Some first)
    → reserved ≡ reports → IsAsBefore table grown → taken ≡ now
    → Worked is_operator limits shows streams left given taken begun reserved grown looked
unfolding serves_look
worked_look is_operator limits shows streams left given now taken begun reports reserved table grown client looked w stays learns same as_before comes =
    subst (λ (l : List Report). Worked is_operator limits shows streams left given taken begun l grown looked) (sym same)
    (record {
      serves = serves_look is_operator limits shows streams left begun reports client looked w.serves stays learns;
      agrees = agrees_same limits.session table grown w.serves.pieces as_before w.agrees;
      parted = comes ∙ w.parted;
    })

-- one more piece, which was served with what the table said was left, and given back
pub worked_next : (is_operator : Bool) (limits : WorkerLimits) (shows : Moment → Type 0) (streams left later : Option (List (List ℕ))) (given now after : Option (List PieceEnd)) (end : PieceEnd) (begun : ClientState) (reports pushed : List Report) (table noted : ProgressTable) (looked : ClientState) (piece : ServedPiece) (before : Progress) (queued : Bool) (new : ClientState)
    → Worked is_operator limits shows streams left given now begun reports table looked → looked.known_close ≡ None
    → before ≡ progress_before table.session table.entries.items piece.is_first piece.place
    → IsServed is_operator before.left limits.greatest_age shows looked piece new
    → ComesNext left (Some piece.sent) later → (IsSome left → piece.is_first ≡ true) → pushed ≡ reports ++ filter is_kept (piece.report ∷ [])
    → queued ≡ has_queued piece.report.answers → piece.place < length table.entries.items
    → noted.entries.items ≡ set table.entries.items piece.place (progress_after before piece.left queued)
    → noted.session ≡ table.session → noted.counted ≡ table.counted + count_of before.is_counted queued
    → after ≡ parting end now → end ≡ end_of_piece piece.report.stop queued
    → Worked is_operator limits shows streams later given after begun pushed noted new
worked_next is_operator limits shows streams left later given now after end begun reports pushed table noted looked piece before queued new w none is served next whole kept had in' entries session counted parts ends =
    let allowed : before.left ≡ limits_of limits.session (left_after_all (λ (place : ℕ). limits.session) w.serves.pieces) piece =
    ap (λ (p : Progress). p.left) (before_piece limits.session table w.serves.pieces piece before w.agrees is) in
    let n = serves_next is_operator limits shows streams left later begun reports pushed looked piece new w.serves none
    (subst (λ (l : SessionLimits). IsServed is_operator l limits.greatest_age shows looked piece new) allowed served) next whole kept in
    let called : end ≡ end_after piece = ends ∙ ap (end_of_piece piece.report.stop) had in
    record {
      serves = n.0;
      agrees = subst (AgreesWith limits.session noted) (sym n.1)
          (agrees_next limits.session table noted w.serves.pieces piece before queued w.agrees is had in' entries session counted);
      parted = subst (λ (pieces : List ServedPiece). after ≡ parting_all (map end_after pieces) given) (sym n.1)
          (parting_next end_after w.serves.pieces piece given now after w.parted (parts ∙ ap (λ (e : PieceEnd). parting e now) called));
    }

-- the same of a piece before which the client looked for a close
pub goes_on : (has is_operator : Bool) (limits : WorkerLimits) (shows : Moment → Type 0) (streams left middle later : Option (List (List ℕ))) (given now taken after : Option (List PieceEnd)) (end : PieceEnd) (begun : ClientState) (reports reserved kept : List Report) (table grown noted : ProgressTable) (client looked : ClientState) (piece : ServedPiece) (before : Progress) (queued : Bool) (new : ClientState) (gate : GateId) (number : ℕ)
    → Worked is_operator limits shows streams left given now begun reports table client
    → looked ≡ client_state client.gate client.number client.queued looked.known_close → IfSome client.known_close (λ first. looked.known_close ≡ Some first) → looked.known_close ≡ None
    → reserved ≡ reports → IsAsBefore table grown
    → before ≡ progress_before grown.session grown.entries.items piece.is_first piece.place
    → IsServed has before.left limits.greatest_age shows looked piece new → has ≡ is_operator
    → ComesNext left (Some piece.sent) middle → later ≡ middle → (IsSome left → piece.is_first ≡ true) → kept ≡ reserved ++ filter is_kept (piece.report ∷ [])
    → queued ≡ has_queued piece.report.answers → piece.place < length grown.entries.items
    → noted.entries.items ≡ set grown.entries.items piece.place (progress_after before piece.left queued)
    → noted.session ≡ grown.session → noted.counted ≡ grown.counted + count_of before.is_counted queued
    → taken ≡ now → after ≡ parting end taken → end ≡ end_of_piece piece.report.stop queued
    → client.gate ≡ gate → client.number ≡ number
    → (new.gate ≡ gate) × (new.number ≡ number) × Worked is_operator limits shows streams later given after begun kept noted new
goes_on has is_operator limits shows streams left middle later given now taken after end begun reports reserved kept table grown noted client looked piece before queued new gate number w stays learns none listed as_before is served role next same whole pushed had in' entries session counted comes parts ends of_gate named = (
  served.same.gate ∙ ap (λ (c : ClientState). c.gate) stays ∙ of_gate,
  served.same.number ∙ ap (λ (c : ClientState). c.number) stays ∙ named,
  worked_next is_operator limits shows streams left later given taken after end begun reserved kept grown noted looked piece before queued new
      (worked_look is_operator limits shows streams left given now taken begun reports reserved table grown client looked w stays learns listed as_before comes) none is
      (subst (λ (b : Bool). IsServed b before.left limits.greatest_age shows looked piece new) role served)
      (subst (λ (o : Option (List (List ℕ))). ComesNext left (Some piece.sent) o) (sym same) next)
      whole pushed had in' entries session counted parts ends,
)

-- a piece counts for one at most
pub count_one : (was queued : Bool) → count_of was queued ≤ 1
count_one true queued = omega arith
count_one false true = omega arith
count_one false false = omega arith

-- ---- a worker's steps

-- before a session, the closer knows of no close either
pub knows_none_yet : (closer : Option CloseKnowledge) (cell : ℕ) (old new : Option Moment)
    → IfSome closer (λ c. (c.cell ≡ cell) × IfSome c.known_close (λ first. old ≡ Some first)) → IfSome old (λ first. new ≡ Some first) → new ≡ None
    → IfSome closer (λ c. (c.cell ≡ cell) × (c.known_close ≡ new))
knows_none_yet None cell old new h learns none = tt
knows_none_yet (Some c) cell old new h learns none =
    (h.0, none_before c.known_close new (learns_on c.known_close old new h.1 learns) none ∙ sym none)

-- after it, the closer knows what the client knows
pub knows_as_much : (closer : Option CloseKnowledge) (cell : ℕ) (known : Option Moment) → IfSome closer (λ c. (c.cell ≡ cell) × (c.known_close ≡ known))
    → IfSome closer (λ c. (c.cell ≡ cell) × IfSome c.known_close (λ first. known ≡ Some first))
knows_as_much None cell known h = tt
knows_as_much (Some c) cell known h = (h.0, subst (λ (o : Option Moment). IfSome o (λ first. known ≡ Some first)) (sym h.1) (learns_self known))

-- an operator that knows as much of the close as its closer is the client
pub joined : (client operator : ClientState) (closer : CloseKnowledge) → closer.known_close ≡ client.known_close → client.known_close ≡ None
    → Joins client closer operator → operator ≡ client
joined client operator closer knows none j =
    let closer_knows : closer.known_close ≡ None = knows ∙ none in
    let known : operator.known_close ≡ client.known_close = subst (λ (o : Option Moment). Learns o client.known_close operator.known_close) closer_knows j.known_close in
    ap (λ g. client_state g operator.number operator.queued operator.known_close) j.gate
    ∙ ap (λ n. client_state client.gate n operator.queued operator.known_close) j.number
    ∙ ap (λ q. client_state client.gate client.number q operator.known_close) j.queued
    ∙ ap (λ k. client_state client.gate client.number client.queued k) known

-- ---- numbers

none_numbers : (answers : List Answer) → has_queued answers ≡ false → [] ≡ queued_numbers answers
none_numbers [] e = refl
none_numbers (Queued number ∷ answers) e = absurd (true≢false e)
none_numbers (Full ∷ answers) e = none_numbers answers e
none_numbers (Spent ∷ answers) e = none_numbers answers e
none_numbers (Closing moment ∷ answers) e = none_numbers answers e
none_numbers (Stale ∷ answers) e = none_numbers answers e
none_numbers (EmptyHost ∷ answers) e = none_numbers answers e
none_numbers (Bad cause ∷ answers) e = none_numbers answers e
none_numbers (Down moment ∷ answers) e = none_numbers answers e

or_false : (has met : Bool) → (has || met) ≡ false → has ≡ false
or_false false met e = refl
or_false true met e = absurd (true≢false e)

kept_numbers : (has : Bool) (report : Report) (rest : List Report) → is_kept report ≡ has
    → reported_numbers (cond has (report ∷ rest) rest) ≡ queued_numbers report.answers ++ reported_numbers rest
kept_numbers true report rest e = refl
kept_numbers false report rest e = ap (λ l. l ++ reported_numbers rest) (none_numbers report.answers (or_false (has_queued report.answers) (met_close report.answers) e))

-- what was queued has the numbers that the reports answer with Queued, and these go on from the first ones
abbrev Numbers : ClientState → List Report → ClientState → Type 0
Numbers old reports new =
    (item_numbers new.queued ≡ item_numbers old.queued ++ reported_numbers reports) × (item_numbers new.queued ≡ numbers_after 0 (length new.queued))

each_numbers : (is_operator : Bool) (limits : WorkerLimits) (shows : Moment → Type 0) (left : ℕ → SessionLimits) (old : ClientState) (pieces : List ServedPiece) (new : ClientState)
    → item_numbers old.queued ≡ numbers_after 0 (length old.queued) → ServesEach is_operator limits shows left old pieces new
    → Numbers old (filter is_kept (map (λ (p : ServedPiece). p.report) pieces)) new
each_numbers is_operator limits shows left old [] new counted e =
    subst (λ (c : ClientState). Numbers old [] c) (sym e) (sym (append-nil (item_numbers old.queued)), counted)
each_numbers is_operator limits shows left old (piece ∷ pieces) new counted e =
    let middle = e.0 in
    let x = served_extends is_operator (limits_of limits.session left piece) limits.greatest_age shows old piece middle e.1 in
    let more = x.0 in
    let rest = filter is_kept (map (λ (p : ServedPiece). p.report) pieces) in
    let next : item_numbers middle.queued ≡ numbers_after 0 (length middle.queued) =
    ap item_numbers x.1 ∙ numbers_go_on old.queued more counted x.3 ∙ ap (λ l. numbers_after 0 (length l)) (sym x.1) in
    let r = each_numbers is_operator limits shows (left_after left piece) middle pieces new next e.2 in (
      r.0 ∙ ap (λ l. item_numbers l ++ reported_numbers rest) x.1 ∙ ap (λ l. l ++ reported_numbers rest) (item_numbers-append old.queued more)
          ∙ ap (λ l. (item_numbers old.queued ++ l) ++ reported_numbers rest) x.2
          ∙ append_assoc (item_numbers old.queued) (queued_numbers piece.report.answers) (reported_numbers rest)
          ∙ ap (λ l. item_numbers old.queued ++ l) (sym (kept_numbers (is_kept piece.report) piece.report rest refl)),
      r.1,
    )

-- what is queued for a new client has the numbers that the reports answer with Queued, from 1
pub serves_numbers : (is_operator : Bool) (limits : WorkerLimits) (shows : Moment → Type 0) (streams left : Option (List (List ℕ))) (begun : ClientState) (reports : List Report) (ended : ClientState)
    → begun.queued ≡ [] → Serves is_operator limits shows streams left begun reports ended
    → (item_numbers ended.queued ≡ reported_numbers reports) × (reported_numbers reports ≡ numbers_after 0 (length ended.queued))
serves_numbers is_operator limits shows streams left begun reports ended fresh s =
    let counted : item_numbers begun.queued ≡ numbers_after 0 (length begun.queued) =
    subst (λ l. item_numbers l ≡ numbers_after 0 (length l)) (sym fresh) refl in
    let n = each_numbers is_operator limits shows (λ (place : ℕ). limits.session) begun s.pieces s.last counted s.each in
    let same : ended.queued ≡ s.last.queued = ap (λ (c : ClientState). c.queued) s.stays in
    let first : item_numbers ended.queued ≡ reported_numbers reports =
    ap item_numbers same ∙ n.0 ∙ ap (λ l. item_numbers l ++ reported_numbers (filter is_kept (map (λ (p : ServedPiece). p.report) s.pieces))) fresh
    ∙ ap reported_numbers (sym s.reported) in
    (first, sym first ∙ ap item_numbers same ∙ n.1 ∙ ap (λ l. numbers_after 0 (length l)) (sym same))

-- ---- the close

keeps_close : (known : Option Moment) (has : Bool) (report : Report) (reports : List Report) → KnowsItsClose known report → MetNoClose report ⊎ (reports ≡ [])
    → EndsAtClose known reports → EndsAtClose known (cond has (report ∷ reports) reports)
keeps_close known true report reports k met rest = (k, met, rest)
keeps_close known false report reports k met rest = rest

each_closes : (is_operator : Bool) (limits : WorkerLimits) (shows : Moment → Type 0) (left : ℕ → SessionLimits) (old : ClientState) (pieces : List ServedPiece) (new : ClientState) (known : Option Moment)
    → Stays new.known_close known → ServesEach is_operator limits shows left old pieces new
    → EndsAtClose known (filter is_kept (map (λ (p : ServedPiece). p.report) pieces))
each_closes is_operator limits shows left old [] new known stays e = tt
each_closes is_operator limits shows left old (piece ∷ []) new known stays e =
    let middle = e.0 in
    keeps_close known (is_kept piece.report) piece.report []
    (knows_later middle.known_close known piece.report
    (λ first m. stays first (ap (λ (c : ClientState). c.known_close) e.2 ∙ m))
    (served_knows is_operator (limits_of limits.session left piece) limits.greatest_age shows old piece middle e.1))
    (inr refl) tt
each_closes is_operator limits shows left old (piece ∷ next ∷ pieces) new known stays e =
    let middle = e.0 in
    let met = met_none middle.known_close piece.report e.2.1.knew_none
    (served_knows is_operator (limits_of limits.session left piece) limits.greatest_age shows old piece middle e.1) in
    keeps_close known (is_kept piece.report) piece.report _ (knows_none known piece.report met) (inl met)
    (each_closes is_operator limits shows (left_after left piece) middle (next ∷ pieces) new known stays e.2)

pub serves_closes : (is_operator : Bool) (limits : WorkerLimits) (shows : Moment → Type 0) (streams left : Option (List (List ℕ))) (begun : ClientState) (reports : List Report) (ended : ClientState)
    → Serves is_operator limits shows streams left begun reports ended → EndsAtClose ended.known_close reports
serves_closes is_operator limits shows streams left begun reports ended s =
    subst (EndsAtClose ended.known_close) (sym s.reported)
    (each_closes is_operator limits shows (λ (place : ℕ). limits.session) begun s.pieces s.last ended.known_close (stays_of s.last.known_close ended.known_close s.learns) s.each)

-- ---- the end

pub ended_work : (is_operator : Bool) (limits : WorkerLimits) (shows : Moment → Type 0) (streams left later : Option (List (List ℕ))) (given now : Option (List PieceEnd)) (begun : ClientState) (reports kept : List Report) (table : ProgressTable) (looked ended : ClientState) (cause why : Cause)
    → Worked is_operator limits shows streams left given now begun reports table looked → ended ≡ looked → kept ≡ reports → why ≡ cause
    → (cause ≡ NoMoreConnections → ComesNext left None later) → StopsAt limits.sessions cause table.counted looked.known_close
    → GivesBack is_operator limits shows streams begun kept ended why given now
ended_work is_operator limits shows streams left later given now begun reports kept table looked ended cause why w same listed is none stops =
    let whole : GivesBack is_operator limits shows streams begun reports looked cause given now = record {
      work = record {
        left = left;
        serves = w.serves;
        all = λ e. none_left left later (none e);
        stops = subst (λ (n : ℕ). StopsAt limits.sessions cause n looked.known_close) w.agrees.counted_is stops;
        closes = serves_closes is_operator limits shows streams left begun reports looked w.serves;
      };
      parted = w.parted;
    } in
    subst (λ (c : ClientState). GivesBack is_operator limits shows streams begun kept c why given now) (sym same)
    (subst (λ (l : List Report). GivesBack is_operator limits shows streams begun l looked why given now) (sym listed)
    (subst (λ (c : Cause). GivesBack is_operator limits shows streams begun reports looked c given now) (sym is) whole))
