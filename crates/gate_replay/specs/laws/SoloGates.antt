-- Only proofs use this: a queue over a gate stands after each run that its calls add to.
use Rattle.std.proofs.Common.{◌≡◌, ◌≢◌, ℕ, ◌+◌, ◌-◌, ◌*◌, ◌<◌, ◌≤◌, List, [], ◌∷◌, ◌++◌, length, Option, Some, None, Result, Ok, Err, true, false, ◌&&◌, cond, eq-eqb, refl, sym, ap, ◌∙◌, subst, arith}
use Rattle.std.specs.Prelude.{IfSome}
use Rattle.std.proofs.lemmas.List.{append-nil}
use Rattle.gate_model.specs.declared.record.Moment.{Moment}
use Rattle.gate_model.specs.declared.submission.Body.{Body}
use Rattle.gate_model.specs.declared.submission.Numbered.{Numbered}
use Rattle.gate_core.specs.declared.event.Event.TheVariants.{Look, Push, Close}
use Rattle.gate_core.specs.declared.event.Reply.{Reply}
use Rattle.gate_core.specs.declared.event.Reply.TheVariants as reply
use Rattle.gate_core.specs.declared.submit.Refused.{Refused}
use Rattle.gate_core.specs.declared.submit.Refused.TheVariants.{Closing, Spent, Full}
use Rattle.gate_core.specs.declared.submit.CloseFault.{CloseFault}
use Rattle.gate_core.specs.declared.submit.CloseFault.TheVariants.{AlreadyClosing, OutOfMemory}
use Rattle.gate_core.specs.Limits.{Limits}
use Rattle.gate_core.specs.Merge.{numbered}
use Rattle.gate_core.specs.Legal.{Run, all_queued, queued, taken, has_ended, has_joined, is_open, has_looked, last_own, is_open_look, look_reply}
use Rattle.gate_core.specs.LocalClient.{submitted, closed_by}
use Rattle.gate_core.proofs.Merges.{of_client-append, of_client_other}
use Rattle.gate_core.proofs.Runs.{queued-own}
use Rattle.gate_queue.specs.Client.{client_state}
use Rattle.gate_replay.specs.Allowed.{shown_close, AllowsPush, BeginsEach, IsAllowed}
use Rattle.gate_replay.specs.SoloGate.{SoloState, solo_of, KeepsRest, SoloSubmits, SoloLooks, SoloCloses, IsAfter}
use Rattle.gate_replay.specs.laws.SoloWorlds.{open_at}

-- ---- what may be known

if_some : {X : Type 0} (P Q : X → Type 0) (o : Option X) → ((x : X) → P x → Q x) → IfSome o P → IfSome o Q
if_some P Q None f h = tt
if_some P Q (Some x) f h = f x h

-- ---- a run that goes on

-- nobody was taken in
pub begins_none : (run : Run) → ((client : ℕ) → has_joined client run ≡ false) → BeginsEach run
begins_none run h = λ client joined. absurd (let none = h client in cc)

-- the queue with the served client as it is after a longer run
record GoesOn (old : SoloState) (items : List Numbered) (known : Option Moment) (run more : Run) : Type 0 where
  items_are : items ≡ queued old.client.number more
  known_is : known ≡ shown_close more
  others_same : queued old.other.number more ≡ queued old.other.number run
  taken_same : taken more ≡ taken run
  still_shown : (first : Moment) → shown_close run ≡ Some first → shown_close more ≡ Some first
  ended_same : (client : ℕ) → has_ended client more ≡ has_ended client run
  joined_same : (client : ℕ) → has_joined client more ≡ has_joined client run
  more_allowed : IsAllowed old.client.gate.limits more

goes_on : (old : SoloState) (items : List Numbered) (known : Option Moment) (run more : Run) → GoesOn old items known run more → IsAfter old run
    → IsAfter (solo_of (client_state old.client.gate old.client.number items known) old.other old.taker) more
goes_on old items known run more g h = record {
  gates = h.gates;
  two_clients = h.two_clients;
  number_is = h.number_is;
  other_number_is = h.other_number_is;
  queued_is = g.items_are;
  other_queued_is = h.other_queued_is ∙ sym g.others_same;
  taken_is = h.taken_is ∙ sym g.taken_same;
  none_taken_in = h.none_taken_in;
  closed_is = g.known_is;
  other_knows = if_some (λ first. shown_close run ≡ Some first) (λ first. shown_close more ≡ Some first) old.other.known_close g.still_shown h.other_knows;
  nobody_ended = λ client. g.ended_same client ∙ h.nobody_ended client;
  nobody_joined = λ client. g.joined_same client ∙ h.nobody_joined client;
  allowed = g.more_allowed;
}

-- a queue whose other parts stayed
with_client : (old new : SoloState) (items : List Numbered) (known : Option Moment) (run : Run) → new.client ≡ client_state old.client.gate old.client.number items known → KeepsRest old new
    → IsAfter (solo_of (client_state old.client.gate old.client.number items known) old.other old.taker) run → IsAfter new run
with_client old new items known run is rest h =
    let same : new ≡ solo_of (client_state old.client.gate old.client.number items known) old.other old.taker = λ i. solo_of (is i) (rest.other i) (rest.taker i) in
    subst (λ (d : SoloState). IsAfter d run) (sym same) h

-- the served client is open
served_open : (queue : SoloState) (run : Run) → IsAfter queue run → is_open queue.client.gate.limits queue.client.number run ≡ true
served_open queue run h = open_at queue.client.gate.limits queue.client.number run h.two_clients h.number_is (h.nobody_ended queue.client.number)

-- a client that looked and was answered Open may push
may_push : (limits : Limits) (client : ℕ) (run : Run) → is_open limits client run ≡ true → (is_open limits client ((Look client, reply.Open) ∷ run) && has_looked client ((Look client, reply.Open) ∷ run)) ≡ true
may_push limits client run active =
    let looked : has_looked client ((Look client, reply.Open) ∷ run) ≡ true = ap (λ b. is_open_look (cond b (Some (Look client, reply.Open)) (last_own client run))) (eq-eqb client client refl) in
    ap (λ b. b && has_looked client ((Look client, reply.Open) ∷ run)) active ∙ looked

-- the other client's items after a push of the served client
other_unmoved : (client other number : ℕ) (body : Body) (run : Run) → client ≢ other → queued other ((Push client body, reply.Queued number) ∷ run) ≡ queued other run
other_unmoved client other number body run ne =
    of_client-append other (all_queued run) (numbered client number body ∷ []) ∙ ap (λ (l : List Numbered). queued other run ++ l) (of_client_other other (numbered client number body) ne) ∙ append-nil (queued other run)

not_other : (client other : ℕ) → client + other ≡ 3 → client ≢ other
not_other client other sum = λ same. omega (arith, sum, same)

-- a look answered Open, where no close is known
looked_open : (queue : SoloState) (run : Run) → queue.client.known_close ≡ None → IsAfter queue run → IsAllowed queue.client.gate.limits ((Look queue.client.number, reply.Open) ∷ run)
looked_open queue run none h = ((served_open queue run h, sym h.closed_is ∙ none), begins_none ((Look queue.client.number, reply.Open) ∷ run) h.nobody_joined, h.allowed)

-- a push after it
pushed : (queue : SoloState) (body : Body) (r : Reply) (run : Run) → queue.client.known_close ≡ None → IsAfter queue run
    → AllowsPush queue.client.gate.limits ((Look queue.client.number, reply.Open) ∷ run) queue.client.number body r
    → ((client : ℕ) → has_joined client ((Push queue.client.number body, r) ∷ (Look queue.client.number, reply.Open) ∷ run) ≡ false)
    → IsAllowed queue.client.gate.limits ((Push queue.client.number body, r) ∷ (Look queue.client.number, reply.Open) ∷ run)
pushed queue body r run none h allows unjoined = (allows, begins_none ((Push queue.client.number body, r) ∷ (Look queue.client.number, reply.Open) ∷ run) unjoined, looked_open queue run none h)

-- ---- calls

after_queued : (old : SoloState) (body : Body) (number : ℕ) (run : Run) → number ≡ length old.client.queued + 1 → old.client.known_close ≡ None → length old.client.queued < old.client.gate.limits.quota → IsAfter old run
    → IsAfter (solo_of (client_state old.client.gate old.client.number (old.client.queued ++ numbered old.client.number number body ∷ []) None) old.other old.taker) (submitted old.client.number body (Ok number) ++ run)
after_queued old body number run next none within h =
    let c : ℕ = old.client.number in
    let looked : Run = (Look c, reply.Open) ∷ run in
    let count : length old.client.queued ≡ length (queued c run) = ap length h.queued_is in
    goes_on old (old.client.queued ++ numbered c number body ∷ []) None run ((Push c body, reply.Queued number) ∷ looked) (record {
      items_are = ap (λ (l : List Numbered). l ++ numbered c number body ∷ []) h.queued_is ∙ sym (queued-own c number body looked);
      known_is = sym none ∙ h.closed_is;
      others_same = other_unmoved c old.other.number number body looked (not_other c old.other.number h.other_number_is);
      taken_same = refl;
      still_shown = λ first shown. shown;
      ended_same = λ client. refl;
      joined_same = λ client. refl;
      more_allowed = pushed old body (reply.Queued number) run none h (may_push old.client.gate.limits c run (served_open old run h), subst (λ n. n < old.client.gate.limits.quota) count within, next ∙ ap (λ n. n + 1) count) h.nobody_joined;
    }) h

-- refusals
after_spent : (old : SoloState) (body returned : Body) (run : Run) → returned ≡ body → old.client.known_close ≡ None → length old.client.queued ≡ old.client.gate.limits.quota → IsAfter old run
    → IsAfter old (submitted old.client.number body (Err (Spent returned)) ++ run)
after_spent old body returned run same none spent h =
    let c : ℕ = old.client.number in
    goes_on old old.client.queued old.client.known_close run ((Push c body, reply.Spent returned) ∷ (Look c, reply.Open) ∷ run) (record {
      items_are = h.queued_is;
      known_is = h.closed_is;
      others_same = refl;
      taken_same = refl;
      still_shown = λ first shown. shown;
      ended_same = λ client. refl;
      joined_same = λ client. refl;
      more_allowed = pushed old body (reply.Spent returned) run none h (may_push old.client.gate.limits c run (served_open old run h), same, sym (ap length h.queued_is) ∙ spent) h.nobody_joined;
    }) h

after_full : (old : SoloState) (body returned : Body) (run : Run) → returned ≡ body → old.client.known_close ≡ None → length old.client.queued < old.client.gate.limits.quota
    → old.client.gate.limits.capacity ≤ length old.client.queued + (old.client.gate.limits.clients - 1) * old.client.gate.limits.quota → IsAfter old run
    → IsAfter old (submitted old.client.number body (Err (Full returned)) ++ run)
after_full old body returned run same none within bound h =
    let c : ℕ = old.client.number in
    let limits : Limits = old.client.gate.limits in
    goes_on old old.client.queued old.client.known_close run ((Push c body, reply.Full returned) ∷ (Look c, reply.Open) ∷ run) (record {
      items_are = h.queued_is;
      known_is = h.closed_is;
      others_same = refl;
      taken_same = refl;
      still_shown = λ first shown. shown;
      ended_same = λ client. refl;
      joined_same = λ client. refl;
      more_allowed = pushed old body (reply.Full returned) run none h
          (may_push limits c run (served_open old run h), same, subst (λ (l : List Numbered). length l < limits.quota) h.queued_is within, subst (λ (l : List Numbered). limits.capacity ≤ length l + (limits.clients - 1) * limits.quota) h.queued_is bound) h.nobody_joined;
    }) h

-- a look that found the close
after_found : (old : SoloState) (first : Moment) (run : Run) → IfSome old.client.known_close (λ known. known ≡ first) → IsAfter old run
    → IsAfter (solo_of (client_state old.client.gate old.client.number old.client.queued (Some first)) old.other old.taker) ((Look old.client.number, reply.Closing first) ∷ run)
after_found old first run knew h =
    let c : ℕ = old.client.number in
    let shown : IfSome (shown_close run) (λ known. known ≡ first) = subst (λ (o : Option Moment). IfSome o (λ known. known ≡ first)) h.closed_is knew in
    goes_on old old.client.queued (Some first) run ((Look c, reply.Closing first) ∷ run) (record {
      items_are = h.queued_is;
      known_is = refl;
      others_same = refl;
      taken_same = refl;
      still_shown = λ known is. ap Some (sym (subst (λ (o : Option Moment). IfSome o (λ k. k ≡ first)) is shown));
      ended_same = λ client. refl;
      joined_same = λ client. refl;
      more_allowed = ((served_open old run h, shown), begins_none ((Look c, reply.Closing first) ∷ run) h.nobody_joined, h.allowed);
    }) h

-- a look that found none
after_none : (old : SoloState) (run : Run) → old.client.known_close ≡ None → IsAfter old run
    → IsAfter (solo_of (client_state old.client.gate old.client.number old.client.queued None) old.other old.taker) ((Look old.client.number, reply.Open) ∷ run)
after_none old run none h =
    let c : ℕ = old.client.number in
    goes_on old old.client.queued None run ((Look c, reply.Open) ∷ run) (record {
      items_are = h.queued_is;
      known_is = sym none ∙ h.closed_is;
      others_same = refl;
      taken_same = refl;
      still_shown = λ known is. is;
      ended_same = λ client. refl;
      joined_same = λ client. refl;
      more_allowed = looked_open old run none h;
    }) h

-- a queue of which nothing changed
unchanged : (old new : SoloState) (run : Run) → new.client ≡ old.client → KeepsRest old new → IsAfter old run → IsAfter new run
unchanged old new run is rest h =
    let same : new ≡ old = λ i. solo_of (is i) (rest.other i) (rest.taker i) in
    subst (λ (d : SoloState). IsAfter d run) (sym same) h

pub after_submit : (old new : SoloState) (body : Body) (result : Result ℕ Refused) (run : Run) → SoloSubmits old body result new → IsAfter old run → IsAfter new (submitted old.client.number body result ++ run)
after_submit old new body (Ok number) run a h =
    with_client old new (old.client.queued ++ numbered old.client.number number body ∷ []) None (submitted old.client.number body (Ok number) ++ run) a.0.3 a.1
    (after_queued old body number run a.0.0 a.0.1 a.0.2 h)
after_submit old new body (Err (Closing first returned)) run a h =
    with_client old new old.client.queued (Some first) (submitted old.client.number body (Err (Closing first returned)) ++ run) a.0.1 a.1 (after_found old first run a.0.2 h)
after_submit old new body (Err (Spent returned)) run a h =
    unchanged old new (submitted old.client.number body (Err (Spent returned)) ++ run) a.0.1 a.1 (after_spent old body returned run a.0.0 a.0.2 a.0.3 h)
after_submit old new body (Err (Full returned)) run a h =
    unchanged old new (submitted old.client.number body (Err (Full returned)) ++ run) a.0.1 a.1 (after_full old body returned run a.0.0 a.0.2 a.0.3 a.0.5 h)

known_before : (first : Option Moment) (result : Moment) → IfSome first (λ known. Some result ≡ Some known) → IfSome first (λ known. known ≡ result)
known_before first result h = if_some (λ known. Some result ≡ Some known) (λ known. known ≡ result) first (λ known e. cc) h

none_before : (known : Option Moment) → IfSome known (λ first. None ≡ Some first) → known ≡ None
none_before None h = refl
none_before (Some first) h = absurd (cc)

pub after_look : (old new : SoloState) (result : Option Moment) (run : Run) → SoloLooks old result new → IfSome old.client.known_close (λ first. result ≡ Some first) → IsAfter old run
    → IsAfter new ((Look old.client.number, look_reply result) ∷ run)
after_look old new None run a knew h =
    with_client old new old.client.queued None ((Look old.client.number, reply.Open) ∷ run) a.0 a.1 (after_none old run (none_before old.client.known_close knew) h)
after_look old new (Some first) run a knew h =
    with_client old new old.client.queued (Some first) ((Look old.client.number, reply.Closing first) ∷ run) a.0 a.1 (after_found old first run (known_before old.client.known_close first knew) h)

-- a close that began, and one that found another
after_begun : (old : SoloState) (moment : Moment) (run : Run) → old.client.known_close ≡ None → IsAfter old run
    → IsAfter (solo_of (client_state old.client.gate old.client.number old.client.queued (Some moment)) old.other old.taker) ((Close moment, reply.Begun) ∷ run)
after_begun old moment run none h =
    let unshown : shown_close run ≡ None = sym h.closed_is ∙ none in
    goes_on old old.client.queued (Some moment) run ((Close moment, reply.Begun) ∷ run) (record {
      items_are = h.queued_is;
      known_is = refl;
      others_same = refl;
      taken_same = refl;
      still_shown = λ known is. absurd (cc);
      ended_same = λ client. refl;
      joined_same = λ client. refl;
      more_allowed = (unshown, begins_none ((Close moment, reply.Begun) ∷ run) h.nobody_joined, h.allowed);
    }) h

after_second : (old : SoloState) (moment first : Moment) (run : Run) → IfSome old.client.known_close (λ known. known ≡ first) → IsAfter old run
    → IsAfter (solo_of (client_state old.client.gate old.client.number old.client.queued (Some first)) old.other old.taker) ((Close moment, reply.AlreadyClosing first) ∷ run)
after_second old moment first run knew h =
    let shown : IfSome (shown_close run) (λ known. known ≡ first) = subst (λ (o : Option Moment). IfSome o (λ known. known ≡ first)) h.closed_is knew in
    goes_on old old.client.queued (Some first) run ((Close moment, reply.AlreadyClosing first) ∷ run) (record {
      items_are = h.queued_is;
      known_is = refl;
      others_same = refl;
      taken_same = refl;
      still_shown = λ known is. ap Some (sym (subst (λ (o : Option Moment). IfSome o (λ k. k ≡ first)) is shown));
      ended_same = λ client. refl;
      joined_same = λ client. refl;
      more_allowed = (shown, begins_none ((Close moment, reply.AlreadyClosing first) ∷ run) h.nobody_joined, h.allowed);
    }) h

pub after_close : (old new : SoloState) (moment : Moment) (result : Result Moment CloseFault) (run : Run) → SoloCloses old moment result new → IsAfter old run → IsAfter new (closed_by moment result ++ run)
after_close old new moment (Ok first) run a h = with_client old new old.client.queued (Some moment) ((Close moment, reply.Begun) ∷ run) a.0.2 a.1 (after_begun old moment run a.0.1 h)
after_close old new moment (Err (AlreadyClosing first)) run a h =
    with_client old new old.client.queued (Some first) ((Close moment, reply.AlreadyClosing first) ∷ run) a.0.0 a.1 (after_second old moment first run a.0.1 h)
after_close old new moment (Err OutOfMemory) run a h = unchanged old new run a.0.1 a.1 h
