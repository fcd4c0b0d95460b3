-- Only proofs use this: legal runs are allowed.
use Rattle.std.proofs.Common.{◌≡◌, ℕ, ◌+◌, ◌-◌, ◌*◌, ◌≤◌, ◌&&◌, List, [], ◌∷◌, ◌++◌, length, drop, Option, Some, None, Bool, true, false, cond, eqb, refl, sym, ap, ◌∙◌, subst, arith}
use Rattle.std.specs.Prelude.{slice_get, unwrap_or}
use Rattle.std.proofs.lemmas.Bool.{eqb-true, eqb-false}
use Rattle.std.proofs.lemmas.List.{append-nil}
use Rattle.gate_model.specs.declared.record.Moment.{Moment}
use Rattle.gate_model.specs.declared.submission.Body.{Body}
use Rattle.gate_model.specs.declared.submission.Numbered.{Numbered}
use Rattle.gate_core.specs.declared.event.Event.TheVariants.{Look, Push, Take, Close, End, TakeIn}
use Rattle.gate_core.specs.declared.event.Reply.{Reply}
use Rattle.gate_core.specs.declared.event.Reply.TheVariants as reply
use Rattle.gate_core.specs.Limits.{Limits}
use Rattle.gate_core.specs.Merge.{IsClient, of_client, IsCoreState}
use Rattle.gate_core.specs.Legal.{Run, all_queued, queued, taken, waiting, first_close, has_joined, is_open, has_looked, look_reply, take_reply, close_reply, reply_after, IsLegal}
use Rattle.gate_core.proofs.Runs.{open_client, sound, front_is, was_queued}
use Rattle.gate_core.proofs.Counts.{next_number, length_beside, taken_and_queued}
use Rattle.gate_core.proofs.Endings.{past, joined_ended}
use Rattle.gate_core.proofs.Indexes.{first_and_rest, no_first}
use Rattle.gate_replay.specs.Allowed.{shown_close, AllowsLook, AllowsClose, AllowsPush, AllowsTake, BeginsEach, IsAllowed}

-- ---- the close

-- a reply that a legal run has to a look or a close
look_allowed : (active : Bool) (closed : Option Moment) → AllowsLook active closed (cond active (look_reply closed) (reply.Ignored None))
look_allowed true None = (refl, refl)
look_allowed true (Some first) = (refl, refl)
look_allowed false closed = (refl, refl)

close_allowed : (closed : Option Moment) → AllowsClose closed (close_reply closed)
close_allowed None = refl
close_allowed (Some first) = refl

-- the first close of a legal run is the one that is shown
shown_by_look : (client : ℕ) (r : Reply) (run : Run) (active : Bool) (closed : Option Moment) → r ≡ cond active (look_reply closed) (reply.Ignored None) → shown_close run ≡ closed → shown_close ((Look client, r) ∷ run) ≡ closed
shown_by_look client r run true None e h = subst (λ (x : Reply). shown_close ((Look client, x) ∷ run) ≡ None) (sym e) h
shown_by_look client r run true (Some first) e h = subst (λ (x : Reply). shown_close ((Look client, x) ∷ run) ≡ Some first) (sym e) refl
shown_by_look client r run false closed e h = subst (λ (x : Reply). shown_close ((Look client, x) ∷ run) ≡ closed) (sym e) h

shown_by_close : (moment : Moment) (r : Reply) (run : Run) (closed : Option Moment) → r ≡ close_reply closed → first_close run ≡ closed → shown_close ((Close moment, r) ∷ run) ≡ first_close ((Close moment, r) ∷ run)
shown_by_close moment r run None e h = subst (λ (x : Reply). shown_close ((Close moment, x) ∷ run) ≡ first_close ((Close moment, r) ∷ run)) (sym e) (ap (λ o. Some (unwrap_or o moment)) (sym h))
shown_by_close moment r run (Some first) e h = subst (λ (x : Reply). shown_close ((Close moment, x) ∷ run) ≡ first_close ((Close moment, r) ∷ run)) (sym e) (ap (λ o. Some (unwrap_or o moment)) (sym h))

pub shown_is_first : (limits : Limits) (run : Run) → IsLegal limits run → shown_close run ≡ first_close run
shown_is_first limits [] h = refl
shown_is_first limits ((Look client, r) ∷ run) h = shown_by_look client r run (is_open limits client run) (first_close run) h.0 (shown_is_first limits run h.1)
shown_is_first limits ((Push client body, r) ∷ run) h = shown_is_first limits run h.1
shown_is_first limits ((Take, r) ∷ run) h = shown_is_first limits run h.1
shown_is_first limits ((Close moment, r) ∷ run) h = shown_by_close moment r run (first_close run) h.0 refl
shown_is_first limits ((End client, r) ∷ run) h = shown_is_first limits run h.1
shown_is_first limits ((TakeIn client, r) ∷ run) h = shown_is_first limits run h.1

allows_look : (limits : Limits) (client : ℕ) (r : Reply) (run : Run) → IsLegal limits run → r ≡ reply_after limits run (Look client) → AllowsLook (is_open limits client run) (shown_close run) r
allows_look limits client r run legal e =
    subst (λ (x : Reply). AllowsLook (is_open limits client run) (shown_close run) x) (sym e)
    (subst (λ closed. AllowsLook (is_open limits client run) closed (reply_after limits run (Look client))) (sym (shown_is_first limits run legal)) (look_allowed (is_open limits client run) (first_close run)))

allows_close : (limits : Limits) (moment : Moment) (r : Reply) (run : Run) → IsLegal limits run → r ≡ reply_after limits run (Close moment) → AllowsClose (shown_close run) r
allows_close limits moment r run legal e =
    subst (λ (x : Reply). AllowsClose (shown_close run) x) (sym e)
    (subst (λ closed. AllowsClose closed (close_reply (first_close run))) (sym (shown_is_first limits run legal)) (close_allowed (first_close run)))

-- ---- pushes

-- the tests of a push that was answered Spent, Full or Queued
spent_rule : (ready spent full : Bool) (returned body : Body) (n : ℕ) → reply.Spent returned ≡ cond ready (cond spent (reply.Spent body) (cond full (reply.Full body) (reply.Queued n))) (reply.Ignored (Some body)) → (ready ≡ true) × (returned ≡ body) × (spent ≡ true)
spent_rule true true full returned body n e = (refl, cc, refl)
spent_rule true false true returned body n e = absurd (cc)
spent_rule true false false returned body n e = absurd (cc)
spent_rule false spent full returned body n e = absurd (cc)

full_rule : (ready spent full : Bool) (returned body : Body) (n : ℕ) → reply.Full returned ≡ cond ready (cond spent (reply.Spent body) (cond full (reply.Full body) (reply.Queued n))) (reply.Ignored (Some body)) → (ready ≡ true) × (returned ≡ body) × (spent ≡ false) × (full ≡ true)
full_rule true true full returned body n e = absurd (cc)
full_rule true false true returned body n e = (refl, cc, refl, refl)
full_rule true false false returned body n e = absurd (cc)
full_rule false spent full returned body n e = absurd (cc)

ready_rule : (ready spent full : Bool) (body : Body) (n k : ℕ) → reply.Queued k ≡ cond ready (cond spent (reply.Spent body) (cond full (reply.Full body) (reply.Queued n))) (reply.Ignored (Some body)) → ready ≡ true
ready_rule true spent full body n k e = refl
ready_rule false spent full body n k e = absurd (cc)

left_of : (a b : Bool) → (a && b) ≡ true → a ≡ true
left_of true b e = refl
left_of false b e = absurd (cc)

within_bound : (whole bound all_items taken_items capacity : ℕ) → whole ≤ bound → whole ≡ all_items → all_items - taken_items ≡ capacity → capacity ≤ bound
within_bound whole bound all_items taken_items capacity a b c = omega (arith, a, b, c)

-- a full queue has no more than the client's items and the others' quotas
full_bound : (limits : Limits) (client : ℕ) (run : Run) → IsLegal limits run → is_open limits client run ≡ true → length (all_queued run) - length (taken run) ≡ limits.capacity
    → limits.capacity ≤ length (queued client run) + (limits.clients - 1) * limits.quota
full_bound limits client run legal active full =
    let s = sound limits run legal in
    let all : length (taken run ++ waiting run) ≤ length (queued client run) + (limits.clients - 1) * limits.quota =
    length_beside limits.clients limits.quota limits.capacity (λ c. queued c run) (taken run) (waiting run) client s.state (open_client limits client run active).0 in
    within_bound (length (taken run ++ waiting run)) (length (queued client run) + (limits.clients - 1) * limits.quota) (length (all_queued run)) (length (taken run)) limits.capacity all (ap length s.whole) full

allows_push : (limits : Limits) (client : ℕ) (body : Body) (r : Reply) (run : Run) → IsLegal limits run → r ≡ reply_after limits run (Push client body) → AllowsPush limits run client body r
allows_push limits client body (reply.Queued number) run legal e =
    let was = was_queued limits client number body run e in (
      ready_rule (is_open limits client run && has_looked client run) (eqb (length (queued client run)) limits.quota) _ body (length (queued client run) + 1) number e,
      omega (arith, (sound limits run legal).state.within_quota client was.client_is, was.not_spent),
      was.number_is,
    )
allows_push limits client body (reply.Spent returned) run legal e =
    let rule = spent_rule (is_open limits client run && has_looked client run) (eqb (length (queued client run)) limits.quota) _ returned body (length (queued client run) + 1) e in
    (rule.0, rule.1, eqb-true (length (queued client run)) limits.quota rule.2)
allows_push limits client body (reply.Full returned) run legal e =
    let rule = full_rule (is_open limits client run && has_looked client run) (eqb (length (queued client run)) limits.quota) (eqb (length (all_queued run) - length (taken run)) limits.capacity) returned body (length (queued client run) + 1) e in
    let active = left_of (is_open limits client run) (has_looked client run) rule.0 in (
      rule.0,
      rule.1,
      omega (arith, (sound limits run legal).state.within_quota client (open_client limits client run active).0, eqb-false (length (queued client run)) limits.quota rule.2),
      full_bound limits client run legal active (eqb-true (length (all_queued run) - length (taken run)) limits.capacity rule.3),
    )
allows_push limits client body r run legal e = e

-- ---- takes

taken_next : (limits : Limits) (run : Run) (item : Numbered) → IsLegal limits run → slice_get (all_queued run) (length (taken run)) ≡ Some item
    → IsClient limits.clients item.client × (item.number ≡ length (of_client item.client (taken run)) + 1)
taken_next limits run item legal e =
    let s = sound limits run legal in
    let parts : waiting run ≡ item ∷ drop 1 (waiting run) = first_and_rest (waiting run) item (sym (front_is limits run s) ∙ e) in
    next_number limits.clients limits.quota limits.capacity (λ client. queued client run) (taken run) item (drop 1 (waiting run))
    (subst (λ (l : List Numbered). IsCoreState limits.clients limits.quota limits.capacity (λ client. queued client run) (taken run) l) parts s.state)

-- what was taken of a client that was taken in, followed by what waits, is what was queued for it
whole_list : (limits : Limits) (run : Run) (client : ℕ) → IsLegal limits run → has_joined client run ≡ true → of_client client (taken run) ++ of_client client (waiting run) ≡ queued client run
whole_list limits run client legal joined =
    taken_and_queued limits.clients limits.quota limits.capacity (λ c. queued c run) (taken run) (waiting run) client (sound limits run legal).state (past limits run legal client (joined_ended limits run legal client joined)).0

begins_each : (limits : Limits) (run : Run) → IsLegal limits run → BeginsEach run
begins_each limits run legal = λ client joined. (of_client client (waiting run), whole_list limits run client legal joined)

all_taken : (limits : Limits) (run : Run) (client : ℕ) → IsLegal limits run → slice_get (all_queued run) (length (taken run)) ≡ None → has_joined client run ≡ true → of_client client (taken run) ≡ queued client run
all_taken limits run client legal e joined =
    let s = sound limits run legal in
    let nothing : waiting run ≡ [] = no_first (waiting run) (sym (front_is limits run s) ∙ e) in
    sym (append-nil (of_client client (taken run))) ∙ ap (λ (l : List Numbered). of_client client (taken run) ++ of_client client l) (sym nothing) ∙ whole_list limits run client legal joined

allows_take : (limits : Limits) (run : Run) (front : Option Numbered) → IsLegal limits run → slice_get (all_queued run) (length (taken run)) ≡ front → AllowsTake limits run (take_reply front)
allows_take limits run None legal e = λ client joined. all_taken limits run client legal e joined
allows_take limits run (Some item) legal e = taken_next limits run item legal e

-- ---- runs

pub legal_allowed : (limits : Limits) (run : Run) → IsLegal limits run → IsAllowed limits run
legal_allowed limits [] h = tt
legal_allowed limits ((Look client, r) ∷ run) h = (allows_look limits client r run h.1 h.0, begins_each limits ((Look client, r) ∷ run) h, legal_allowed limits run h.1)
legal_allowed limits ((Push client body, r) ∷ run) h = (allows_push limits client body r run h.1 h.0, begins_each limits ((Push client body, r) ∷ run) h, legal_allowed limits run h.1)
legal_allowed limits ((Take, r) ∷ run) h =
    (subst (λ (x : Reply). AllowsTake limits run x) (sym h.0) (allows_take limits run (slice_get (all_queued run) (length (taken run))) h.1 refl), begins_each limits ((Take, r) ∷ run) h, legal_allowed limits run h.1)
legal_allowed limits ((Close moment, r) ∷ run) h = (allows_close limits moment r run h.1 h.0, begins_each limits ((Close moment, r) ∷ run) h, legal_allowed limits run h.1)
legal_allowed limits ((End client, r) ∷ run) h = (h.0, begins_each limits ((End client, r) ∷ run) h, legal_allowed limits run h.1)
legal_allowed limits ((TakeIn client, r) ∷ run) h = (h.0, begins_each limits ((TakeIn client, r) ∷ run) h, legal_allowed limits run h.1)
