-- What holds of every legal run.
use Rattle.std.proofs.Common.{◌≡◌, ◌≢◌, ℕ, ◌+◌, ◌-◌, ◌<◌, List, [], ◌∷◌, ◌++◌, length, drop, Option, Some, None, Bool, true, false, not, ◌&&◌, cond, eqb, refl, sym, ap, ◌∙◌, subst, arith, append_assoc, length-append}
use Rattle.std.specs.Prelude.{slice_get, nat_le}
use Rattle.std.proofs.lemmas.Bool.{leb-true, eqb-false}
use Rattle.std.proofs.lemmas.List.{append-nil}
use Rattle.gate_model.specs.declared.submission.Numbered.{Numbered}
use Rattle.gate_model.specs.declared.submission.Body.{Body}
use Rattle.gate_core.specs.declared.event.Event.TheVariants.{Look, Push, Take, Close, End, TakeIn}
use Rattle.gate_core.specs.declared.event.Reply.{Reply}
use Rattle.gate_core.specs.declared.event.Reply.TheVariants.{Ignored, Spent, Full, Queued, Taken, Empty}
use Rattle.gate_core.specs.Merge.{numbered, IsClient, of_client, IsCoreState}
use Rattle.gate_core.specs.Limits.{Limits}
use Rattle.gate_core.specs.Legal.{Run, all_queued, queued, taken, waiting, has_ended, is_open, has_looked, take_reply, reply_after, IsLegal}
use Rattle.gate_core.proofs.Merges.{put, begins, queues, takes, same_sent, put_each, of_client-append, of_client_mine, of_client_other}
use Rattle.gate_core.proofs.Indexes.{drop-front, slice_get-front, first_and_rest}

-- ---- what follows from a reply

-- the tests of a push that was answered Queued
push_rule : (ready spent full : Bool) (body : Body) (n k : ℕ) → Queued k ≡ cond ready (cond spent (Spent body) (cond full (Full body) (Queued n))) (Ignored (Some body)) → (ready ≡ true) × (spent ≡ false) × (full ≡ false) × (k ≡ n)
push_rule true false false body n k e = (refl, refl, refl, cc)
push_rule true false true body n k e = absurd (cc)
push_rule true true full body n k e = absurd (cc)
push_rule false spent full body n k e = absurd (cc)

both : (a b : Bool) → (a && b) ≡ true → (a ≡ true) × (b ≡ true)
both true b e = (refl, e)
both false b e = absurd (cc)

no_right : (a b : Bool) → b ≡ false → (a && b) ≡ false
no_right true b e = e
no_right false b e = refl

not_true : (b : Bool) → not b ≡ true → b ≡ false
not_true true e = absurd (cc)
not_true false e = refl

-- an open client is one of the World's, and hasn't ended
pub open_client : (limits : Limits) (client : ℕ) (run : Run) → is_open limits client run ≡ true → IsClient limits.clients client × (has_ended client run ≡ false)
open_client limits client run e =
    let bounds_and_end = both (nat_le 1 client && nat_le client limits.clients) (not (has_ended client run)) e in
    let bounds = both (nat_le 1 client) (nat_le client limits.clients) bounds_and_end.0 in
    ((leb-true 1 client bounds.0, leb-true client limits.clients bounds.1), not_true (has_ended client run) bounds_and_end.1)

-- what holds of a push that was answered Queued
pub record WasQueued (limits : Limits) (client : ℕ) (number : ℕ) (run : Run) : Type 0 where
  pub client_is : IsClient limits.clients client
  pub not_ended : has_ended client run ≡ false
  pub looked : has_looked client run ≡ true
  pub not_spent : length (queued client run) ≢ limits.quota
  pub not_full : length (all_queued run) - length (taken run) ≢ limits.capacity
  pub number_is : number ≡ length (queued client run) + 1

pub was_queued : (limits : Limits) (client number : ℕ) (body : Body) (run : Run) → Queued number ≡ reply_after limits run (Push client body) → WasQueued limits client number run
was_queued limits client number body run e =
    let rule = push_rule (is_open limits client run && has_looked client run) (eqb (length (queued client run)) limits.quota) (eqb (length (all_queued run) - length (taken run)) limits.capacity) body (length (queued client run) + 1) number e in
    let ready = both (is_open limits client run) (has_looked client run) rule.0 in
    let unended = open_client limits client run ready.0 in
    record {
      client_is = unended.0;
      not_ended = unended.1;
      looked = ready.1;
      not_spent = eqb-false (length (queued client run)) limits.quota rule.1;
      not_full = eqb-false (length (all_queued run) - length (taken run)) limits.capacity rule.2;
      number_is = rule.3;
    }

pub was_taken : (item : Numbered) (front : Option Numbered) → Taken item ≡ take_reply front → front ≡ Some item
was_taken item None e = absurd (cc)
was_taken item (Some other) e = cc

pub was_empty : (front : Option Numbered) → Empty ≡ take_reply front → front ≡ None
was_empty None e = refl
was_empty (Some other) e = absurd (cc)

-- ---- what was taken and what waits

pub record IsSound (limits : Limits) (run : Run) : Type 0 where
  pub whole : taken run ++ waiting run ≡ all_queued run
  pub state : IsCoreState limits.clients limits.quota limits.capacity (λ client. queued client run) (taken run) (waiting run)

-- the queue is what waits
sound_with : (limits : Limits) (run : Run) (queue : List Numbered) → taken run ++ queue ≡ all_queued run → IsCoreState limits.clients limits.quota limits.capacity (λ client. queued client run) (taken run) queue → IsSound limits run
sound_with limits run queue whole state =
    let same : queue ≡ waiting run = sym (ap (drop (length (taken run))) (sym whole) ∙ drop-front (taken run) queue) in
    record {
      whole = ap (λ l. taken run ++ l) (sym same) ∙ whole;
      state = subst (λ l. IsCoreState limits.clients limits.quota limits.capacity (λ client. queued client run) (taken run) l) same state;
    }

-- a client's list after a push of its own
pub queued-own : (client number : ℕ) (body : Body) (run : Run) → queued client ((Push client body, Queued number) ∷ run) ≡ queued client run ++ numbered client number body ∷ []
queued-own client number body run = of_client-append client (all_queued run) (numbered client number body ∷ []) ∙ ap (λ l. queued client run ++ l) (of_client_mine client number body)

-- the clients' lists after one more item
pub queued-more : (run : Run) (client : ℕ) (number : ℕ) (body : Body) (d : ℕ) → put (λ c. queued c run) client (queued client run ++ numbered client number body ∷ []) d ≡ of_client d (all_queued run ++ numbered client number body ∷ [])
queued-more run client number body d =
    put_each (λ c l. l ≡ of_client c (all_queued run ++ numbered client number body ∷ [])) (λ c. queued c run) client (queued client run ++ numbered client number body ∷ []) d
    (λ _. sym (of_client-append client (all_queued run) (numbered client number body ∷ []) ∙ ap (λ l. queued client run ++ l) (of_client_mine client number body)))
    (λ ne. sym (of_client-append d (all_queued run) (numbered client number body ∷ []) ∙ ap (λ l. queued d run ++ l) (of_client_other d (numbered client number body) (λ e. ne (sym e))) ∙ append-nil (queued d run)))

sound_push : (limits : Limits) (client number : ℕ) (body : Body) (run : Run) → WasQueued limits client number run → IsSound limits run → IsSound limits ((Push client body, Queued number) ∷ run)
sound_push limits client number body run was h =
    let next : ℕ = length (queued client run) + 1 in
    let item : Numbered = numbered client next body in
    let quota_left : length (queued client run) < limits.quota = omega (arith, h.state.within_quota client was.client_is, was.not_spent) in
    let room : length (waiting run) < limits.capacity = omega (arith, h.state.within_capacity, was.not_full, ap length (sym h.whole), length-append (taken run) (waiting run)) in
    subst (λ k. IsSound limits ((Push client body, Queued k) ∷ run)) (sym was.number_is)
    (sound_with limits ((Push client body, Queued next) ∷ run) (waiting run ++ item ∷ [])
    (sym (append_assoc (taken run) (waiting run) (item ∷ [])) ∙ ap (λ l. l ++ item ∷ []) h.whole)
    (same_sent limits.clients limits.quota limits.capacity (put (λ c. queued c run) client (queued client run ++ item ∷ [])) (λ c. queued c ((Push client body, Queued next) ∷ run)) (taken run) (waiting run ++ item ∷ [])
    (λ d _. queued-more run client next body d)
    (queues limits.clients limits.quota limits.capacity (λ c. queued c run) (taken run) (waiting run) client body h.state was.client_is quota_left room)))

-- the oldest item that waits is the next one to be taken
pub front_is : (limits : Limits) (run : Run) → IsSound limits run → slice_get (all_queued run) (length (taken run)) ≡ slice_get (waiting run) 0
front_is limits run h = ap (λ l. slice_get l (length (taken run))) (sym h.whole) ∙ slice_get-front (taken run) (waiting run)

sound_take : (limits : Limits) (item : Numbered) (run : Run) → slice_get (all_queued run) (length (taken run)) ≡ Some item → IsSound limits run → IsSound limits ((Take, Taken item) ∷ run)
sound_take limits item run e h =
    let rest : List Numbered = drop 1 (waiting run) in
    let front : waiting run ≡ item ∷ rest = first_and_rest (waiting run) item (sym (front_is limits run h) ∙ e) in
    sound_with limits ((Take, Taken item) ∷ run) rest
    (append_assoc (taken run) (item ∷ []) rest ∙ ap (λ l. taken run ++ l) (sym front) ∙ h.whole)
    (takes limits.clients limits.quota limits.capacity (λ c. queued c run) (taken run) item rest
    (subst (λ l. IsCoreState limits.clients limits.quota limits.capacity (λ c. queued c run) (taken run) l) front h.state))

sound_on_push : (limits : Limits) (client : ℕ) (body : Body) (reply : Reply) (run : Run) → reply ≡ reply_after limits run (Push client body) → IsSound limits run → IsSound limits ((Push client body, reply) ∷ run)
sound_on_push limits client body (Queued number) run e h = sound_push limits client number body run (was_queued limits client number body run e) h
sound_on_push limits client body reply run e h = record { whole = h.whole; state = h.state }

sound_on_take : (limits : Limits) (reply : Reply) (run : Run) → reply ≡ reply_after limits run Take → IsSound limits run → IsSound limits ((Take, reply) ∷ run)
sound_on_take limits (Taken item) run e h = sound_take limits item run (was_taken item (slice_get (all_queued run) (length (taken run))) e) h
sound_on_take limits reply run e h = record { whole = h.whole; state = h.state }

pub sound : (limits : Limits) (run : Run) → IsLegal limits run → IsSound limits run
sound limits [] h = record { whole = refl; state = begins limits.clients limits.quota limits.capacity }
sound limits ((Look client, reply) ∷ run) h = let below = sound limits run h.1 in record { whole = below.whole; state = below.state }
sound limits ((Push client body, reply) ∷ run) h = sound_on_push limits client body reply run h.0 (sound limits run h.1)
sound limits ((Take, reply) ∷ run) h = sound_on_take limits reply run h.0 (sound limits run h.1)
sound limits ((Close moment, reply) ∷ run) h = let below = sound limits run h.1 in record { whole = below.whole; state = below.state }
sound limits ((End client, reply) ∷ run) h = let below = sound limits run h.1 in record { whole = below.whole; state = below.state }
sound limits ((TakeIn client, reply) ∷ run) h = let below = sound limits run h.1 in record { whole = below.whole; state = below.state }
