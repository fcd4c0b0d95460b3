-- Only proofs use this: once all clients were taken in and the queue was found empty, nothing is left to take, in an allowed run too.
use Rattle.std.proofs.Common.{◌≡◌, ℕ, ◌+◌, List, [], ◌∷◌, ◌++◌, length, None, Bool, true, false, not, ◌&&◌, ◌||◌, cond, eqb, refl, sym, ap, ◌∙◌, subst, arith, length-append}
use Rattle.std.specs.Prelude.{All}
use Rattle.std.proofs.lemmas.Bool.{eqb-true}
use Rattle.std.proofs.lemmas.List.Elements.{All-push}
use Rattle.gate_model.specs.declared.submission.Body.{Body}
use Rattle.gate_model.specs.declared.submission.Numbered.{Numbered}
use Rattle.gate_core.specs.declared.event.Event.{Event}
use Rattle.gate_core.specs.declared.event.Event.TheVariants.{Look, Push, Take, Close, End, TakeIn}
use Rattle.gate_core.specs.declared.event.Reply.{Reply}
use Rattle.gate_core.specs.declared.event.Reply.TheVariants as reply
use Rattle.gate_core.specs.Limits.{Limits}
use Rattle.gate_core.specs.Merge.{IsClient, of_client, IsMerge}
use Rattle.gate_core.specs.Legal.{Run, queued, taken, is_joining_of, has_ended, has_joined, is_open, has_looked, reply_after}
use Rattle.gate_core.specs.Law.{IsDrained}
use Rattle.gate_core.proofs.Merges.{of_client-append, of_client_mine}
use Rattle.gate_core.proofs.Runs.{open_client}
use Rattle.gate_core.proofs.Endings.{still_ended}
use Rattle.gate_replay.specs.Allowed.{AllowsPush, AllowsTake, BeginsEach, IsAllowed}

-- ---- who was taken in

was_joined : (ended joined : Bool) → reply.Joined ≡ cond (ended && not joined) reply.Joined (reply.Ignored None) → ended ≡ true
was_joined true joined e = refl
was_joined false joined e = absurd (cc)

either : (a b : Bool) (P : Type 0) → (a || b) ≡ true → (a ≡ true → P) → (b ≡ true → P) → P
either true b P e left right = left refl
either false b P e left right = right e

joined_on : (limits : Limits) (joining : ℕ) (r : Reply) (run : Run) (client : ℕ) → r ≡ reply_after limits run (TakeIn joining) → (has_joined client run ≡ true → has_ended client run ≡ true) → has_joined client ((TakeIn joining, r) ∷ run) ≡ true → has_ended client run ≡ true
joined_on limits joining reply.Joined run client e below joined =
    either (eqb joining client) (has_joined client run) (has_ended client run ≡ true) joined
    (λ same. subst (λ c. has_ended c run ≡ true) (eqb-true joining client same) (was_joined (has_ended joining run) (has_joined joining run) e))
    below
joined_on limits joining r run client e below joined = below joined

joined_ended : (limits : Limits) (run : Run) → IsAllowed limits run → (client : ℕ) → has_joined client run ≡ true → has_ended client run ≡ true
joined_ended limits [] h client joined = absurd (cc)
joined_ended limits ((Look looking, r) ∷ run) h client joined = joined_ended limits run h.2 client joined
joined_ended limits ((Push pushing body, r) ∷ run) h client joined = joined_ended limits run h.2 client joined
joined_ended limits ((Take, r) ∷ run) h client joined = joined_ended limits run h.2 client joined
joined_ended limits ((Close moment, r) ∷ run) h client joined = joined_ended limits run h.2 client joined
joined_ended limits ((End ending, r) ∷ run) h client joined = still_ended client (End ending, r) run (joined_ended limits run h.2 client joined)
joined_ended limits ((TakeIn joining, r) ∷ run) h client joined = joined_on limits joining r run client h.0 (joined_ended limits run h.2 client) joined

still_joined : (client : ℕ) (pair : Event × Reply) (run : Run) → has_joined client run ≡ true → has_joined client (pair ∷ run) ≡ true
still_joined client pair run e = go (is_joining_of client pair)
  where
    go : (b : Bool) → (b || has_joined client run) ≡ true
    go true = refl
    go false = e

-- ---- what was taken

taken_of_clients : (limits : Limits) (r : Reply) (run : Run) → AllowsTake limits run r → All (λ (x : Numbered). IsClient limits.clients x.client) (taken run) → All (λ (x : Numbered). IsClient limits.clients x.client) (taken ((Take, r) ∷ run))
taken_of_clients limits (reply.Taken item) run a h = All-push (λ (x : Numbered). IsClient limits.clients x.client) (taken run) item h a.0
taken_of_clients limits r run a h = h

all_of_clients : (limits : Limits) (run : Run) → IsAllowed limits run → All (λ (x : Numbered). IsClient limits.clients x.client) (taken run)
all_of_clients limits [] h = λ k d high. absurd (omega arith)
all_of_clients limits ((Look looking, r) ∷ run) h = all_of_clients limits run h.2
all_of_clients limits ((Push pushing body, r) ∷ run) h = all_of_clients limits run h.2
all_of_clients limits ((Take, r) ∷ run) h = taken_of_clients limits r run h.0 (all_of_clients limits run h.2)
all_of_clients limits ((Close moment, r) ∷ run) h = all_of_clients limits run h.2
all_of_clients limits ((End ending, r) ∷ run) h = all_of_clients limits run h.2
all_of_clients limits ((TakeIn joining, r) ∷ run) h = all_of_clients limits run h.2

-- ---- a drained run

-- all were taken in, and of each client all was taken
record IsOver (limits : Limits) (run : Run) : Type 0 where
  joined : (client : ℕ) → IsClient limits.clients client → has_joined client run ≡ true
  each : (client : ℕ) → IsClient limits.clients client → of_client client (taken run) ≡ queued client run

over_from : (limits : Limits) (pair : Event × Reply) (run : Run) → ((client : ℕ) → of_client client (taken (pair ∷ run)) ≡ of_client client (taken run)) → ((client : ℕ) → queued client (pair ∷ run) ≡ queued client run) → IsOver limits run → IsOver limits (pair ∷ run)
over_from limits pair run same_taken same_queued h = record {
  joined = λ client i. still_joined client pair run (h.joined client i);
  each = λ client i. same_taken client ∙ h.each client i ∙ sym (same_queued client);
}

left_of : (a b : Bool) → (a && b) ≡ true → a ≡ true
left_of true b e = refl
left_of false b e = absurd (cc)

over_on_push : (limits : Limits) (pushing : ℕ) (body : Body) (r : Reply) (run : Run) → AllowsPush limits run pushing body r → IsAllowed limits run → IsOver limits run → IsOver limits ((Push pushing body, r) ∷ run)
over_on_push limits pushing body (reply.Queued number) run a allowed h =
    let client = open_client limits pushing run (left_of (is_open limits pushing run) (has_looked pushing run) a.0) in
    let ended : has_ended pushing run ≡ true = joined_ended limits run allowed pushing (h.joined pushing client.0) in
    absurd (let unended : has_ended pushing run ≡ false = client.1 in cc)
over_on_push limits pushing body r run a allowed h = over_from limits (Push pushing body, r) run (λ client. refl) (λ client. refl) h

too_many : (item : Numbered) (before rest : List Numbered) → of_client item.client (before ++ item ∷ []) ++ rest ≡ of_client item.client before → ⊥
too_many item before rest e =
    let c : ℕ = item.client in
    let own : of_client c (before ++ item ∷ []) ≡ of_client c before ++ item ∷ [] = of_client-append c before (item ∷ []) ∙ ap (λ (l : List Numbered). of_client c before ++ l) (of_client_mine c item.number item.body) in
    let longer : length (of_client c (before ++ item ∷ [])) ≡ length (of_client c before) + 1 = ap length own ∙ length-append (of_client c before) (item ∷ []) in
    let whole : length (of_client c (before ++ item ∷ [])) + length rest ≡ length (of_client c before) = sym (length-append (of_client c (before ++ item ∷ [])) rest) ∙ ap length e in
    omega (arith, longer, whole)

over_on_take : (limits : Limits) (r : Reply) (run : Run) → AllowsTake limits run r → BeginsEach ((Take, r) ∷ run) → IsOver limits run → IsOver limits ((Take, r) ∷ run)
over_on_take limits (reply.Taken item) run a begins h =
    let prefix = begins item.client (h.joined item.client a.0) in
    absurd (too_many item (taken run) prefix.0 (prefix.1 ∙ sym (h.each item.client a.0)))
over_on_take limits r run a begins h = over_from limits (Take, r) run (λ client. refl) (λ client. refl) h

over : (limits : Limits) (since before : Run) → IsAllowed limits (since ++ (Take, reply.Empty) ∷ before) → ((client : ℕ) → IsClient limits.clients client → has_joined client before ≡ true) → IsOver limits (since ++ (Take, reply.Empty) ∷ before)
over limits [] before h joined = record {
  joined = joined;
  each = λ client i. h.0 client (joined client i);
}
over limits ((Look client, r) ∷ since) before h joined = over_from limits (Look client, r) (since ++ (Take, reply.Empty) ∷ before) (λ c. refl) (λ c. refl) (over limits since before h.2 joined)
over limits ((Push client body, r) ∷ since) before h joined = over_on_push limits client body r (since ++ (Take, reply.Empty) ∷ before) h.0 h.2 (over limits since before h.2 joined)
over limits ((Take, r) ∷ since) before h joined = over_on_take limits r (since ++ (Take, reply.Empty) ∷ before) h.0 h.1 (over limits since before h.2 joined)
over limits ((Close moment, r) ∷ since) before h joined = over_from limits (Close moment, r) (since ++ (Take, reply.Empty) ∷ before) (λ c. refl) (λ c. refl) (over limits since before h.2 joined)
over limits ((End client, r) ∷ since) before h joined = over_from limits (End client, r) (since ++ (Take, reply.Empty) ∷ before) (λ c. refl) (λ c. refl) (over limits since before h.2 joined)
over limits ((TakeIn client, r) ∷ since) before h joined = over_from limits (TakeIn client, r) (since ++ (Take, reply.Empty) ∷ before) (λ c. refl) (λ c. refl) (over limits since before h.2 joined)

pub drained_allowed : (limits : Limits) (run : Run) → IsAllowed limits run → IsDrained limits.clients run → IsMerge limits.clients (λ client. queued client run) (taken run)
drained_allowed limits run h d =
    let is_over : IsOver limits run = subst (λ (r : Run). IsOver limits r) (sym d.run_is) (over limits d.since d.before (subst (λ (r : Run). IsAllowed limits r) d.run_is h) d.all_joined) in
    record { clients = all_of_clients limits run h; each = is_over.each }
