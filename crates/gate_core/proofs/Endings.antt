-- Clients of a legal run that looked, ended or were taken in.
use Rattle.std.proofs.Common.{◌≡◌, ℕ, [], ◌∷◌, ◌++◌, length, Option, Some, None, Bool, true, false, not, ◌&&◌, ◌||◌, cond, eqb, refl, sym, ap, ◌∙◌, subst}
use Rattle.std.specs.Prelude.{slice_get, nat_le}
use Rattle.std.specs.List.{list_any}
use Rattle.std.proofs.lemmas.Bool.{eqb-true}
use Rattle.std.proofs.lemmas.List.{append-nil}
use Rattle.gate_model.specs.declared.record.Moment.{Moment}
use Rattle.gate_model.specs.declared.submission.Body.{Body}
use Rattle.gate_core.specs.declared.event.Event.{Event}
use Rattle.gate_core.specs.declared.event.Event.TheVariants.{Look, Push, Take, Close, End, TakeIn}
use Rattle.gate_core.specs.declared.event.Reply.{Reply}
use Rattle.gate_core.specs.declared.event.Reply.TheVariants.{Open, Ignored, Queued, Taken, Empty, Ended, Joined}
use Rattle.gate_core.specs.Merge.{IsClient, IsMerge}
use Rattle.gate_core.specs.Limits.{Limits}
use Rattle.gate_core.specs.Legal.{Run, all_queued, queued, taken, waiting, first_close, is_end_of, has_ended, has_joined, is_open, is_own, last_own, is_open_look, has_looked, look_reply, reply_after, IsLegal}
use Rattle.gate_core.specs.Law.{FollowsOpenLook, IsDrained}
use Rattle.gate_core.proofs.Runs.{open_client, sound, front_is, was_queued, was_taken, was_empty}
use Rattle.gate_core.proofs.Indexes.{no_first}

-- ---- who has ended

no_right : (a b : Bool) → b ≡ false → (a && b) ≡ false
no_right true b e = e
no_right false b e = refl

-- an ended client isn't open
pub closed_client : (limits : Limits) (client : ℕ) (run : Run) → has_ended client run ≡ true → is_open limits client run ≡ false
closed_client limits client run e = no_right (nat_le 1 client && nat_le client limits.clients) (not (has_ended client run)) (ap not e)

-- only an open client is answered Ended
was_ended : (b : Bool) → Ended ≡ cond b Ended (Ignored None) → b ≡ true
was_ended true e = refl
was_ended false e = absurd (cc)

either : (a b : Bool) (P : Type 0) → (a || b) ≡ true → (a ≡ true → P) → (b ≡ true → P) → P
either true b P e left right = left refl
either false b P e left right = right e

-- a last own event that is no look answered Open
not_looked : (b : Bool) (pair : Event × Reply) (rest : Option (Event × Reply)) → (b ≡ true → is_open_look (Some pair) ≡ false) → is_open_look rest ≡ false → is_open_look (cond b (Some pair) rest) ≡ false
not_looked true pair rest h g = h refl
not_looked false pair rest h g = g

ignored_look : (limits : Limits) (client : ℕ) (reply : Reply) (run : Run) → reply ≡ reply_after limits run (Look client) → has_ended client run ≡ true → is_open_look (Some (Look client, reply)) ≡ false
ignored_look limits client reply run e ended =
    let ignored : reply ≡ Ignored None = e ∙ ap (λ b. cond b (look_reply (first_close run)) (Ignored None)) (closed_client limits client run ended) in
    ap (λ r. is_open_look (Some (Look client, r))) ignored

-- an ended client is one of the World's, and its last own event is no look answered Open
abbrev IsPast : Limits → ℕ → Run → Type 0
IsPast limits client run = IsClient limits.clients client × (has_looked client run ≡ false)

past_end : (limits : Limits) (ending : ℕ) (reply : Reply) (run : Run) (client : ℕ) → reply ≡ reply_after limits run (End ending) → (has_ended client run ≡ true → IsPast limits client run) → has_ended client ((End ending, reply) ∷ run) ≡ true → IsPast limits client ((End ending, reply) ∷ run)
past_end limits ending Ended run client e below ended =
    either (eqb ending client) (has_ended client run) (IsPast limits client ((End ending, Ended) ∷ run)) ended
    (λ same. let is : ending ≡ client = eqb-true ending client same in (
      subst (λ c. IsClient limits.clients c) is (open_client limits ending run (was_ended (is_open limits ending run) e)).0,
      ap (λ b. is_open_look (cond b (Some (End ending, Ended)) (last_own client run))) same,
    ))
    (λ before. let h = below before in (h.0, not_looked (eqb ending client) (End ending, Ended) (last_own client run) (λ _. refl) h.1))
past_end limits ending reply run client e below ended =
    let h = below ended in (h.0, not_looked (eqb ending client) (End ending, reply) (last_own client run) (λ _. refl) h.1)

pub past : (limits : Limits) (run : Run) → IsLegal limits run → (client : ℕ) → has_ended client run ≡ true → IsClient limits.clients client × (has_looked client run ≡ false)
past limits [] h client ended = absurd (cc)
past limits ((Look looking, reply) ∷ run) h client ended =
    let below = past limits run h.1 client ended in (
      below.0,
      not_looked (eqb looking client) (Look looking, reply) (last_own client run)
          (λ same. ignored_look limits looking reply run h.0 (subst (λ c. has_ended c run ≡ true) (sym (eqb-true looking client same)) ended)) below.1,
    )
past limits ((Push pushing body, reply) ∷ run) h client ended =
    let below = past limits run h.1 client ended in (below.0, not_looked (eqb pushing client) (Push pushing body, reply) (last_own client run) (λ _. refl) below.1)
past limits ((Take, reply) ∷ run) h client ended = past limits run h.1 client ended
past limits ((Close moment, reply) ∷ run) h client ended = past limits run h.1 client ended
past limits ((End ending, reply) ∷ run) h client ended = past_end limits ending reply run client h.0 (past limits run h.1 client) ended
past limits ((TakeIn joining, reply) ∷ run) h client ended = past limits run h.1 client ended

-- ---- who was taken in

was_joined : (ended joined : Bool) → Joined ≡ cond (ended && not joined) Joined (Ignored None) → ended ≡ true
was_joined true joined e = refl
was_joined false joined e = absurd (cc)

-- what has ended stays so
pub still_ended : (client : ℕ) (pair : Event × Reply) (run : Run) → has_ended client run ≡ true → has_ended client (pair ∷ run) ≡ true
still_ended client pair run e = go (is_end_of client pair)
  where
    go : (b : Bool) → (b || has_ended client run) ≡ true
    go true = refl
    go false = e

joined_on : (limits : Limits) (joining : ℕ) (reply : Reply) (run : Run) (client : ℕ) → reply ≡ reply_after limits run (TakeIn joining) → (has_joined client run ≡ true → has_ended client run ≡ true) → has_joined client ((TakeIn joining, reply) ∷ run) ≡ true → has_ended client run ≡ true
joined_on limits joining Joined run client e below joined =
    either (eqb joining client) (has_joined client run) (has_ended client run ≡ true) joined
    (λ same. subst (λ c. has_ended c run ≡ true) (eqb-true joining client same) (was_joined (has_ended joining run) (has_joined joining run) e))
    below
joined_on limits joining reply run client e below joined = below joined

-- who was taken in has ended
pub joined_ended : (limits : Limits) (run : Run) → IsLegal limits run → (client : ℕ) → has_joined client run ≡ true → has_ended client run ≡ true
joined_ended limits [] h client joined = absurd (cc)
joined_ended limits ((Look looking, reply) ∷ run) h client joined = joined_ended limits run h.1 client joined
joined_ended limits ((Push pushing body, reply) ∷ run) h client joined = joined_ended limits run h.1 client joined
joined_ended limits ((Take, reply) ∷ run) h client joined = joined_ended limits run h.1 client joined
joined_ended limits ((Close moment, reply) ∷ run) h client joined = joined_ended limits run h.1 client joined
joined_ended limits ((End ending, reply) ∷ run) h client joined = still_ended client (End ending, reply) run (joined_ended limits run h.1 client joined)
joined_ended limits ((TakeIn joining, reply) ∷ run) h client joined = joined_on limits joining reply run client h.0 (joined_ended limits run h.1 client) joined

-- ---- a drained run

-- all have ended and nothing waits
record IsOver (limits : Limits) (run : Run) : Type 0 where
  ended : (client : ℕ) → IsClient limits.clients client → has_ended client run ≡ true
  nothing_waits : waiting run ≡ []

over_from : (limits : Limits) (pair : Event × Reply) (run : Run) → waiting (pair ∷ run) ≡ waiting run → IsOver limits run → IsOver limits (pair ∷ run)
over_from limits pair run same h = record {
  ended = λ client i. still_ended client pair run (h.ended client i);
  nothing_waits = same ∙ h.nothing_waits;
}

over_on_push : (limits : Limits) (client : ℕ) (body : Body) (reply : Reply) (run : Run) → reply ≡ reply_after limits run (Push client body) → IsOver limits run → IsOver limits ((Push client body, reply) ∷ run)
over_on_push limits client body (Queued number) run e h =
    let was = was_queued limits client number body run e in
    absurd (let ended = h.ended client was.client_is in let not_ended = was.not_ended in cc)
over_on_push limits client body reply run e h = over_from limits (Push client body, reply) run refl h

over_on_take : (limits : Limits) (reply : Reply) (run : Run) → reply ≡ reply_after limits run Take → IsLegal limits run → IsOver limits run → IsOver limits ((Take, reply) ∷ run)
over_on_take limits (Taken item) run e legal h =
    let there : slice_get (waiting run) 0 ≡ Some item = sym (front_is limits run (sound limits run legal)) ∙ was_taken item (slice_get (all_queued run) (length (taken run))) e in
    let none : slice_get (waiting run) 0 ≡ None = ap (λ l. slice_get l 0) h.nothing_waits in
    absurd (cc)
over_on_take limits reply run e legal h = over_from limits (Take, reply) run refl h

over_first : (limits : Limits) (run : Run) → IsLegal limits ((Take, Empty) ∷ run) → ((client : ℕ) → IsClient limits.clients client → has_joined client run ≡ true) → IsOver limits ((Take, Empty) ∷ run)
over_first limits run h joined = record {
  ended = λ client i. joined_ended limits run h.1 client (joined client i);
  nothing_waits = no_first (waiting run) (sym (front_is limits run (sound limits run h.1)) ∙ was_empty (slice_get (all_queued run) (length (taken run))) h.0);
}

over : (limits : Limits) (since before : Run) → IsLegal limits (since ++ (Take, Empty) ∷ before) → ((client : ℕ) → IsClient limits.clients client → has_joined client before ≡ true) → IsOver limits (since ++ (Take, Empty) ∷ before)
over limits [] before h joined = over_first limits before h joined
over limits ((Look client, reply) ∷ since) before h joined = over_from limits (Look client, reply) (since ++ (Take, Empty) ∷ before) refl (over limits since before h.1 joined)
over limits ((Push client body, reply) ∷ since) before h joined = over_on_push limits client body reply (since ++ (Take, Empty) ∷ before) h.0 (over limits since before h.1 joined)
over limits ((Take, reply) ∷ since) before h joined = over_on_take limits reply (since ++ (Take, Empty) ∷ before) h.0 h.1 (over limits since before h.1 joined)
over limits ((Close moment, reply) ∷ since) before h joined = over_from limits (Close moment, reply) (since ++ (Take, Empty) ∷ before) refl (over limits since before h.1 joined)
over limits ((End client, reply) ∷ since) before h joined = over_from limits (End client, reply) (since ++ (Take, Empty) ∷ before) refl (over limits since before h.1 joined)
over limits ((TakeIn client, reply) ∷ since) before h joined = over_from limits (TakeIn client, reply) (since ++ (Take, Empty) ∷ before) refl (over limits since before h.1 joined)

-- once drained, what was taken is what was queued
pub drained_merge : (limits : Limits) (run : Run) → IsLegal limits run → IsDrained limits.clients run → IsMerge limits.clients (λ client. queued client run) (taken run)
drained_merge limits run h d =
    let is_over : IsOver limits run = subst (λ r. IsOver limits r) (sym d.run_is) (over limits d.since d.before (subst (λ r. IsLegal limits r) d.run_is h) d.all_joined) in
    let all : taken run ++ waiting run ≡ taken run = ap (λ l. taken run ++ l) is_over.nothing_waits ∙ append-nil (taken run) in
    subst (λ l. IsMerge limits.clients (λ client. queued client run) l) all (sound limits run h).state.merge

-- ---- a look before a push

open_look : (limits : Limits) (client : ℕ) (run : Run) → Open ≡ reply_after limits run (Look client) → first_close run ≡ None
open_look limits client run e = go (is_open limits client run) (first_close run) e
  where
    go : (b : Bool) (closed : Option Moment) → Open ≡ cond b (look_reply closed) (Ignored None) → closed ≡ None
    go true None f = refl
    go true (Some first) f = absurd (cc)
    go false closed f = absurd (cc)

-- the pair is not the client's own, so the look still serves
looked_earlier : (client : ℕ) (pair : Event × Reply) (run : Run) → is_own client pair.0 ≡ false → FollowsOpenLook client run → FollowsOpenLook client (pair ∷ run)
looked_earlier client pair run other h = record {
  since = pair ∷ h.since;
  before = h.before;
  run_is = ap (λ r. pair ∷ r) h.run_is;
  no_close_before = h.no_close_before;
  no_own_event_since = ap (λ b. b || list_any (λ (p : Event × Reply). is_own client p.0) h.since) other ∙ h.no_own_event_since;
}

here : (client looking : ℕ) (run : Run) → looking ≡ client → first_close run ≡ None → FollowsOpenLook client ((Look looking, Open) ∷ run)
here client looking run same unclosed = record {
  since = [];
  before = run;
  run_is = ap (λ (c : ℕ). (Look c, Open) ∷ run) same;
  no_close_before = unclosed;
  no_own_event_since = refl;
}

looked_on_look : (limits : Limits) (client looking : ℕ) (reply : Reply) (run : Run) → reply ≡ reply_after limits run (Look looking) → (has_looked client run ≡ true → FollowsOpenLook client run) → (b : Bool) → eqb looking client ≡ b → is_open_look (cond b (Some (Look looking, reply)) (last_own client run)) ≡ true → FollowsOpenLook client ((Look looking, reply) ∷ run)
looked_on_look limits client looking Open run e below true own looked = here client looking run (eqb-true looking client own) (open_look limits looking run e)
looked_on_look limits client looking reply run e below true own looked = absurd (cc)
looked_on_look limits client looking reply run e below false own looked = looked_earlier client (Look looking, reply) run own (below looked)

-- an own event that is no look
looked_on_other : (client : ℕ) (pair : Event × Reply) (run : Run) → is_open_look (Some pair) ≡ false → (has_looked client run ≡ true → FollowsOpenLook client run) → (b : Bool) → is_own client pair.0 ≡ b → is_open_look (cond b (Some pair) (last_own client run)) ≡ true → FollowsOpenLook client (pair ∷ run)
looked_on_other client pair run unlooked below true own looked = absurd (cc)
looked_on_other client pair run unlooked below false own looked = looked_earlier client pair run own (below looked)

-- a client whose last own event is a look answered Open looked before every close
pub looked_before : (limits : Limits) (client : ℕ) (run : Run) → IsLegal limits run → has_looked client run ≡ true → FollowsOpenLook client run
looked_before limits client [] h looked = absurd (cc)
looked_before limits client ((Look looking, reply) ∷ run) h looked = looked_on_look limits client looking reply run h.0 (looked_before limits client run h.1) (eqb looking client) refl looked
looked_before limits client ((Push pushing body, reply) ∷ run) h looked = looked_on_other client (Push pushing body, reply) run refl (looked_before limits client run h.1) (eqb pushing client) refl looked
looked_before limits client ((Take, reply) ∷ run) h looked = looked_earlier client (Take, reply) run refl (looked_before limits client run h.1 looked)
looked_before limits client ((Close moment, reply) ∷ run) h looked = looked_earlier client (Close moment, reply) run refl (looked_before limits client run h.1 looked)
looked_before limits client ((End ending, reply) ∷ run) h looked = looked_on_other client (End ending, reply) run refl (looked_before limits client run h.1) (eqb ending client) refl looked
looked_before limits client ((TakeIn joining, reply) ∷ run) h looked = looked_earlier client (TakeIn joining, reply) run refl (looked_before limits client run h.1 looked)

-- what came before in a legal run is legal
pub legal_before : (limits : Limits) (later run : Run) → IsLegal limits (later ++ run) → IsLegal limits run
legal_before limits [] run h = h
legal_before limits ((event, reply) ∷ later) run h = legal_before limits later run h.1

-- a push that was answered Queued follows a look of its client that stands before every close
pub queued_after_look : (limits : Limits) (later run : Run) (client number : ℕ) (body : Body) → IsLegal limits (later ++ (Push client body, Queued number) ∷ run) → FollowsOpenLook client run
queued_after_look limits later run client number body h =
    let here : IsLegal limits ((Push client body, Queued number) ∷ run) = legal_before limits later ((Push client body, Queued number) ∷ run) h in
    looked_before limits client run here.1 (was_queued limits client number body run here.0).looked
