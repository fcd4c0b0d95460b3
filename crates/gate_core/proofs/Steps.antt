-- A World that stands after a run stands after one more event and its reply.
use Rattle.std.proofs.Common.{◌≡◌, ◌≢◌, ℕ, ◌+◌, ◌-◌, ◌<◌, ◌≤◌, List, [], ◌∷◌, ◌++◌, length, drop, Option, Some, None, Bool, true, false, not, ◌&&◌, ◌||◌, cond, eqb, eq-eqb, ne_eqb, refl, sym, ap, ◌∙◌, subst, arith, append_assoc, length-append}
use Rattle.std.specs.Prelude.{slice_get, slice_set, unwrap_or, is_none}
use Rattle.std.proofs.Math.ListN.{length-set}
use Rattle.std.proofs.lemmas.List.{append-nil}
use mathlib.Core.Logic.{dite}
use native.Mathlib.Decide.{ℕ_discrete}
use Rattle.gate_model.specs.declared.record.Moment.{Moment}
use Rattle.gate_model.specs.declared.submission.Numbered.{Numbered}
use Rattle.gate_model.specs.declared.submission.Body.{Body}
use Rattle.gate_core.specs.declared.world.Seat.{Seat}
use Rattle.gate_core.specs.declared.event.Event.{Event}
use Rattle.gate_core.specs.declared.event.Event.TheVariants.{Look, Push, Take, Close, End, TakeIn}
use Rattle.gate_core.specs.declared.event.Reply.{Reply}
use Rattle.gate_core.specs.declared.event.Reply.TheVariants.{Ignored, Spent, Full, Queued, Taken, Empty, Ended, Joined}
use Rattle.gate_core.specs.Merge.{numbered, IsClient, of_client}
use Rattle.gate_core.specs.Limits.{Limits}
use Rattle.gate_core.specs.Legal.{Run, all_queued, queued, taken, waiting, first_close, has_ended, has_joined, is_open, is_own, last_own, is_open_look, has_looked, look_reply, push_reply, take_reply, close_reply}
use Rattle.gate_core.specs.State.{WorldState, seat_after, StandsAfter}
use Rattle.gate_core.specs.inner.Calls.{seat_of, with_seat, with_queue, with_close, is_open_seat, is_ready_seat, is_leaving_seat, after_look, after_push, after_refusal, after_end, after_taking_in}
use Rattle.gate_core.proofs.Merges.{of_client-append, of_client_mine, of_client_other}
use Rattle.gate_core.proofs.Indexes.{slice_get-set_same, slice_get-set_other, drop-front, first_and_rest, no_first}
use Rattle.gate_core.proofs.Runs.{IsSound, sound, front_is, open_client}
use Rattle.gate_core.proofs.Endings.{past}
use Rattle.gate_core.proofs.Standing.{has_seat, among, open_is, ready_is, leaving_is, seat_is_after}

-- ---- what an event changes of a client

abbrev seat : ℕ → Bool → Bool → Bool → Seat
seat count looked ended joined = record { count = count; looked = looked; ended = ended; joined = joined }

-- another's event
other_looked : (d : ℕ) (pair : Event × Reply) (run : Run) → is_own d pair.0 ≡ false → has_looked d (pair ∷ run) ≡ has_looked d run
other_looked d pair run own = ap (λ b. is_open_look (cond b (Some pair) (last_own d run))) own

-- the client's own event
own_looked : (client : ℕ) (pair : Event × Reply) (run : Run) → is_own client pair.0 ≡ true → has_looked client (pair ∷ run) ≡ is_open_look (Some pair)
own_looked client pair run own = ap (λ b. is_open_look (cond b (Some pair) (last_own client run))) own

apart : (client d : ℕ) → d ≢ client → eqb client d ≡ false
apart client d ne = ne_eqb client d (λ e. ne (sym e))

-- ---- the seats after an event that changes one of them

pub seats_changed : (world : WorldState) (client : ℕ) (old new : Seat) (pair : Event × Reply) (run : Run) → StandsAfter world run → seat_of world client ≡ Some old → new ≡ seat_after client (pair ∷ run)
    → ((d : ℕ) → d ≢ client → seat_after d (pair ∷ run) ≡ seat_after d run)
    → (index : ℕ) → index < world.limits.clients → slice_get (slice_set world.seats (client - 1) new) index ≡ Some (seat_after (index + 1) (pair ∷ run))
seats_changed world client old new pair run h e here others index low =
    let has = has_seat world client old e in
    let least : 1 ≤ client = has.low in
    dite (ℕ_discrete index (client - 1))
    (λ is. let returned : client ≡ index + 1 = omega arith in
    ap (λ k. slice_get (slice_set world.seats (client - 1) new) k) is ∙ slice_get-set_same world.seats (client - 1) old new has.there ∙ ap Some here ∙ ap (λ c. Some (seat_after c (pair ∷ run))) returned)
    (λ ne. slice_get-set_other world.seats (client - 1) index new ne ∙ h.seats_are index low ∙ ap Some (sym (others (index + 1) (λ is. ne (omega arith)))))

pub seats_unchanged : (world : WorldState) (pair : Event × Reply) (run : Run) → StandsAfter world run
    → ((d : ℕ) → IsClient world.limits.clients d → seat_after d (pair ∷ run) ≡ seat_after d run)
    → (index : ℕ) → index < world.limits.clients → slice_get world.seats index ≡ Some (seat_after (index + 1) (pair ∷ run))
seats_unchanged world pair run h same index low = h.seats_are index low ∙ ap Some (sym (same (index + 1) (omega arith, omega arith)))

-- ---- looks

look_others : (client : ℕ) (reply : Reply) (run : Run) (d : ℕ) → d ≢ client → seat_after d ((Look client, reply) ∷ run) ≡ seat_after d run
look_others client reply run d ne = ap (λ b. seat (length (queued d run)) b (has_ended d run) (has_joined d run)) (other_looked d (Look client, reply) run (apart client d ne))

look_here : (client : ℕ) (closed : Option Moment) (run : Run) → after_look closed (seat_after client run) ≡ seat_after client ((Look client, look_reply closed) ∷ run)
look_here client closed run = ap (λ b. seat (length (queued client run)) b (has_ended client run) (has_joined client run)) (agrees closed ∙ sym (own_looked client (Look client, look_reply closed) run (eq-eqb client client refl)))
  where
    agrees : (c : Option Moment) → is_none c ≡ is_open_look (Some (Look client, look_reply c))
    agrees None = refl
    agrees (Some first) = refl

pub stands_look : (world : WorldState) (client : ℕ) (old : Seat) (run : Run) → seat_of world client ≡ Some old → is_open_seat (seat_of world client) ≡ true → StandsAfter world run → StandsAfter (with_seat world client (after_look world.closed old)) ((Look client, look_reply world.closed) ∷ run)
stands_look world client old run e unended h = record {
  legal = (ap look_reply h.closed_is ∙ sym (ap (λ b. cond b (look_reply (first_close run)) (Ignored None)) (sym (open_is world client run h) ∙ unended)), h.legal);
  queue_is = h.queue_is;
  closed_is = h.closed_is;
  seat_count_is = length-set world.seats (client - 1) (after_look world.closed old) ∙ h.seat_count_is;
  seats_are = seats_changed world client old (after_look world.closed old) (Look client, look_reply world.closed) run h e
      (ap (after_look world.closed) (sym (seat_is_after world client old run h e)) ∙ look_here client world.closed run)
      (look_others client (look_reply world.closed) run);
}

-- a look that was ignored changes nothing: its client had no open look before
ignored_others : (world : WorldState) (client : ℕ) (event : Event) (returned : Option Body) (run : Run) → StandsAfter world run → is_own client event ≡ true → ((d : ℕ) → d ≢ client → is_own d event ≡ false) → is_open_look (Some (event, Ignored returned)) ≡ false
    → (IsClient world.limits.clients client → has_looked client run ≡ false) → (d : ℕ) → IsClient world.limits.clients d → has_looked d ((event, Ignored returned) ∷ run) ≡ has_looked d run
ignored_others world client event returned run h own apart_from no_look unlooked d i =
    dite (ℕ_discrete d client)
    (λ is. subst (λ c. has_looked c ((event, Ignored returned) ∷ run) ≡ has_looked c run) (sym is) (own_looked client (event, Ignored returned) run own ∙ no_look ∙ sym (unlooked (subst (λ c. IsClient world.limits.clients c) is i))))
    (λ ne. other_looked d (event, Ignored returned) run (apart_from d ne))

-- a client of the World that isn't open has ended, and so has no open look
unopened : (world : WorldState) (client : ℕ) (run : Run) → StandsAfter world run → is_open_seat (seat_of world client) ≡ false → IsClient world.limits.clients client → has_looked client run ≡ false
unopened world client run h e i = go (has_ended client run) refl
  where
    go : (b : Bool) → has_ended client run ≡ b → has_looked client run ≡ false
    go true ended = (past world.limits run h.legal client ended).1
    go false not_ended =
        let open_now : is_open world.limits client run ≡ true = ap (λ b. b && not (has_ended client run)) (among world.limits.clients client i) ∙ ap not not_ended in
        let known : is_open_seat (seat_of world client) ≡ is_open world.limits client run = open_is world client run h in
        absurd (cc)

pub stands_ignored_look : (world : WorldState) (client : ℕ) (run : Run) → is_open_seat (seat_of world client) ≡ false → StandsAfter world run → StandsAfter world ((Look client, Ignored None) ∷ run)
stands_ignored_look world client run unopen h = record {
  legal = (sym (ap (λ b. cond b (look_reply (first_close run)) (Ignored None)) (sym (open_is world client run h) ∙ unopen)), h.legal);
  queue_is = h.queue_is;
  closed_is = h.closed_is;
  seat_count_is = h.seat_count_is;
  seats_are = seats_unchanged world (Look client, Ignored None) run h
      (λ d i. ap (λ b. seat (length (queued d run)) b (has_ended d run) (has_joined d run))
      (ignored_others world client (Look client) None run h (eq-eqb client client refl) (apart client) refl (unopened world client run h unopen) d i));
}

-- ---- pushes

-- the items that wait are as many as the queued ones less the taken ones
waiting_length : (limits : Limits) (run : Run) → IsSound limits run → length (all_queued run) - length (taken run) ≡ length (waiting run)
waiting_length limits run h = omega (arith, ap length (sym h.whole), length-append (taken run) (waiting run))

ready_facts : (world : WorldState) (client : ℕ) (run : Run) → StandsAfter world run → is_ready_seat (seat_of world client) ≡ true → (is_open world.limits client run && has_looked client run) ≡ true
ready_facts world client run h e = sym (ready_is world client run h) ∙ e

left_true : (a b : Bool) → (a && b) ≡ true → a ≡ true
left_true true b e = refl
left_true false b e = absurd (cc)

-- a client that may push is one of the World's
pushing_client : (world : WorldState) (client : ℕ) (run : Run) → StandsAfter world run → is_ready_seat (seat_of world client) ≡ true → IsClient world.limits.clients client
pushing_client world client run h e = (open_client world.limits client run (left_true (is_open world.limits client run) (has_looked client run) (ready_facts world client run h e))).0

-- the reply to a push by its three tests
push_answer : (ready spent full : Bool) (body : Body) (number : ℕ) → Reply
push_answer ready spent full body number = cond ready (cond spent (Spent body) (cond full (Full body) (Queued number))) (Ignored (Some body))

count_after : (world : WorldState) (client : ℕ) (old : Seat) (run : Run) → StandsAfter world run → seat_of world client ≡ Some old → length (queued client run) ≡ old.count
count_after world client old run h e = ap (λ (s : Seat). s.count) (seat_is_after world client old run h e)

queued_others : (client number : ℕ) (body : Body) (run : Run) (d : ℕ) → d ≢ client → seat_after d ((Push client body, Queued number) ∷ run) ≡ seat_after d run
queued_others client number body run d ne =
    ap (λ (l : List Numbered). seat (length l) (has_looked d ((Push client body, Queued number) ∷ run)) (has_ended d run) (has_joined d run))
    (of_client-append d (all_queued run) (numbered client number body ∷ []) ∙ ap (λ l. queued d run ++ l) (of_client_other d (numbered client number body) (λ e. ne (sym e))) ∙ append-nil (queued d run))
    ∙ ap (λ b. seat (length (queued d run)) b (has_ended d run) (has_joined d run)) (other_looked d (Push client body, Queued number) run (apart client d ne))

queued_here : (client number : ℕ) (body : Body) (run : Run) → after_push (seat_after client run) ≡ seat_after client ((Push client body, Queued number) ∷ run)
queued_here client number body run =
    let more : length (queued client run) + 1 ≡ length (of_client client (all_queued run ++ numbered client number body ∷ [])) =
    sym (ap length (of_client-append client (all_queued run) (numbered client number body ∷ []) ∙ ap (λ l. queued client run ++ l) (of_client_mine client number body)) ∙ length-append (queued client run) (numbered client number body ∷ [])) in
    ap (λ n. seat n false (has_ended client run) (has_joined client run)) more
    ∙ ap (λ b. seat (length (of_client client (all_queued run ++ numbered client number body ∷ []))) b (has_ended client run) (has_joined client run)) (sym (own_looked client (Push client body, Queued number) run (eq-eqb client client refl)))

pub stands_queued : (world : WorldState) (client : ℕ) (old : Seat) (body : Body) (number : ℕ) (run : Run) → seat_of world client ≡ Some old → is_ready_seat (seat_of world client) ≡ true → number ≡ old.count + 1 → old.count < world.limits.quota → length world.queue < world.limits.capacity → StandsAfter world run
    → StandsAfter (with_seat (with_queue world (world.queue ++ numbered client number body ∷ [])) client (after_push old)) ((Push client body, Queued number) ∷ run)
stands_queued world client old body number run e ready next quota_left room h =
    let limits : Limits = world.limits in
    let whole = sound limits run h.legal in
    let item : Numbered = numbered client number body in
    let count : length (queued client run) ≡ old.count = count_after world client old run h e in
    let unspent : eqb (length (queued client run)) limits.quota ≡ false = ne_eqb (length (queued client run)) limits.quota (λ is. omega arith) in
    let waits : length (all_queued run) - length (taken run) ≡ length world.queue = waiting_length limits run whole ∙ ap length (sym h.queue_is) in
    let unfull : eqb (length (all_queued run) - length (taken run)) limits.capacity ≡ false = ne_eqb (length (all_queued run) - length (taken run)) limits.capacity (λ is. omega arith) in
    let number_is : number ≡ length (queued client run) + 1 = omega arith in
    record {
      legal = (
        ap Queued number_is
            ∙ sym (ap (λ b. cond b (push_reply limits client body run) (Ignored (Some body))) (ready_facts world client run h ready)
            ∙ ap (λ b. cond b (Spent body) (cond (eqb (length (all_queued run) - length (taken run)) limits.capacity) (Full body) (Queued (length (queued client run) + 1)))) unspent
            ∙ ap (λ b. cond b (Full body) (Queued (length (queued client run) + 1))) unfull),
        h.legal,
      );
      queue_is = ap (λ l. l ++ item ∷ []) h.queue_is
          ∙ sym (ap (λ l. drop (length (taken run)) (l ++ item ∷ [])) (sym whole.whole) ∙ ap (drop (length (taken run))) (append_assoc (taken run) (waiting run) (item ∷ [])) ∙ drop-front (taken run) (waiting run ++ item ∷ []));
      closed_is = h.closed_is;
      seat_count_is = length-set world.seats (client - 1) (after_push old) ∙ h.seat_count_is;
      seats_are = seats_changed world client old (after_push old) (Push client body, Queued number) run h e
          (ap after_push (sym (seat_is_after world client old run h e)) ∙ queued_here client number body run)
          (queued_others client number body run);
    }

-- a push that was refused with its body leaves all but the look
refused_others : (client : ℕ) (body : Body) (reply : Reply) (run : Run) (d : ℕ) → d ≢ client → has_looked d ((Push client body, reply) ∷ run) ≡ has_looked d run
refused_others client body reply run d ne = other_looked d (Push client body, reply) run (apart client d ne)

pub stands_spent : (world : WorldState) (client : ℕ) (old : Seat) (body : Body) (run : Run) → seat_of world client ≡ Some old → is_ready_seat (seat_of world client) ≡ true → world.limits.quota ≤ old.count → StandsAfter world run
    → StandsAfter (with_seat world client (after_refusal old)) ((Push client body, Spent body) ∷ run)
stands_spent world client old body run e ready no_quota h =
    let limits : Limits = world.limits in
    let count : length (queued client run) ≡ old.count = count_after world client old run h e in
    let most : length (queued client run) ≤ limits.quota = (sound limits run h.legal).state.within_quota client (pushing_client world client run h ready) in
    let spent : eqb (length (queued client run)) limits.quota ≡ true = eq-eqb (length (queued client run)) limits.quota (omega arith) in
    record {
      legal = (
        sym (ap (λ b. cond b (push_reply limits client body run) (Ignored (Some body))) (ready_facts world client run h ready)
            ∙ ap (λ b. cond b (Spent body) (cond (eqb (length (all_queued run) - length (taken run)) limits.capacity) (Full body) (Queued (length (queued client run) + 1)))) spent),
        h.legal,
      );
      queue_is = h.queue_is;
      closed_is = h.closed_is;
      seat_count_is = length-set world.seats (client - 1) (after_refusal old) ∙ h.seat_count_is;
      seats_are = seats_changed world client old (after_refusal old) (Push client body, Spent body) run h e
          (ap after_refusal (sym (seat_is_after world client old run h e)) ∙ ap (λ b. seat (length (queued client run)) b (has_ended client run) (has_joined client run)) (sym (own_looked client (Push client body, Spent body) run (eq-eqb client client refl))))
          (λ d ne. ap (λ b. seat (length (queued d run)) b (has_ended d run) (has_joined d run)) (refused_others client body (Spent body) run d ne));
    }

pub stands_full : (world : WorldState) (client : ℕ) (old : Seat) (body : Body) (run : Run) → seat_of world client ≡ Some old → is_ready_seat (seat_of world client) ≡ true → old.count < world.limits.quota → world.limits.capacity ≤ length world.queue → StandsAfter world run
    → StandsAfter (with_seat world client (after_refusal old)) ((Push client body, Full body) ∷ run)
stands_full world client old body run e ready quota_left no_room h =
    let limits : Limits = world.limits in
    let whole = sound limits run h.legal in
    let count : length (queued client run) ≡ old.count = count_after world client old run h e in
    let unspent : eqb (length (queued client run)) limits.quota ≡ false = ne_eqb (length (queued client run)) limits.quota (λ is. omega arith) in
    let waits : length (all_queued run) - length (taken run) ≡ length world.queue = waiting_length limits run whole ∙ ap length (sym h.queue_is) in
    let most : length (waiting run) ≤ limits.capacity = whole.state.within_capacity in
    let same : length world.queue ≡ length (waiting run) = ap length h.queue_is in
    let full : eqb (length (all_queued run) - length (taken run)) limits.capacity ≡ true = eq-eqb (length (all_queued run) - length (taken run)) limits.capacity (omega arith) in
    record {
      legal = (
        sym (ap (λ b. cond b (push_reply limits client body run) (Ignored (Some body))) (ready_facts world client run h ready)
            ∙ ap (λ b. cond b (Spent body) (cond (eqb (length (all_queued run) - length (taken run)) limits.capacity) (Full body) (Queued (length (queued client run) + 1)))) unspent
            ∙ ap (λ b. cond b (Full body) (Queued (length (queued client run) + 1))) full),
        h.legal,
      );
      queue_is = h.queue_is;
      closed_is = h.closed_is;
      seat_count_is = length-set world.seats (client - 1) (after_refusal old) ∙ h.seat_count_is;
      seats_are = seats_changed world client old (after_refusal old) (Push client body, Full body) run h e
          (ap after_refusal (sym (seat_is_after world client old run h e)) ∙ ap (λ b. seat (length (queued client run)) b (has_ended client run) (has_joined client run)) (sym (own_looked client (Push client body, Full body) run (eq-eqb client client refl))))
          (λ d ne. ap (λ b. seat (length (queued d run)) b (has_ended d run) (has_joined d run)) (refused_others client body (Full body) run d ne));
    }

-- a client of the World that may not push has no open look
unready : (world : WorldState) (client : ℕ) (run : Run) → StandsAfter world run → is_ready_seat (seat_of world client) ≡ false → IsClient world.limits.clients client → has_looked client run ≡ false
unready world client run h e i = go (has_looked client run) refl (is_open world.limits client run) refl
  where
    go : (b : Bool) → has_looked client run ≡ b → (a : Bool) → is_open world.limits client run ≡ a → has_looked client run ≡ false
    go false looked a opened = looked
    go true looked false opened = unopened world client run h (open_is world client run h ∙ opened) i
    go true looked true opened =
        let known : is_ready_seat (seat_of world client) ≡ (is_open world.limits client run && has_looked client run) = ready_is world client run h in
        let both_are : (is_open world.limits client run && has_looked client run) ≡ true = ap (λ b. b && has_looked client run) opened ∙ looked in
        absurd (cc)

pub stands_ignored_push : (world : WorldState) (client : ℕ) (body : Body) (run : Run) → is_ready_seat (seat_of world client) ≡ false → StandsAfter world run → StandsAfter world ((Push client body, Ignored (Some body)) ∷ run)
stands_ignored_push world client body run e h = record {
  legal = (sym (ap (λ b. cond b (push_reply world.limits client body run) (Ignored (Some body))) (sym (ready_is world client run h) ∙ e)), h.legal);
  queue_is = h.queue_is;
  closed_is = h.closed_is;
  seat_count_is = h.seat_count_is;
  seats_are = seats_unchanged world (Push client body, Ignored (Some body)) run h
      (λ d i. ap (λ b. seat (length (queued d run)) b (has_ended d run) (has_joined d run))
      (ignored_others world client (Push client body) (Some body) run h (eq-eqb client client refl) (apart client) refl (unready world client run h e) d i));
}

-- ---- takes and closes

stands_taken : (world : WorldState) (item : Numbered) (run : Run) → slice_get world.queue 0 ≡ Some item → StandsAfter world run → StandsAfter (with_queue world (drop 1 world.queue)) ((Take, Taken item) ∷ run)
stands_taken world item run e h =
    let whole = sound world.limits run h.legal in
    let first : slice_get (waiting run) 0 ≡ Some item = ap (λ l. slice_get l 0) (sym h.queue_is) ∙ e in
    let front : waiting run ≡ item ∷ drop 1 (waiting run) = first_and_rest (waiting run) item first in
    let all : (taken run ++ item ∷ []) ++ drop 1 (waiting run) ≡ all_queued run = append_assoc (taken run) (item ∷ []) (drop 1 (waiting run)) ∙ ap (λ l. taken run ++ l) (sym front) ∙ whole.whole in
    record {
      legal = (ap take_reply (sym (front_is world.limits run whole ∙ first)), h.legal);
      queue_is = ap (drop 1) h.queue_is ∙ sym (ap (drop (length (taken run ++ item ∷ []))) (sym all) ∙ drop-front (taken run ++ item ∷ []) (drop 1 (waiting run)));
      closed_is = h.closed_is;
      seat_count_is = h.seat_count_is;
      seats_are = seats_unchanged world (Take, Taken item) run h (λ d i. refl);
    }

stands_empty : (world : WorldState) (run : Run) → slice_get world.queue 0 ≡ None → StandsAfter world run → StandsAfter (with_queue world (drop 1 world.queue)) ((Take, Empty) ∷ run)
stands_empty world run e h =
    let whole = sound world.limits run h.legal in
    let none : slice_get (waiting run) 0 ≡ None = ap (λ l. slice_get l 0) (sym h.queue_is) ∙ e in
    let nothing : world.queue ≡ [] = no_first world.queue e in
    record {
      legal = (ap take_reply (sym (front_is world.limits run whole ∙ none)), h.legal);
      queue_is = ap (drop 1) nothing ∙ sym nothing ∙ h.queue_is;
      closed_is = h.closed_is;
      seat_count_is = h.seat_count_is;
      seats_are = seats_unchanged world (Take, Empty) run h (λ d i. refl);
    }

pub stands_take : (world : WorldState) (run : Run) → StandsAfter world run → StandsAfter (with_queue world (drop 1 world.queue)) ((Take, take_reply (slice_get world.queue 0)) ∷ run)
stands_take world run h = go (slice_get world.queue 0) refl
  where
    go : (front : Option Numbered) → slice_get world.queue 0 ≡ front → StandsAfter (with_queue world (drop 1 world.queue)) ((Take, take_reply front) ∷ run)
    go None e = stands_empty world run e h
    go (Some item) e = stands_taken world item run e h

pub stands_close : (world : WorldState) (moment : Moment) (run : Run) → StandsAfter world run → StandsAfter (with_close world (Some (unwrap_or world.closed moment))) ((Close moment, close_reply world.closed) ∷ run)
stands_close world moment run h = record {
  legal = (ap close_reply h.closed_is, h.legal);
  queue_is = h.queue_is;
  closed_is = ap (λ c. Some (unwrap_or c moment)) h.closed_is;
  seat_count_is = h.seat_count_is;
  seats_are = seats_unchanged world (Close moment, close_reply world.closed) run h (λ d i. refl);
}

-- ---- ends and takings in

end_others : (client : ℕ) (run : Run) (d : ℕ) → d ≢ client → seat_after d ((End client, Ended) ∷ run) ≡ seat_after d run
end_others client run d ne =
    ap (λ b. seat (length (queued d run)) b (has_ended d ((End client, Ended) ∷ run)) (has_joined d run)) (other_looked d (End client, Ended) run (apart client d ne))
    ∙ ap (λ b. seat (length (queued d run)) (has_looked d run) (b || has_ended d run) (has_joined d run)) (apart client d ne)

end_here : (client : ℕ) (run : Run) → after_end (seat_after client run) ≡ seat_after client ((End client, Ended) ∷ run)
end_here client run =
    sym (ap (λ b. seat (length (queued client run)) b (has_ended client ((End client, Ended) ∷ run)) (has_joined client run)) (own_looked client (End client, Ended) run (eq-eqb client client refl))
    ∙ ap (λ b. seat (length (queued client run)) false (b || has_ended client run) (has_joined client run)) (eq-eqb client client refl))

pub stands_end : (world : WorldState) (client : ℕ) (old : Seat) (run : Run) → seat_of world client ≡ Some old → is_open_seat (seat_of world client) ≡ true → StandsAfter world run → StandsAfter (with_seat world client (after_end old)) ((End client, Ended) ∷ run)
stands_end world client old run e unended h = record {
  legal = (sym (ap (λ b. cond b Ended (Ignored None)) (sym (open_is world client run h) ∙ unended)), h.legal);
  queue_is = h.queue_is;
  closed_is = h.closed_is;
  seat_count_is = length-set world.seats (client - 1) (after_end old) ∙ h.seat_count_is;
  seats_are = seats_changed world client old (after_end old) (End client, Ended) run h e
      (ap after_end (sym (seat_is_after world client old run h e)) ∙ end_here client run)
      (end_others client run);
}

pub stands_ignored_end : (world : WorldState) (client : ℕ) (run : Run) → is_open_seat (seat_of world client) ≡ false → StandsAfter world run → StandsAfter world ((End client, Ignored None) ∷ run)
stands_ignored_end world client run unopen h = record {
  legal = (sym (ap (λ b. cond b Ended (Ignored None)) (sym (open_is world client run h) ∙ unopen)), h.legal);
  queue_is = h.queue_is;
  closed_is = h.closed_is;
  seat_count_is = h.seat_count_is;
  seats_are = seats_unchanged world (End client, Ignored None) run h
      (λ d i. ap (λ b. seat (length (queued d run)) b (has_ended d run) (has_joined d run))
      (ignored_others world client (End client) None run h (eq-eqb client client refl) (apart client) refl (unopened world client run h unopen) d i));
}

pub stands_joined : (world : WorldState) (client : ℕ) (old : Seat) (run : Run) → seat_of world client ≡ Some old → is_leaving_seat (seat_of world client) ≡ true → StandsAfter world run → StandsAfter (with_seat world client (after_taking_in old)) ((TakeIn client, Joined) ∷ run)
stands_joined world client old run e leaving h = record {
  legal = (sym (ap (λ b. cond b Joined (Ignored None)) (sym (leaving_is world client run h) ∙ leaving)), h.legal);
  queue_is = h.queue_is;
  closed_is = h.closed_is;
  seat_count_is = length-set world.seats (client - 1) (after_taking_in old) ∙ h.seat_count_is;
  seats_are = seats_changed world client old (after_taking_in old) (TakeIn client, Joined) run h e
      (ap after_taking_in (sym (seat_is_after world client old run h e))
      ∙ sym (ap (λ b. seat (length (queued client run)) (has_looked client run) (has_ended client run) (b || has_joined client run)) (eq-eqb client client refl)))
      (λ d ne. ap (λ b. seat (length (queued d run)) (has_looked d run) (has_ended d run) (b || has_joined d run)) (apart client d ne));
}

pub stands_ignored_taking_in : (world : WorldState) (client : ℕ) (run : Run) → is_leaving_seat (seat_of world client) ≡ false → StandsAfter world run → StandsAfter world ((TakeIn client, Ignored None) ∷ run)
stands_ignored_taking_in world client run staying h = record {
  legal = (sym (ap (λ b. cond b Joined (Ignored None)) (sym (leaving_is world client run h) ∙ staying)), h.legal);
  queue_is = h.queue_is;
  closed_is = h.closed_is;
  seat_count_is = h.seat_count_is;
  seats_are = seats_unchanged world (TakeIn client, Ignored None) run h (λ d i. refl);
}
