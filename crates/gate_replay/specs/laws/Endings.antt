-- Only proofs use this: what is left of a queue stands after each take, and after Empty all was taken.
use Rattle.std.proofs.Common.{◌≡◌, ◌⊎◌, inl, inr, ⊎_elim, ℕ, ◌+◌, List, [], ◌∷◌, ◌++◌, length, Option, Some, None, Bool, true, false, not, ◌&&◌, ◌||◌, cond, eqb, eq-eqb, refl, sym, ap, ◌∙◌, subst, arith}
use Rattle.std.specs.Prelude.{IfSome, IfNone}
use Rattle.std.proofs.lemmas.Bool.{eqb-true}
use Rattle.std.proofs.lemmas.List.{append-nil}
use mathlib.Core.List.{IsPrefix}
use mathlib.Core.Logic.{dite}
use native.Mathlib.Decide.{ℕ_discrete}
use Rattle.gate_model.specs.declared.submission.Numbered.{Numbered}
use Rattle.gate_core.specs.declared.event.Event.TheVariants.{Take, End, TakeIn}
use Rattle.gate_core.specs.declared.event.Reply.{Reply}
use Rattle.gate_core.specs.declared.event.Reply.TheVariants as reply
use Rattle.gate_core.specs.Limits.{Limits}
use Rattle.gate_core.specs.Merge.{IsClient, of_client, IsMerge}
use Rattle.gate_core.specs.Legal.{Run, queued, taken, waiting, has_ended, has_joined, is_open, take_reply, IsLegal}
use Rattle.gate_core.specs.State.{WorldState, StandsAfter, Extends}
use Rattle.gate_core.proofs.Runs.{open_client, sound, front_is, was_empty}
use Rattle.gate_core.proofs.Endings.{joined_ended}
use Rattle.gate_core.proofs.Indexes.{no_first}
use Rattle.gate_queue.specs.Gate.{GateId}
use Rattle.gate_queue.specs.Taker.{TakerState, taker_state, ended_list, queued_of, TakesOne, TakesIn, HasAll}
use Rattle.gate_queue.specs.Taker as gate_taker
use Rattle.gate_replay.specs.Allowed.{BeginsEach, IsAllowed}
use Rattle.gate_replay.specs.Ending.{with_ends, IsGateAfter}
use Rattle.gate_replay.specs.SoloGate.{SoloState, IsAfter}
use Rattle.gate_replay.specs.laws.SoloWorlds.{open_at}
use Rattle.gate_replay.specs.laws.SoloGates.{begins_none}
use Rattle.gate_replay.specs.laws.Drained.{drained_allowed}

-- ---- a World

-- a legal run that ends with Empty has taken all
pub legal_drained : (limits : Limits) (run : Run) → IsLegal limits ((Take, reply.Empty) ∷ run) → IsMerge limits.clients (λ client. queued client run) (taken run)
legal_drained limits run h =
    let s = sound limits run h.1 in
    let nothing : waiting run ≡ [] = no_first (waiting run) (sym (front_is limits run s) ∙ was_empty _ h.0) in
    let all : taken run ++ waiting run ≡ taken run = ap (λ (l : List Numbered). taken run ++ l) nothing ∙ append-nil (taken run) in
    subst (λ (l : List Numbered). IsMerge limits.clients (λ client. queued client run) l) all s.state.merge

-- ---- a gate

one_of_two : (client : ℕ) → IsClient 2 client → (client ≡ 1) ⊎ (client ≡ 2)
one_of_two client i =
    let low = i.0 in let high = i.1 in
    dite (ℕ_discrete client 1) (λ e. inl e) (λ ne. inr (omega (arith, low, high, ne)))

-- the list of a client that was taken in
listed : (ended : Run) (client : ℕ) → IsClient 2 client → queued_of client (ended_list 2 (queued 2 ended) ∷ ended_list 1 (queued 1 ended) ∷ []) ≡ Some (queued client ended)
listed run client i =
    ⊎_elim
    (λ (e : client ≡ 1). subst (λ c. queued_of c (ended_list 2 (queued 2 run) ∷ ended_list 1 (queued 1 run) ∷ []) ≡ Some (queued c run)) (sym e) refl)
    (λ (e : client ≡ 2). subst (λ c. queued_of c (ended_list 2 (queued 2 run) ∷ ended_list 1 (queued 1 run) ∷ []) ≡ Some (queued c run)) (sym e) refl)
    (one_of_two client i)

-- the taker's lists are those of the run, so what was taken begins them
begins_on : (t : TakerState) (run : Run) → gate_taker.BeginsEach t → t.taken ≡ taken run → t.ended ≡ ended_list 2 (queued 2 run) ∷ ended_list 1 (queued 1 run) ∷ [] → ((client : ℕ) → has_joined client run ≡ true → IsClient 2 client) → BeginsEach run
begins_on t run begins items lists joined = λ client j.
    subst (λ (l : List Numbered). IsPrefix (of_client client l) (queued client run)) items (begins client (queued client run) (ap (queued_of client) lists ∙ listed run client (joined client j)))

pub ended_take : (old new : TakerState) (result : Option Numbered) (run : Run) → IfSome result (λ item. TakesOne item old new) → IfNone result (new ≡ old) → IfNone result (HasAll old) → gate_taker.BeginsEach new → IsGateAfter old run → IsGateAfter new ((Take, take_reply result) ∷ run)
ended_take old new None run some none all begins h =
    let lists : new.ended ≡ ended_list 2 (queued 2 run) ∷ ended_list 1 (queued 1 run) ∷ [] = ap (λ (t : TakerState). t.ended) none ∙ h.lists_are in
    let items : new.taken ≡ taken run = ap (λ (t : TakerState). t.taken) none ∙ h.taken_is in
    record {
      two_clients = ap (λ (t : TakerState). t.gate.limits.clients) none ∙ h.two_clients;
      taken_is = items;
      lists_are = lists;
      both_joined = h.both_joined;
      no_other_joined = h.no_other_joined;
      allowed = subst (λ (t : TakerState). IsAllowed t.gate.limits ((Take, reply.Empty) ∷ run)) (sym none) (
        (λ client joined. ap (of_client client) (sym h.taken_is) ∙ all.each client (queued client run) (ap (queued_of client) h.lists_are ∙ listed run client (h.no_other_joined client joined))),
        begins_on new ((Take, reply.Empty) ∷ run) begins items lists h.no_other_joined,
        h.allowed,
      );
    }
ended_take old new (Some item) run some none all begins h =
    let lists : new.ended ≡ ended_list 2 (queued 2 run) ∷ ended_list 1 (queued 1 run) ∷ [] = ap (λ (t : TakerState). t.ended) some.0 ∙ h.lists_are in
    let items : new.taken ≡ taken run ++ item ∷ [] = ap (λ (t : TakerState). t.taken) some.0 ∙ ap (λ (l : List Numbered). l ++ item ∷ []) h.taken_is in
    record {
      two_clients = ap (λ (t : TakerState). t.gate.limits.clients) some.0 ∙ h.two_clients;
      taken_is = items;
      lists_are = lists;
      both_joined = h.both_joined;
      no_other_joined = h.no_other_joined;
      allowed = subst (λ (t : TakerState). IsAllowed t.gate.limits ((Take, reply.Taken item) ∷ run)) (sym some.0) (
        (some.1, some.2 ∙ ap (λ (l : List Numbered). length (of_client item.client l) + 1) h.taken_is),
        begins_on new ((Take, reply.Taken item) ∷ run) begins items lists h.no_other_joined,
        h.allowed,
      );
    }

pub gate_drained : (taker : TakerState) (run : Run) → IsGateAfter taker ((Take, reply.Empty) ∷ run) → IsMerge taker.gate.limits.clients (λ client. queued client run) (taken run)
gate_drained taker run h = drained_allowed taker.gate.limits ((Take, reply.Empty) ∷ run) h.allowed (record {
  since = [];
  before = run;
  run_is = refl;
  all_joined = λ client i. h.both_joined client (subst (λ n. IsClient n client) h.two_clients i);
})

-- ---- the ends

either : (a b : Bool) (P : Type 0) → (a || b) ≡ true → (a ≡ true → P) → (b ≡ true → P) → P
either true b P e left right = left refl
either false b P e left right = right e

pub ended_both : (queue : SoloState) (mid last : TakerState) (run : Run) → queue.client.number ≡ 1 → TakesIn queue.client queue.taker mid → gate_taker.BeginsEach mid → TakesIn queue.other mid last → gate_taker.BeginsEach last → IsAfter queue run → IsGateAfter last (with_ends run)
ended_both queue mid last run first one begins_mid two begins_last h =
    let limits : Limits = queue.client.gate.limits in
    let sum : queue.client.number + queue.other.number ≡ 3 = h.other_number_is in
    let second : queue.other.number ≡ 2 = omega (arith, sum, first) in
    let gate : last.gate ≡ queue.client.gate = two.0 ∙ one.0 ∙ h.gates.1 in
    let mid_items : mid.taken ≡ taken run = one.1 ∙ h.taken_is in
    let items : last.taken ≡ taken run = two.1 ∙ mid_items in
    let queued_one : queue.client.queued ≡ queued 1 run = h.queued_is ∙ ap (λ c. queued c run) first in
    let queued_two : queue.other.queued ≡ queued 2 run = h.other_queued_is ∙ ap (λ c. queued c run) second in
    let mid_lists : mid.ended ≡ ended_list 1 (queued 1 run) ∷ [] = one.2 ∙ (λ i. ended_list (first i) (queued_one i) ∷ h.none_taken_in i) in
    let lists : last.ended ≡ ended_list 2 (queued 2 run) ∷ ended_list 1 (queued 1 run) ∷ [] = two.2 ∙ (λ i. ended_list (second i) (queued_two i) ∷ mid_lists i) in
    let one_ended : Run = (End 1, reply.Ended) ∷ run in
    let one_joined : Run = (TakeIn 1, reply.Joined) ∷ one_ended in
    let two_ended : Run = (End 2, reply.Ended) ∷ one_joined in
    let open_one : is_open limits 1 run ≡ true = open_at limits 1 run h.two_clients (omega arith, omega arith) (h.nobody_ended 1) in
    let open_two : is_open limits 2 one_joined ≡ true = open_at limits 2 one_joined h.two_clients (omega arith, omega arith) (h.nobody_ended 2) in
    let only_one : (client : ℕ) → has_joined client one_joined ≡ true → client ≡ 1 =
    λ client joined. either (eqb 1 client) (has_joined client run) (client ≡ 1) joined (λ same. sym (eqb-true 1 client same)) (λ before. absurd (let none = h.nobody_joined client in cc)) in
    let begins_one : BeginsEach one_joined = λ client joined.
    let is : client ≡ 1 = only_one client joined in
    let list : queued_of client mid.ended ≡ Some (queued client run) = subst (λ c. queued_of c mid.ended ≡ Some (queued c run)) (sym is) (ap (queued_of 1) mid_lists) in
    subst (λ (l : List Numbered). IsPrefix (of_client client l) (queued client run)) mid_items (begins_mid client (queued client run) list) in
    let only_two : (client : ℕ) → has_joined client (with_ends run) ≡ true → IsClient 2 client = λ client joined.
    either (eqb 2 client) (has_joined client one_joined) (IsClient 2 client) joined
    (λ same. subst (λ c. IsClient 2 c) (eqb-true 2 client same) (omega arith, omega arith))
    (λ before. subst (λ c. IsClient 2 c) (sym (only_one client before)) (omega arith, omega arith)) in
    let before : IsAllowed limits one_joined = (
      sym (ap (λ b. cond (not b) reply.Joined (reply.Ignored None)) (h.nobody_joined 1)),
      begins_one,
      (sym (ap (λ b. cond b reply.Ended (reply.Ignored None)) open_one), begins_none one_ended h.nobody_joined, h.allowed),
    ) in
    let allowed : IsAllowed limits (with_ends run) = (
      sym (ap (λ b. cond (not b) reply.Joined (reply.Ignored None)) (h.nobody_joined 2)),
      begins_on last (with_ends run) begins_last items lists only_two,
      (sym (ap (λ b. cond b reply.Ended (reply.Ignored None)) open_two), begins_one, before),
    ) in
    record {
      two_clients = ap (λ (g : GateId). g.limits.clients) gate ∙ h.two_clients;
      taken_is = items;
      lists_are = lists;
      both_joined = λ client i.
          ⊎_elim (λ (e : client ≡ 1). subst (λ c. has_joined c (with_ends run) ≡ true) (sym e) refl) (λ (e : client ≡ 2). subst (λ c. has_joined c (with_ends run) ≡ true) (sym e) refl) (one_of_two client i);
      no_other_joined = only_two;
      allowed = subst (λ (g : GateId). IsAllowed g.limits (with_ends run)) (sym gate) allowed;
    }

-- nobody was taken in who hasn't ended
pub unjoined : (limits : Limits) (run : Run) (client : ℕ) → IsLegal limits run → has_ended client run ≡ false → has_joined client run ≡ false
unjoined limits run client legal unended = go (has_joined client run) refl
  where
    go : (b : Bool) → has_joined client run ≡ b → b ≡ false
    go true is = absurd (let ended = joined_ended limits run legal client is in cc)
    go false is = refl

-- a World's client that ends is taken in
pub ended_client : (old mid new : WorldState) (client : ℕ) (ending joining : Reply) (run : Run) → mid.limits ≡ old.limits → Extends old (End client) ending mid → Extends mid (TakeIn client) joining new → StandsAfter old run
    → is_open old.limits client run ≡ true → StandsAfter new ((TakeIn client, reply.Joined) ∷ (End client, reply.Ended) ∷ run)
ended_client old mid new client ending joining run limits ends joins h active =
    let first : StandsAfter mid ((End client, ending) ∷ run) = ends run h in
    let still : is_open mid.limits client run ≡ true = ap (λ (l : Limits). is_open l client run) limits ∙ active in
    let ended : ending ≡ reply.Ended = first.legal.0 ∙ ap (λ b. cond b reply.Ended (reply.Ignored None)) still in
    let after : StandsAfter mid ((End client, reply.Ended) ∷ run) = subst (λ (r : Reply). StandsAfter mid ((End client, r) ∷ run)) ended first in
    let second : StandsAfter new ((TakeIn client, joining) ∷ (End client, reply.Ended) ∷ run) = joins ((End client, reply.Ended) ∷ run) after in
    let own : has_ended client ((End client, reply.Ended) ∷ run) ≡ true = ap (λ b. b || has_ended client run) (eq-eqb client client refl) in
    let unjoined_yet : has_joined client run ≡ false = unjoined old.limits run client h.legal (open_client old.limits client run active).1 in
    let leaving : (has_ended client ((End client, reply.Ended) ∷ run) && not (has_joined client run)) ≡ true = ap (λ b. b && not (has_joined client run)) own ∙ ap not unjoined_yet in
    let joined : joining ≡ reply.Joined = second.legal.0 ∙ ap (λ b. cond b reply.Joined (reply.Ignored None)) leaving in
    subst (λ (r : Reply). StandsAfter new ((TakeIn client, r) ∷ (End client, reply.Ended) ∷ run)) joined second
