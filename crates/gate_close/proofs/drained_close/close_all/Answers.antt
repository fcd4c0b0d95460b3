use Rattle.std.proofs.Common.{◌≡◌, List, true, false, refl, sym, ap, ◌∙◌, subst, rules}
use Rattle.std.specs.Prelude.{IsSome}
use Rattle.gate_model.specs.Record.{items_of_records}
use Rattle.gate_core.specs.Merge.{IsClient, IsMerge}
use Rattle.gate_queue.specs.declared.rule.EndedList.{EndedList}
use Rattle.gate_close.specs.declared.drained_close.CloseAllCause.{CloseAllCause}
use Rattle.gate_queue.specs.Client.{ClientState}
use Rattle.gate_queue.specs.Taker.{queued_of, list_of, TakerState, taker_state}
use Rattle.gate_close.specs.DrainedClose.{close_parts, lists_with, KnowsAsAll, LeavesSome, IsStopped, IsCloseAllFault}
use Rattle.gate_close.specs.inner.Draining.{is_known}
use Rattle.gate_close.proofs.DrainingSteps.{present_at, missing_at, present_in, unknown, some_knows, same_moment, stopped_fault}
use Rattle.gate_close.proofs.drained_close.close_all.Goals as goal

pub returns-then-not-is_closing-clause-fault : goal.returns-then-not-is_closing-clause-fault
returns-then-not-is_closing-clause-fault g c =
    let t = c.args.taker in
    let e = c.is_closing.ensures in
    let flag : is_known c.is_closing.new.taker.known_close c.args.ended.items ≡ false = ap (λ (l : List ClientState). is_known c.is_closing.new.taker.known_close l) (sym c.as_slice-2.ensures.value) ∙ sym e.closing ∙ c.if-not-is_closing.true in
    let u = unknown t.known_close c.is_closing.new.taker.known_close c.args.ended.items e.knew flag in
    let same : c.is_closing.new.taker ≡ t = e.taker ∙ ap (λ k. taker_state t.gate t.taken t.ended k) (u.0 ∙ sym u.1) in (
      present_at _ _ _ _ t.ended c.clients.ensures c.as_slice.ensures.value c.in_default.ensures.all,
      record { taker = u.1; clients = u.2 },
      ap (λ (s : TakerState). close_parts s c.args.ended.items c.args.applier) same,
    )

pub drain-requires-clause-all : goal.drain-requires-clause-all
drain-requires-clause-all g c n ic =
    let t = c.args.taker in
    let e = c.is_closing.ensures in
    let in_all = c.take_in_all.ensures in
    let all = present_at _ _ _ _ t.ended c.clients.ensures c.as_slice.ensures.value c.in_default.ensures.all in
    let limits = ap (λ k. k.limits.clients) (in_all.gate ∙ ap (λ (s : TakerState). s.gate) e.taker ∙ c.requires.taker) in
    let lists : c.take_in_all.new.taker.ended ≡ lists_with c.args.ended.items t.ended = in_all.taken_in ∙ ap (λ (s : TakerState). lists_with c.args.ended.items s.ended) e.taker in
    subst (λ (l : List EndedList). IsSome (queued_of n l)) (sym lists) (present_in n c.args.ended.items t.ended (all n (subst (λ k. IsClient k n) limits ic)))

pub returns-in-Ok-clause-merge : goal.returns-in-Ok-clause-merge
returns-in-Ok-clause-merge g c =
    let lists : c.take_in_all.new.taker.ended ≡ lists_with c.args.ended.items c.args.taker.ended = c.take_in_all.ensures.taken_in ∙ ap (λ (s : TakerState). lists_with c.args.ended.items s.ended) c.is_closing.ensures.taker in
    subst (λ (l : List EndedList). IsMerge c.args.gate.now.limits.clients (list_of l) (items_of_records c.in-Ok.applier.records)) lists c.in-Ok.ensures.merge

pub returns-in-Err-clause-fault : goal.returns-in-Err-clause-fault
returns-in-Err-clause-fault g c =
    let t = c.args.taker in
    let e = c.is_closing.ensures in
    let in_all = c.take_in_all.ensures in
    let d = c.in-Err.ensures in
    let n = c.args.gate.now.limits.clients in
    let old = close_parts t c.args.ended.items c.args.applier in
    let new = close_parts c.drain.new.taker c.new-none_left.result.items c.in-Err.fault.applier in
    let all = present_at _ _ _ _ t.ended c.clients.ensures c.as_slice.ensures.value c.in_default.ensures.all in
    let lists : c.take_in_all.new.taker.ended ≡ lists_with c.args.ended.items t.ended = in_all.taken_in ∙ ap (λ (s : TakerState). lists_with c.args.ended.items s.ended) e.taker in
    let flag : is_known c.is_closing.new.taker.known_close c.args.ended.items ≡ true = ap (λ (l : List ClientState). is_known c.is_closing.new.taker.known_close l) (sym c.as_slice-2.ensures.value) ∙ sym e.closing ∙ c.if-not-is_closing.false in
    let known : KnowsAsAll old c.take_in_all.new.taker.known_close = record {
      some = some_knows c.is_closing.new.taker.known_close c.take_in_all.new.taker.known_close c.args.ended.items flag in_all.knew in_all.known;
      taker = same_moment t.known_close c.is_closing.new.taker.known_close c.take_in_all.new.taker.known_close e.knew in_all.knew;
      clients = in_all.known;
    } in
    let stopped : IsStopped n c.args.now old new = record {
      clients = c.new-none_left.ensures.items;
      taken_in = ap (λ (s : TakerState). s.ended) d.taker ∙ lists;
      known_close = subst (KnowsAsAll old) (sym (ap (λ (s : TakerState). s.known_close) d.taker)) known;
      applied = d.more;
      left = subst (λ (l : List EndedList). LeavesSome n (list_of l) (items_of_records c.in-Err.fault.applier.records)) lists d.left;
    } in
    subst (λ (k : CloseAllCause). IsCloseAllFault k n c.args.now old new) (sym c.cause_of.ensures) (stopped_fault c.in-Err.fault.cause n c.args.now old new all stopped d.log_full d.has_room)

pub returns-in-Ok-clause-all : goal.returns-in-Ok-clause-all
returns-in-Ok-clause-all g c = present_at _ _ _ _ c.args.taker.ended c.clients.ensures c.as_slice.ensures.value c.in_default.ensures.all

pub returns-in-Err-clause-again : goal.returns-in-Err-clause-again
returns-in-Err-clause-again g c =
    let left = c.in-Err.ensures.taker in
    record {
      taker = ap (λ (s : TakerState). s.gate) left ∙ c.take_in_all.ensures.gate ∙ ap (λ (s : TakerState). s.gate) c.is_closing.ensures.taker ∙ c.requires.taker;
      clients = search rules;
      applied = sym (ap (λ (s : TakerState). s.taken) left);
    }

pub is_closing-requires : goal.is_closing-requires
is_closing-requires g c = c.requires.taker

pub take_in_all-requires-clause-gate : goal.take_in_all-requires-clause-gate
take_in_all-requires-clause-gate g c = ap (λ (s : TakerState). s.gate) c.is_closing.ensures.taker ∙ c.requires.taker

pub take_in_all-requires-clause-given : goal.take_in_all-requires-clause-given
take_in_all-requires-clause-given g c = c.requires.clients

pub drain-requires-clause-gate : goal.drain-requires-clause-gate
drain-requires-clause-gate g c = c.take_in_all.ensures.gate ∙ ap (λ (s : TakerState). s.gate) c.is_closing.ensures.taker ∙ c.requires.taker

pub drain-requires-clause-applied : goal.drain-requires-clause-applied
drain-requires-clause-applied g c = c.requires.applied ∙ sym (c.take_in_all.ensures.taken ∙ ap (λ (s : TakerState). s.taken) c.is_closing.ensures.taker)

pub returns-in-Some-clause-fault : goal.returns-in-Some-clause-fault
returns-in-Some-clause-fault g c = (
  missing_at _ _ _ _ c.args.taker.ended c.in-Some.client c.clients.ensures c.as_slice.ensures.value c.in-Some.ensures.least,
  refl,
)

pub returns-in-Some-clause-again : goal.returns-in-Some-clause-again
returns-in-Some-clause-again g c = c.requires

pub returns-then-not-is_closing-clause-again : goal.returns-then-not-is_closing-clause-again
returns-then-not-is_closing-clause-again g c =
    let known = c.is_closing.ensures.taker in
    record {
      taker = ap (λ (s : TakerState). s.gate) known ∙ c.requires.taker;
      clients = c.requires.clients;
      applied = c.requires.applied ∙ sym (ap (λ (s : TakerState). s.taken) known);
    }

pub returns-in-Ok-clause-applied : goal.returns-in-Ok-clause-applied
returns-in-Ok-clause-applied g c = c.in-Ok.ensures.applied
