-- What is known of a gateway whose queue was drained, or couldn't be.
use Rattle.std.proofs.Common.{◌≡◌, ℕ, zero, suc, ◌+◌, ◌≤◌, ◌<◌, ◌⊎◌, inl, inr, ⊎_elim, Bool, true, false, ◌||◌, eqb, eq-eqb, List, [], ◌∷◌, ◌++◌, length, Option, Some, None, refl, sym, ap, ◌∙◌, subst, arith}
use Rattle.std.specs.Prelude.{All, IsSome}
use Rattle.std.specs.List.{list_any}
use Rattle.std.proofs.lemmas.Bool.{true≢false}
use Rattle.gate_model.specs.declared.object.ObjectLine.{ObjectLine}
use Rattle.gate_model.specs.declared.record.Moment.{Moment}
use Rattle.gate_model.specs.declared.submission.Numbered.{Numbered}
use Rattle.gate_model.specs.Record.{items_of_records}
use Rattle.gate_core.specs.Merge.{IsClient, IsMerge}
use Rattle.gate_queue.specs.declared.rule.EndedList.{EndedList}
use Rattle.gate_close.specs.declared.drained_close.CloseAllCause.{CloseAllCause}
use Rattle.gate_close.specs.declared.drained_close.CloseAllCause.TheVariants as cause
use Rattle.gate_queue.specs.Client.{ClientState}
use Rattle.gate_queue.specs.Gate.{GateId}
use Rattle.gate_close.specs.DrainedClose.{is_present, queued_by, CloseParts, AppliesMore, CanClose, IsCloseAllFault, IsLeastMissing, IsStopped, LeavesSome}
use Rattle.gate_worker.specs.Numbers.{numbers_after}
use Rattle.gate_worker.specs.Answered.{HoldsAll}
use Rattle.gate_opening.specs.Faults.{LosesNothing, IsUndrained}
use Rattle.gate_worker.specs.Collecting.{numbers_of, queued_for_each}
use Rattle.gate_daemon.proofs.Merged.{AreHeld, all_merged, holds_all}

-- ---- no client is missing

split_last : (i n : ℕ) → i ≤ n → (i < n) ⊎ (i ≡ n)
split_last zero zero low = inr refl
split_last zero (suc n) low = inl (omega arith)
split_last (suc i) zero low = absurd (omega arith)
split_last (suc i) (suc n) low = ⊎_elim (λ l. inl (omega arith)) (λ e. inr (ap suc e)) (split_last i n (omega arith))

or_right : (one other : Bool) → other ≡ true → (one || other) ≡ true
or_right true other e = refl
or_right false other e = e

any_after : (c start n : ℕ) → start < c → c ≤ start + n → list_any (λ k. eqb k c) (numbers_after start n) ≡ true
any_after c start zero low high = absurd (omega arith)
any_after c start (suc n) low high =
    ⊎_elim (λ (later : suc start < c). or_right (eqb (suc start) c) _ (any_after c (suc start) n later (omega arith)))
    (λ (here : suc start ≡ c). ap (λ b. b || list_any (λ k. eqb k c) (numbers_after (suc start) n)) (eq-eqb (suc start) c here))
    (split_last (suc start) c (omega arith))

any_client : (workers c : ℕ) → 1 ≤ c → c ≤ suc workers → list_any (λ k. eqb k c) (suc workers ∷ numbers_after 0 workers) ≡ true
any_client workers c low high =
    ⊎_elim (λ (before : c < suc workers). or_right (eqb (suc workers) c) _ (any_after c 0 workers (omega arith) (omega arith)))
    (λ (last : c ≡ suc workers). ap (λ b. b || list_any (λ k. eqb k c) (numbers_after 0 workers)) (eq-eqb (suc workers) c (sym last)))
    (split_last c (suc workers) high)

any_number : (c : ℕ) (es : List ClientState) → list_any (λ e. eqb e.number c) es ≡ list_any (λ k. eqb k c) (numbers_of es)
any_number c [] = refl
any_number c (e ∷ es) = ap (λ b. eqb e.number c || b) (any_number c es)

-- ---- what is left

-- some of the items are left, and the clients' ends are those that the gate was drained with
left : (workers n : ℕ) (es : List ClientState) (queued : List (ℕ × List ℕ)) (log : List Numbered) → n ≡ workers + 1
    → numbers_of es ≡ (workers + 1) ∷ numbers_after 0 workers → queued_for_each es ≡ queued
    → All (λ (pair : ℕ × List ℕ). pair.1 ≡ numbers_after 0 (length pair.1)) (queued_for_each es)
    → LeavesSome n (queued_by es []) log → LosesNothing workers queued log
left workers n es queued log same all reported counted some = record {
  next = some.next;
  rest = some.rest;
  holds = holds_all workers n es queued (log ++ some.next ∷ some.rest) same all reported counted some.merge;
}

-- the gate is drained with the ends of all clients, and its taker took none in and knows of the close
pub record CanDrain (workers n : ℕ) (queued : List (ℕ × List ℕ)) (old : CloseParts) : Type 0 where
  pub count : n ≡ workers + 1
  pub none_in : old.taker.ended ≡ []
  pub known_close : IsSome old.taker.known_close
  pub all : numbers_of old.clients ≡ (workers + 1) ∷ numbers_after 0 workers
  pub reported : queued_for_each old.clients ≡ queued
  pub counted : All (λ (pair : ℕ × List ℕ). pair.1 ≡ numbers_after 0 (length pair.1)) (queued_for_each old.clients)

pub drained_all : (workers n : ℕ) (queued : List (ℕ × List ℕ)) (old : CloseParts) (log : List Numbered) → CanDrain workers n queued old
    → IsMerge n (queued_by old.clients old.taker.ended) log → HoldsAll workers queued log
drained_all workers n queued old log can merge =
    holds_all workers n old.clients queued log can.count can.all can.reported can.counted
    (subst (λ (o : List EndedList). IsMerge n (queued_by old.clients o) log) can.none_in merge)

-- the log holds the items of each client, and nobody else's
pub drained_held : (workers n : ℕ) (queued : List (ℕ × List ℕ)) (old : CloseParts) (log : List Numbered) → CanDrain workers n queued old
    → IsMerge n (queued_by old.clients old.taker.ended) log → AreHeld log old.clients × All (λ (item : Numbered). IsClient (workers + 1) item.client) log
drained_held workers n queued old log can merge =
    let whole = subst (λ (o : List EndedList). IsMerge n (queued_by old.clients o) log) can.none_in merge in
    let e : workers + 1 ≡ suc workers = omega arith in (
      all_merged workers log old.clients (can.all ∙ ap (λ k. k ∷ numbers_after 0 workers) e)
          (subst (λ (k : ℕ). IsMerge k (queued_by old.clients []) log) (can.count ∙ e) whole),
      subst (λ (k : ℕ). All (λ (item : Numbered). IsClient k item.client) log) can.count whole.clients,
    )

drained_left : (workers n : ℕ) (queued : List (ℕ × List ℕ)) (old : CloseParts) (log : List Numbered) → CanDrain workers n queued old
    → LeavesSome n (queued_by old.clients old.taker.ended) log → LosesNothing workers queued log
drained_left workers n queued old log can some =
    left workers n old.clients queued log can.count can.all can.reported can.counted
    (subst (λ (o : List EndedList). LeavesSome n (queued_by old.clients o) log) can.none_in some)

-- no client is missing
none_missing : (workers n c : ℕ) (queued : List (ℕ × List ℕ)) (old : CloseParts) → CanDrain workers n queued old → IsLeastMissing n old.clients old.taker.ended c → ⊥
none_missing workers n c queued old can fault =
    let missing : list_any (λ e. eqb e.number c) old.clients ≡ false = subst (λ (o : List EndedList). is_present old.clients o c ≡ false) can.none_in fault.missing in
    let e : workers + 1 ≡ suc workers = omega arith in
    let low : c ≤ suc workers = subst (λ (k : ℕ). c ≤ k) (can.count ∙ e) fault.client.1 in
    let found = any_number c old.clients ∙ ap (list_any (λ k. eqb k c)) (can.all ∙ ap (λ k. k ∷ numbers_after 0 workers) e) ∙ any_client workers c fault.client.0 low in
    true≢false (sym found ∙ missing)

-- the gate is closing
is_known : (known : Option Moment) → IsSome known → known ≡ None → ⊥
is_known (Some first) some none = absurd (cc)
is_known None some none = true≢false (sym some)

-- what a drain that stopped returns
stopped : (workers n : ℕ) (now : Moment) (queued : List (ℕ × List ℕ)) (old new : CloseParts) → CanDrain workers n queued old → IsStopped n now old new
    → LosesNothing workers queued (items_of_records new.applier.records)
    × ((log : List Numbered) → IsMerge n (queued_by new.clients new.taker.ended) log → HoldsAll workers queued log)
    × ((log : List Numbered) → LeavesSome n (queued_by new.clients new.taker.ended) log → LosesNothing workers queued log)
stopped workers n now queued old new can is =
    let given : queued_by new.clients new.taker.ended ≡ queued_by old.clients old.taker.ended =
    ap (λ (es : List ClientState). queued_by es new.taker.ended) is.clients ∙ ap (queued_by []) is.taken_in in (
      drained_left workers n queued old _ can is.left,
      λ log merge. drained_all workers n queued old log can (subst (λ (sent : ℕ → List Numbered). IsMerge n sent log) given merge),
      λ log some. drained_left workers n queued old log can (subst (λ (sent : ℕ → List Numbered). LeavesSome n sent log) given some),
    )

pub undrained : (workers limit : ℕ) (table : List ObjectLine) (gate : GateId) (now : Moment) (why : CloseAllCause) (queued : List (ℕ × List ℕ)) (old new : CloseParts)
    → CanDrain workers gate.limits.clients queued old → CanClose gate new → old.applier.table ≡ table → old.applier.limit ≡ limit
    → IsCloseAllFault why gate.limits.clients now old new → IsUndrained workers limit table gate why new queued
undrained workers limit table gate now (cause.Missing c) queued old new can again of_table of_limit fault =
    absurd (none_missing workers gate.limits.clients c queued old can fault.0)
undrained workers limit table gate now cause.NotClosing queued old new can again of_table of_limit fault =
    absurd (is_known old.taker.known_close can.known_close fault.1.taker)
undrained workers limit table gate now cause.LogFull queued old new can again of_table of_limit fault =
    let t = stopped workers gate.limits.clients now queued old new can fault.1 in record {
      clients = can.count;
      can_close = again;
      of_table = fault.1.applied.table ∙ of_table;
      of_limit = fault.1.applied.limit ∙ of_limit;
      fault = (t.0, fault.2);
      again = t.1;
      later = t.2;
    }
undrained workers limit table gate now cause.OutOfMemory queued old new can again of_table of_limit fault =
    let t = stopped workers gate.limits.clients now queued old new can fault.1 in record {
      clients = can.count;
      can_close = again;
      of_table = fault.1.applied.table ∙ of_table;
      of_limit = fault.1.applied.limit ∙ of_limit;
      fault = (t.0, fault.2);
      again = t.1;
      later = t.2;
    }

-- what was applied before a drain stopped
pub applied_until : (workers n : ℕ) (now : Moment) (why : CloseAllCause) (queued : List (ℕ × List ℕ)) (old new : CloseParts) → CanDrain workers n queued old
    → IsCloseAllFault why n now old new → AppliesMore now old.applier new.applier
applied_until workers n now (cause.Missing c) queued old new can fault = absurd (none_missing workers n c queued old can fault.0)
applied_until workers n now cause.NotClosing queued old new can fault = absurd (is_known old.taker.known_close can.known_close fault.1.taker)
applied_until workers n now cause.LogFull queued old new can fault = fault.1.applied
applied_until workers n now cause.OutOfMemory queued old new can fault = fault.1.applied
