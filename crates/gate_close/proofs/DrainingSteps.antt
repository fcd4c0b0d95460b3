-- What was queued for all clients taken in, and that nothing is left where as much was taken.
use Rattle.std.specs.List.{list_any}
use Rattle.std.proofs.Common.{Bool, true, false, true≢false, cond, eqb, ◌||◌, IsTrue, ◌≡◌, ℕ, zero, suc, ◌+◌, ◌<◌, ◌≤◌, List, [], ◌∷◌, ◌++◌, length, get_or, Option, Some, None, refl, sym, ap, ◌∙◌, subst, arith, inl, inr, append_assoc, length-append}
use Rattle.std.specs.Prelude.{is_some, IsSome, IfSome, unwrap_or, max, All}
use Rattle.std.proofs.lemmas.Bool.{cases_lt}
use Rattle.std.proofs.lemmas.List.{append-nil, map-append, length-map}
use Rattle.std.proofs.lemmas.List.Elements.{All-push}
use Rattle.gate_model.specs.declared.record.Moment.{Moment}
use Rattle.gate_model.specs.declared.record.Record.{Record}
use Rattle.gate_model.specs.declared.submission.Numbered.{Numbered}
use Rattle.gate_model.specs.Record.{later, items_of_records}
use Rattle.gate_core.specs.Merge.{of_client, IsMerge}
use Rattle.gate_core.proofs.Counts.{length_by_client, total, total_same}
use Rattle.gate_applier.specs.declared.applier.PrepareCause.{PrepareCause}
use Rattle.gate_applier.specs.declared.applier.PrepareCause.TheVariants as prepare
use Rattle.gate_applier.specs.Applier.{ApplierView}
use Rattle.gate_queue.specs.declared.rule.EndedList.{EndedList}
use Rattle.gate_queue.specs.Knowledge.{Learns}
use Rattle.gate_queue.specs.Client.{ClientState}
use Rattle.gate_queue.specs.Taker.{TakerState, taker_state, ended_list, queued_of, list_of, total_queued, AllowsAfter, HasAll, TakesIn}
use Rattle.gate_close.specs.DrainedClose.{is_present, lists_with, records_at, moment_after, AppliesMore, LeavesSome, AreAllPresent, IsLeastMissing, CloseParts, IsStopped, IsCloseAllFault}
use Rattle.gate_close.specs.inner.Draining.{AllTakenIn, TakesInAll, is_known, close_cause}

known_list : (sent : ℕ → List Numbered) (ended : List EndedList) (c : ℕ) → ((queued : List Numbered) → queued_of c ended ≡ Some queued → sent c ≡ queued) → IsSome (queued_of c ended) → sent c ≡ list_of ended c
known_list sent ended c knows some = go (queued_of c ended) knows some
  where
    go : (o : Option (List Numbered)) → ((queued : List Numbered) → o ≡ Some queued → sent c ≡ queued) → IsSome o → sent c ≡ unwrap_or o []
    go None knows some = absurd (cc)
    go (Some queued) knows some = knows queued refl

total_of_lists : (ended : List EndedList) (n : ℕ) → total_queued ended n ≡ total (λ c. length (list_of ended c)) n
total_of_lists ended zero = refl
total_of_lists ended (suc n) = ap (λ k. k + length (list_of ended (suc n))) (total_of_lists ended n)

-- what the queue may hold after what was taken
abbrev pub Holds : TakerState → List Numbered → Type 0
Holds t queue = AllowsAfter t.gate.limits t.taken t.ended queue

module _ (t : TakerState) (all : AllTakenIn t) where
  -- the lists of the rule are those of the clients taken in
  pub merge_with : (queue : List Numbered) → Holds t queue → IsMerge t.gate.limits.clients (list_of t.ended) (t.taken ++ queue)
  merge_with queue h = record {
    clients = h.1.merge.clients;
    each = λ c ic. h.1.merge.each c ic ∙ known_list h.0 t.ended c (h.2 c) (all c ic);
  }

  pub merge_of_all : HasAll t → IsMerge t.gate.limits.clients (list_of t.ended) t.taken
  merge_of_all h = subst (IsMerge t.gate.limits.clients (list_of t.ended)) (append-nil t.taken) (merge_with [] h.empty)

  pub total_length : (queue : List Numbered) → Holds t queue → length (t.taken ++ queue) ≡ total_queued t.ended t.gate.limits.clients
  total_length queue h =
      let m = merge_with queue h in
      length_by_client t.gate.limits.clients (t.taken ++ queue) m.clients
      ∙ total_same (λ c. length (of_client c (t.taken ++ queue))) (λ c. length (list_of t.ended c)) t.gate.limits.clients (λ c ic. ap length (m.each c ic))
      ∙ sym (total_of_lists t.ended t.gate.limits.clients)

  -- as many items were taken as were queued
  pub all_taken : (queue : List Numbered) → Holds t queue → total_queued t.ended t.gate.limits.clients ≤ length t.taken → IsMerge t.gate.limits.clients (list_of t.ended) t.taken
  all_taken [] h enough = subst (IsMerge t.gate.limits.clients (list_of t.ended)) (append-nil t.taken) (merge_with [] h)
  all_taken (x ∷ xs) h enough = let long = total_length (x ∷ xs) h in absurd (omega (arith, long, length-append t.taken (x ∷ xs)))

  -- fewer items were taken than were queued
  pub some_left : (queue : List Numbered) → Holds t queue → length t.taken < total_queued t.ended t.gate.limits.clients → LeavesSome t.gate.limits.clients (list_of t.ended) t.taken
  some_left [] h few = let long = total_length [] h in absurd (omega (arith, long, length-append t.taken []))
  some_left (x ∷ xs) h few = record { next = x; rest = xs; merge = merge_with (x ∷ xs) h }

pub lists_with-snoc : (es : List ClientState) (e : ClientState) (old : List EndedList) → lists_with (es ++ e ∷ []) old ≡ ended_list e.number e.queued ∷ lists_with es old
lists_with-snoc [] e old = refl
lists_with-snoc (x ∷ xs) e old = lists_with-snoc xs e (ended_list x.number x.queued ∷ old)

some_cons : (c : ℕ) (e : EndedList) (old : List EndedList) → (b : Bool) → IsSome (queued_of c old) → IsSome (cond b (Some e.queued) (queued_of c old))
some_cons c e old true h = refl
some_cons c e old false h = h

stays_in : (c : ℕ) (es : List ClientState) (old : List EndedList) → IsSome (queued_of c old) → IsSome (queued_of c (lists_with es old))
stays_in c [] old h = h
stays_in c (e ∷ es) old h = stays_in c es (ended_list e.number e.queued ∷ old) (some_cons c (ended_list e.number e.queued) old (eqb e.number c) h)

listed_at : (c : ℕ) (x : ClientState) (xs : List ClientState) (k : List EndedList) → (b : Bool) → eqb x.number c ≡ b → IsTrue (b || list_any (λ e. eqb e.number c) xs) → (IsTrue (list_any (λ e. eqb e.number c) xs) → IsSome (queued_of c (lists_with (x ∷ xs) k))) → IsSome (queued_of c (lists_with (x ∷ xs) k))
listed_at c x xs k true is a rest = stays_in c xs (ended_list x.number x.queued ∷ k) (ap (λ t. is_some (cond t (Some x.queued) (queued_of c k))) is)
listed_at c x xs k false is a rest = rest a

listed : (c : ℕ) (xs : List ClientState) (k : List EndedList) → IsTrue (list_any (λ e. eqb e.number c) xs) → IsSome (queued_of c (lists_with xs k))
listed c [] k a = absurd (cc)
listed c (x ∷ xs) k a = listed_at c x xs k (eqb x.number c) refl a (λ r. listed c xs (ended_list x.number x.queued ∷ k) r)

-- a client that is present has its list among those of the clients taken in, once those given are taken in
pub present_in : (c : ℕ) (es : List ClientState) (old : List EndedList) → IsTrue (is_present es old c) → IsSome (queued_of c (lists_with es old))
present_in c es old h = go (is_some (queued_of c old)) refl h
  where
    go : (b : Bool) → is_some (queued_of c old) ≡ b → IsTrue (b || list_any (λ e. eqb e.number c) es) → IsSome (queued_of c (lists_with es old))
    go true is a = stays_in c es old is
    go false is a = listed c es old a

-- the second test decides where the first fails
pub or_else : (b a : Bool) → (b ≡ true → ⊥) → (IsTrue a → IsTrue (b || a)) × (IsTrue (b || a) → IsTrue a)
or_else true a n = absurd (n refl)
or_else false a n = (λ x. x, λ x. x)

-- ---- what is known of the close

learns_same : (learned middle new : Option Moment) (first : Moment) → Learns learned middle new → middle ≡ Some first → new ≡ Some first
learns_same None middle new first l is = l ∙ is
learns_same (Some k) None new first l is = absurd (cc)
learns_same (Some k) (Some m) new first l is = l.1 ∙ ap Some (sym l.0) ∙ is

learns_keeps : (known learned middle new : Option Moment) → Learns learned middle new → IfSome known (λ first. middle ≡ Some first) → IfSome known (λ first. new ≡ Some first)
learns_keeps None learned middle new l is = tt
learns_keeps (Some first) learned middle new l is = learns_same learned middle new first l is

learns_new : (learned middle new : Option Moment) → Learns learned middle new → IfSome learned (λ first. new ≡ Some first)
learns_new None middle new l = tt
learns_new (Some k) None new l = l
learns_new (Some k) (Some m) new l = l.1

-- one more client is taken in
pub takes_in_next : (clients : List ClientState) (client : ClientState) (old middle new : TakerState) → TakesInAll clients old middle → TakesIn client middle new → TakesInAll (clients ++ client ∷ []) old new
takes_in_next clients client old middle new i t =
    let keeps : (known : Option Moment) → IfSome known (λ first. middle.known_close ≡ Some first) → IfSome known (λ first. new.known_close ≡ Some first) = λ known is. learns_keeps known client.known_close middle.known_close new.known_close t.3 is in
    record {
      gate = t.0 ∙ i.gate;
      taken = t.1 ∙ i.taken;
      taken_in = t.2 ∙ ap (λ l. ended_list client.number client.queued ∷ l) i.taken_in ∙ sym (lists_with-snoc clients client old.ended);
      knew = keeps old.known_close i.knew;
      known = All-push (λ (e : ClientState). IfSome e.known_close (λ first. new.known_close ≡ Some first)) clients client
          (λ k d less. keeps (get_or clients k d).known_close (i.known k d less)) (learns_new client.known_close middle.known_close new.known_close t.3);
    }

-- a part's moment is that of another, which is a third one's
pub same_moment : (known middle new : Option Moment) → IfSome known (λ first. middle ≡ Some first) → IfSome middle (λ first. new ≡ Some first) → IfSome known (λ first. new ≡ Some first)
same_moment None middle new a b = tt
same_moment (Some first) None new a b = absurd (cc)
same_moment (Some first) (Some m) new a b = b ∙ a

-- where a client knows the taker knows
pub known_by_one : (clients : List ClientState) (new : Option Moment) → list_any (λ (e : ClientState). is_some e.known_close) clients ≡ true → All (λ (e : ClientState). IfSome e.known_close (λ first. new ≡ Some first)) clients → IsSome new
known_by_one [] new any h = absurd (true≢false (sym any))
known_by_one (e ∷ es) new any h = go e.known_close any (h 0 e (omega arith)) (λ rest. known_by_one es new rest (λ k d less. h (suc k) d (omega arith)))
  where
    go : (o : Option Moment) → (is_some o || list_any (λ (x : ClientState). is_some x.known_close) es) ≡ true → IfSome o (λ first. new ≡ Some first) → (list_any (λ (x : ClientState). is_some x.known_close) es ≡ true → IsSome new) → IsSome new
    go None any here rest = rest any
    go (Some first) any here rest = ap is_some here

pub known_by_none : (clients : List ClientState) → list_any (λ (e : ClientState). is_some e.known_close) clients ≡ false → All (λ (e : ClientState). e.known_close ≡ None) clients
known_by_none [] none k d less = absurd (omega arith)
known_by_none (e ∷ es) none zero d less = go e.known_close none
  where
    go : (o : Option Moment) → (is_some o || list_any (λ (x : ClientState). is_some x.known_close) es) ≡ false → o ≡ None
    go None none = refl
    go (Some first) none = absurd (true≢false none)
known_by_none (e ∷ es) none (suc k) d less = known_by_none es (go e.known_close none) k d (omega arith)
  where
    go : (o : Option Moment) → (is_some o || list_any (λ (x : ClientState). is_some x.known_close) es) ≡ false → list_any (λ (x : ClientState). is_some x.known_close) es ≡ false
    go None none = none
    go (Some first) none = absurd (true≢false none)

-- ---- records

later_again : (old now : Moment) → later (later old now) now ≡ later old now
later_again old now = let e : max (max old.0 now.0) now.0 ≡ max old.0 now.0 = omega arith in ap (λ n. record { 0 = n }) e

later_after : (old now : Moment) (items : List Numbered) → later (moment_after old now items) now ≡ later old now
later_after old now [] = refl
later_after old now (x ∷ xs) = later_again old now

moment_after-snoc : (old now : Moment) (items : List Numbered) (item : Numbered) → moment_after old now (items ++ item ∷ []) ≡ later old now
moment_after-snoc old now [] item = refl
moment_after-snoc old now (x ∷ xs) item = refl

pub applies_none : (now : Moment) (old : ApplierView) → AppliesMore now old old
applies_none now old = record { items = []; records = sym (append-nil old.records); moment = refl; table = refl; opening = refl; limit = refl }

-- the room is no part of what was applied
pub applies_with_room : (now : Moment) (old new : ApplierView) (room : ℕ) → AppliesMore now old new → AppliesMore now old (record new { room = room })
applies_with_room now old new room a = record {
  items = a.items;
  records = a.records;
  moment = a.moment;
  table = a.table;
  opening = a.opening;
  limit = a.limit;
}

-- one more item is applied
pub applies_next : (now : Moment) (old middle new : ApplierView) (item : Numbered) → AppliesMore now old middle
    → new.records ≡ middle.records ++ record { moment = later middle.moment now; item = item } ∷ [] → new.moment ≡ later middle.moment now
    → new.table ≡ middle.table → new.opening ≡ middle.opening → new.limit ≡ middle.limit → AppliesMore now old new
applies_next now old middle new item a records moment table opening limit =
    let at : later middle.moment now ≡ later old.moment now = ap (λ m. later m now) a.moment ∙ later_after old.moment now a.items in record {
      items = a.items ++ item ∷ [];
      records = records ∙ (λ i. a.records i ++ record { moment = at i; item = item } ∷ [])
          ∙ append_assoc old.records (records_at (later old.moment now) a.items) (record { moment = later old.moment now; item = item } ∷ [])
          ∙ ap (λ l. old.records ++ l) (sym (map-append (λ (x : Numbered). record { moment = later old.moment now; item = x }) a.items (item ∷ [])));
      moment = moment ∙ at ∙ sym (moment_after-snoc old.moment now a.items item);
      table = table ∙ a.table;
      opening = opening ∙ a.opening;
      limit = limit ∙ a.limit;
    }

pub items_next : (old : List Record) (moment : Moment) (item : Numbered) → items_of_records (old ++ record { moment = moment; item = item } ∷ []) ≡ items_of_records old ++ item ∷ []
items_next old moment item = map-append (λ (applied : Record). applied.item) old (record { moment = moment; item = item } ∷ [])

-- as many records as items were queued
pub enough_taken : (old new : TakerState) (records shown : List Record) (queued : ℕ) → new ≡ taker_state old.gate (items_of_records records) old.ended old.known_close
    → shown ≡ records → queued ≡ total_queued old.ended old.gate.limits.clients → queued ≤ length shown → total_queued new.ended new.gate.limits.clients ≤ length new.taken
enough_taken old new records shown queued same is count enough =
    subst (λ (t : TakerState). total_queued t.ended t.gate.limits.clients ≤ length t.taken) (sym same)
    (omega (arith, ap length is, length-map records (λ (applied : Record). applied.item)))

-- fewer records than items were queued
pub few_taken : (old new : TakerState) (records shown : List Record) (queued : ℕ) → new ≡ taker_state old.gate (items_of_records records) old.ended old.known_close
    → shown ≡ records → queued ≡ total_queued old.ended old.gate.limits.clients → length shown < queued → length new.taken < total_queued new.ended new.gate.limits.clients
few_taken old new records shown queued same is count few =
    subst (λ (t : TakerState). length t.taken < total_queued t.ended t.gate.limits.clients) (sym same)
    (omega (arith, ap length is, length-map records (λ (applied : Record). applied.item)))

-- a full log is reported before memory that is missing
pub room_left : (applier : ApplierView) (cause : PrepareCause) → (length applier.records ≡ applier.limit → cause ≡ prepare.LogFull) → length applier.records ≤ applier.limit
    → cause ≡ prepare.OutOfMemory → length applier.records < applier.limit
room_left applier cause full few missing = elim (cases_lt (length applier.records) applier.limit) [
  | inl less ↦ less
  | inr more ↦ let same : cause ≡ prepare.LogFull = full (omega (arith, few, more)) in absurd (cc)
]

-- ---- the close

pub present_at : (m n : ℕ) (xs ys : List ClientState) (ended : List EndedList) → m ≡ n → xs ≡ ys → AreAllPresent m xs ended → AreAllPresent n ys ended
present_at m n xs ys ended is same all = subst (λ (y : ℕ × List ClientState). AreAllPresent y.0 y.1 ended) (λ i. (is i, same i)) all

pub missing_at : (m n : ℕ) (xs ys : List ClientState) (ended : List EndedList) (c : ℕ) → m ≡ n → xs ≡ ys → IsLeastMissing m xs ended c → IsLeastMissing n ys ended c
missing_at m n xs ys ended c is same least = subst (λ (y : ℕ × List ClientState). IsLeastMissing y.0 y.1 ended c) (λ i. (is i, same i)) least

-- neither the taker nor a client knows of a close
pub unknown : (known new : Option Moment) (clients : List ClientState) → IfSome known (λ first. new ≡ Some first) → is_known new clients ≡ false → (new ≡ None) × (known ≡ None) × All (λ (e : ClientState). e.known_close ≡ None) clients
unknown None None clients same none = (refl, refl, known_by_none clients none)
unknown (Some first) None clients same none = absurd (cc)
unknown known (Some first) clients same none = absurd (true≢false none)

-- the taker or a client knows of the close, and so does the taker that took in all
pub some_knows : (new after : Option Moment) (clients : List ClientState) → is_known new clients ≡ true → IfSome new (λ first. after ≡ Some first) → All (λ (e : ClientState). IfSome e.known_close (λ first. after ≡ Some first)) clients → IsSome after
some_knows None after clients any same all = known_by_one clients after any all
some_knows (Some first) after clients any same all = ap is_some same

pub stopped_fault : (cause : PrepareCause) (n : ℕ) (now : Moment) (old new : CloseParts) → AreAllPresent n old.clients old.taker.ended → IsStopped n now old new
    → (cause ≡ prepare.LogFull → length new.applier.records ≡ new.applier.limit) → (cause ≡ prepare.OutOfMemory → length new.applier.records < new.applier.limit) → IsCloseAllFault (close_cause cause) n now old new
stopped_fault prepare.LogFull n now old new all stopped full room = (all, stopped, full refl)
stopped_fault prepare.OutOfMemory n now old new all stopped full room = (all, stopped, room refl)
