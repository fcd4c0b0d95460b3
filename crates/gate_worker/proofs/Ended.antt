-- The workers that were started and that have ended, one more and all of them.
use Rattle.std.proofs.Common.{◌≡◌, ℕ, suc, ◌+◌, List, [], ◌∷◌, ◌++◌, length, map, Option, Some, None, Bool, false, refl, sym, ap, ◌∙◌, subst, arith, length-append}
use Rattle.std.specs.Prelude.{IfSome}
use Rattle.std.proofs.lemmas.List.{length-map, map-append}
use Rattle.std.proofs.lemmas.List.Elements.{All-push}
use Rattle.std.proofs.lemmas.Option.{IfSome_then}
use Rattle.gate_model.specs.declared.record.Moment.{Moment}
use Rattle.gate_queue.specs.Gate.{GateId}
use Rattle.gate_queue.specs.Client.{ClientState, client_state}
use Rattle.gate_reader.specs.declared.report.Report.{Report}
use Rattle.gate_worker.specs.Numbers.{numbers_after}
use Rattle.gate_worker.specs.declared.limits.WorkerLimits.{WorkerLimits}
use Rattle.gate_worker.specs.declared.worker.Cause.{Cause}
use Rattle.gate_worker.specs.declared.worker.WorkerEnd.{WorkerEnd}
use Rattle.gate_worker.specs.declared.collected.Collected.{Collected}
use Rattle.gate_worker.specs.Answered.{reports_of_each}
use Rattle.gate_worker.specs.Served.{EndsSo}
use Rattle.gate_worker.specs.Collecting.{numbers_of, AreOf, EachEnded, AllEnded}
use Rattle.gate_worker.specs.Joining.{AreCollected}
use Rattle.gate_worker.specs.inner.Starting.{ReturnsAs, AreStarted, Adds, JoinsAll}

-- what a worker is known by, written otherwise
pub ended_as : {operator operator' : Bool} {limits limits' : WorkerLimits} {K : Type 0} (shows : K → Moment → Type 0) {clock clock' : K} {streams streams' : Option (List (List ℕ))} {begun begun' ended : ClientState} {reports : List Report} {cause : Cause}
    → EndsSo operator limits (shows clock) streams begun reports ended cause → operator ≡ operator' → limits ≡ limits' → clock ≡ clock' → streams ≡ streams' → begun ≡ begun'
    → EndsSo operator' limits' (shows clock') streams' begun' reports ended cause
ended_as {operator} {operator'} {limits} {limits'} {K} shows {clock} {clock'} {streams} {streams'} {begun} {begun'} {ended} {reports} {cause} ends role bounds read sent client =
    subst (λ (b : ClientState). EndsSo operator' limits' (shows clock') streams' b reports ended cause) client
    (subst (λ (s : Option (List (List ℕ))). EndsSo operator' limits' (shows clock') s begun reports ended cause) sent
    (subst (λ (k : K). EndsSo operator' limits' (shows k) streams begun reports ended cause) read
    (subst (λ (l : WorkerLimits). EndsSo operator' l (shows clock) streams begun reports ended cause) bounds
    (subst (λ (o : Bool). EndsSo o limits (shows clock) streams begun reports ended cause) role ends))))

-- what holds of a value that may be there holds of this one
pub at_some : {X : Type 0} (P : X → Type 0) (found : Option X) (x : X) → found ≡ Some x → IfSome found P → P x
at_some {X} P found x is holds = subst (λ (o : Option X). IfSome o P) is holds

-- ---- one more worker

each_next : (limits : WorkerLimits) (shows : Moment → Type 0) (gate : GateId) (number last : ℕ) (agents : List (Option (List (List ℕ)))) (clients : List ClientState) (reports : List (ℕ × List Report))
    (streams : Option (List (List ℕ))) (client : ClientState) (reported : ℕ × List Report) (cause : Cause)
    → EachEnded limits shows gate number agents clients reports → last ≡ number + length agents → reported.0 ≡ client.number
    → EndsSo false limits shows streams (client_state gate (suc last) [] None) reported.1 client cause
    → EachEnded limits shows gate number (agents ++ streams ∷ []) (clients ++ client ∷ []) (reports ++ reported ∷ [])
each_next limits shows gate number last [] [] [] streams client reported cause e here named work =
    let same : last ≡ number = omega arith in
    (named, (cause, subst (λ (n : ℕ). EndsSo false limits shows streams (client_state gate (suc n) [] None) reported.1 client cause) same work), tt)
each_next limits shows gate number last (s ∷ agents) (c ∷ clients) (r ∷ reports) streams client reported cause e here named work =
    let next : last ≡ suc number + length agents = omega arith in
    (e.0, e.1, each_next limits shows gate (suc number) last agents clients reports streams client reported cause e.2 next named work)
each_next limits shows gate number last [] [] (r ∷ reports) streams client reported cause e here named work = absurd e
each_next limits shows gate number last [] (c ∷ clients) [] streams client reported cause e here named work = absurd e
each_next limits shows gate number last [] (c ∷ clients) (r ∷ reports) streams client reported cause e here named work = absurd e
each_next limits shows gate number last (s ∷ agents) [] [] streams client reported cause e here named work = absurd e
each_next limits shows gate number last (s ∷ agents) [] (r ∷ reports) streams client reported cause e here named work = absurd e
each_next limits shows gate number last (s ∷ agents) (c ∷ clients) [] streams client reported cause e here named work = absurd e

pub all_next : (limits : WorkerLimits) (shows : Moment → Type 0) (gate : GateId) (agents : List (Option (List (List ℕ)))) (operators : Option (List (List ℕ))) (operator : ClientState) (why : Cause)
    (clients : List ClientState) (reports : List (ℕ × List Report)) (streams : Option (List (List ℕ))) (client : ClientState) (reported : ℕ × List Report) (cause : Cause)
    → AllEnded limits shows gate agents operators operator why clients reports → reported.0 ≡ client.number
    → EndsSo false limits shows streams (client_state gate (suc (length agents)) [] None) reported.1 client cause
    → AllEnded limits shows gate (agents ++ streams ∷ []) operators operator why (clients ++ client ∷ []) (reports ++ reported ∷ [])
all_next limits shows gate agents operators operator why clients reports streams client reported cause all named work = record {
  first = all.first;
  others = all.others ++ client ∷ [];
  reported = all.reported;
  others_reported = all.others_reported ++ reported ∷ [];
  clients_are = ap (λ l. l ++ client ∷ []) all.clients_are;
  reports_are = ap (λ l. l ++ reported ∷ []) all.reports_are;
  named = all.named;
  ends = all.ends;
  each = each_next limits shows gate 0 (length agents) agents all.others all.others_reported streams client reported cause all.each
      (let e : length agents ≡ 0 + length agents = omega arith in e) named work;
}

-- the end of one more worker, of the next of these agents, is collected
pub collected_one : (limits : WorkerLimits) (shows : Moment → Type 0) (gate : GateId) (others : List (Option (List (List ℕ)))) (streams : Option (List (List ℕ))) (operators : Option (List (List ℕ))) (operator : ClientState)
    (cause : Option Cause) (before middle new : Collected) (end : WorkerEnd)
    → AreCollected limits shows gate others operator operators before middle cause → Adds end middle new
    → EndsSo false limits shows streams (client_state gate (suc (length others)) [] None) end.reports.items end.ended end.cause
    → AreCollected limits shows gate (others ++ streams ∷ []) operator operators before new cause
collected_one limits shows gate others streams operators operator cause before middle new end are adds ends =
    let a : length new.ended.items ≡ length (middle.ended.items ++ end.ended ∷ []) = ap length adds.ended in
    let b : length (middle.ended.items ++ end.ended ∷ []) ≡ length middle.ended.items + 1 = length-append middle.ended.items (end.ended ∷ []) in
    let d : length (others ++ streams ∷ []) ≡ length others + 1 = length-append others (streams ∷ []) in
    let few = are.few in
    record {
      ended = IfSome_then cause are.ended (λ why whole.
          subst (λ (l : List ClientState). AllEnded limits shows gate (others ++ streams ∷ []) operators operator why l (reports_of_each new.reports.items)) (sym adds.ended)
          (subst (λ (l : List (ℕ × List Report)). AllEnded limits shows gate (others ++ streams ∷ []) operators operator why (middle.ended.items ++ end.ended ∷ []) l) (sym adds.reports)
          (all_next limits shows gate others operators operator why middle.ended.items (reports_of_each middle.reports.items) streams end.ended (end.ended.number, end.reports.items) end.cause whole refl ends)));
      few = omega arith;
      gates = subst (AreOf gate) (sym adds.ended) (All-push (λ (e : ClientState). e.gate ≡ gate) middle.ended.items end.ended are.gates ends.0);
      ended_room = adds.ended_room ∙ are.ended_room;
      reports_room = adds.reports_room ∙ are.reports_room;
    }

-- the ends of all agents' workers that were started are collected
pub collected_all : {H : Type 0} (returns : H → WorkerEnd → Type 0) (limits : WorkerLimits) (shows : Moment → Type 0) (gate : GateId) (agents : List (Option (List (List ℕ)))) (handles : List H) (left : List (Option (List (List ℕ))))
    (operators : Option (List (List ℕ))) (operator : ClientState) (cause : Option Cause) (before old new : Collected)
    → AreStarted returns limits shows gate agents handles left → JoinsAll returns handles old new
    → AreCollected limits shows gate left operator operators before old cause → AreCollected limits shows gate agents operator operators before new cause
collected_all returns limits shows gate agents [] left operators operator cause before old new started joined are =
    subst (λ (c : Collected). AreCollected limits shows gate agents operator operators before c cause) (sym joined)
    (subst (λ (l : List (Option (List (List ℕ)))). AreCollected limits shows gate l operator operators before old cause) started are)
collected_all returns limits shows gate agents (handle ∷ handles) left operators operator cause before old new started joined are =
    let others = started.0 in
    let streams = started.1 in
    let middle = joined.0 in
    let end = joined.1 in
    let rest = collected_all returns limits shows gate others handles left operators operator cause before old middle started.4 joined.2 are in
    subst (λ (l : List (Option (List (List ℕ)))). AreCollected limits shows gate l operator operators before new cause) (sym started.2)
    (collected_one limits shows gate others streams operators operator cause before middle new end rest joined.4 (started.3 end joined.3))

-- one more was started
pub started_one : {H : Type 0} (returns : H → WorkerEnd → Type 0) (limits : WorkerLimits) (shows : Moment → Type 0) (gate : GateId) (agents : List (Option (List (List ℕ)))) (handles : List H) (left others : List (Option (List (List ℕ))))
    (streams : Option (List (List ℕ))) (handle : H)
    → AreStarted returns limits shows gate agents handles left → left ≡ others ++ streams ∷ [] → ReturnsAs limits shows gate (suc (length others)) streams (returns handle)
    → AreStarted returns limits shows gate agents (handles ++ handle ∷ []) others
started_one returns limits shows gate agents [] left others streams handle started cut ends = (others, streams, sym started ∙ cut, ends, refl)
started_one returns limits shows gate agents (h ∷ handles) left others streams handle started cut ends =
    (started.0, started.1, started.2, started.3, started_one returns limits shows gate started.0 handles left others streams handle started.4 cut ends)

-- the next one was started, of endpoints that send these streams
pub started_next : {H X : Type 0} (returns : H → WorkerEnd → Type 0) (limits : WorkerLimits) (shows : Moment → Type 0) (gate : GateId) (agents : List (Option (List (List ℕ)))) (handles handles' : List H)
    (endpoints rest : List X) (one : X) (sends : X → Option (List (List ℕ))) (handle : H) (count : ℕ)
    → AreStarted returns limits shows gate agents handles (map sends endpoints) → handles' ≡ handles ++ handle ∷ [] → endpoints ≡ rest ++ one ∷ [] → count ≡ length rest
    → ReturnsAs limits shows gate (suc count) (sends one) (returns handle) → AreStarted returns limits shows gate agents handles' (map sends rest)
started_next {H} returns limits shows gate agents handles handles' endpoints rest one sends handle count started listed cut counted ends =
    subst (λ (l : List H). AreStarted returns limits shows gate agents l (map sends rest)) (sym listed)
    (started_one returns limits shows gate agents handles (map sends endpoints) (map sends rest) (sends one) handle started (ap (map sends) cut ∙ map-append sends rest (one ∷ []))
    (subst (λ (n : ℕ). ReturnsAs limits shows gate (suc n) (sends one) (returns handle)) (counted ∙ sym (length-map rest sends)) ends))

-- none was started
pub started_none : {H : Type 0} (returns : H → WorkerEnd → Type 0) (limits : WorkerLimits) (shows : Moment → Type 0) (gate : GateId) (agents : List (Option (List (List ℕ)))) (handles : List H)
    → handles ≡ [] → AreStarted returns limits shows gate agents handles agents
started_none {H} returns limits shows gate agents handles none = subst (λ (l : List H). AreStarted returns limits shows gate agents l agents) (sym none) refl

-- where there are none, none sends streams
pub no_streams : {X : Type 0} (sends : X → Option (List (List ℕ))) (endpoints : List X) → length endpoints ≡ 0 → map sends endpoints ≡ []
no_streams sends [] none = refl
no_streams sends (x ∷ endpoints) none = absurd (omega arith)

-- all that were there were joined
pub all_joined : {H : Type 0} (returns : H → WorkerEnd → Type 0) (handles left joined : List H) (old new : Collected) → length left ≡ 0 → handles ≡ left ++ joined → JoinsAll returns joined old new
    → JoinsAll returns handles old new
all_joined {H} returns handles [] joined old new none cut joins = subst (λ (l : List H). JoinsAll returns l old new) (sym cut) joins
all_joined {H} returns handles (h ∷ left) joined old new none cut joins = absurd (omega arith)

-- nothing is collected yet
pub collected_none : (limits : WorkerLimits) (shows : Moment → Type 0) (gate : GateId) (agents : List (Option (List (List ℕ)))) (operators : Option (List (List ℕ))) (operator : ClientState) (collected : Collected)
    → collected.ended.items ≡ [] → AreCollected limits shows gate agents operator operators collected collected None
collected_none limits shows gate agents operators operator collected none = record {
  ended = tt;
  few = let e : length collected.ended.items ≡ 0 = ap length none in omega arith;
  gates = subst (AreOf gate) (sym none) (λ k d less. absurd (omega arith));
  ended_room = refl;
  reports_room = refl;
}

-- the operator's end is collected, and no agents are left
pub collected_operator : (limits : WorkerLimits) (shows : Moment → Type 0) (gate : GateId) (left : List (Option (List (List ℕ)))) (operators : Option (List (List ℕ))) (operator : ClientState) (cause : Option Cause) (before after : Collected)
    → left ≡ [] → AreCollected limits shows gate [] operator operators before after cause → AreCollected limits shows gate left operator operators before after cause
collected_operator limits shows gate left operators operator cause before after none are =
    subst (λ (l : List (Option (List (List ℕ)))). AreCollected limits shows gate l operator operators before after cause) (sym none) are

-- ---- numbers

each_numbers : (limits : WorkerLimits) (shows : Moment → Type 0) (gate : GateId) (number : ℕ) (agents : List (Option (List (List ℕ)))) (clients : List ClientState) (reports : List (ℕ × List Report))
    → EachEnded limits shows gate number agents clients reports → numbers_of clients ≡ numbers_after number (length agents)
each_numbers limits shows gate number [] [] [] e = refl
each_numbers limits shows gate number (s ∷ agents) (c ∷ clients) (r ∷ reports) e =
    ap (λ n. n ∷ numbers_of clients) e.1.1.1 ∙ ap (λ l. suc number ∷ l) (each_numbers limits shows gate (suc number) agents clients reports e.2)
each_numbers limits shows gate number [] [] (r ∷ reports) e = absurd e
each_numbers limits shows gate number [] (c ∷ clients) [] e = absurd e
each_numbers limits shows gate number [] (c ∷ clients) (r ∷ reports) e = absurd e
each_numbers limits shows gate number (s ∷ agents) [] [] e = absurd e
each_numbers limits shows gate number (s ∷ agents) [] (r ∷ reports) e = absurd e
each_numbers limits shows gate number (s ∷ agents) (c ∷ clients) [] e = absurd e

pub all_numbers : (limits : WorkerLimits) (shows : Moment → Type 0) (gate : GateId) (agents : List (Option (List (List ℕ)))) (operators : Option (List (List ℕ))) (operator : ClientState) (why : Cause)
    (clients : List ClientState) (reports : List (ℕ × List Report)) → AllEnded limits shows gate agents operators operator why clients reports
    → numbers_of clients ≡ operator.number ∷ numbers_after 0 (length agents)
all_numbers limits shows gate agents operators operator why clients reports all =
    ap numbers_of all.clients_are ∙ ap (λ n. n ∷ numbers_of all.others) all.ends.1
    ∙ ap (λ l. operator.number ∷ l) (each_numbers limits shows gate 0 agents all.others all.others_reported all.each)

-- the numbers of all clients of a gate, the operators' first
pub joined_numbers : {X : Type 0} (endpoints : List X) (sends : X → Option (List (List ℕ))) (limits : WorkerLimits) (shows : Moment → Type 0) (gate : GateId) (count : ℕ) (operators : Option (List (List ℕ))) (operator : ClientState)
    (why : Cause) (clients : List ClientState) (reports : List (ℕ × List Report)) → AllEnded limits shows gate (map sends endpoints) operators operator why clients reports
    → length endpoints ≡ count → operator ≡ client_state gate (count + 1) [] None → numbers_of clients ≡ (length endpoints + 1) ∷ numbers_after 0 (length endpoints)
joined_numbers endpoints sends limits shows gate count operators operator why clients reports all each begun =
    all_numbers limits shows gate (map sends endpoints) operators operator why clients reports all
    ∙ ap (λ (n : ℕ). n ∷ numbers_after 0 (length (map sends endpoints))) (ap (λ (x : ClientState). x.number) begun ∙ ap (λ (n : ℕ). n + 1) (sym each))
    ∙ ap (λ (n : ℕ). (length endpoints + 1) ∷ numbers_after 0 n) (length-map endpoints sends)
