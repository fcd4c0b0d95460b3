-- Two pieces, one after the other, are one piece.
use Rattle.std.proofs.Common.{◌≡◌, ℕ, zero, suc, ◌+◌, ◌-◌, ◌≤◌, ◌⊎◌, List, [], ◌∷◌, ◌++◌, length, length-append, Option, Some, None, refl, inl, inr, sym, ap, ◌∙◌, subst, append_assoc, append-nil, arith}
use Rattle.std.specs.Io.KnownBytes.{Consumes, IsAtEnd}
use Rattle.gate_model.specs.declared.record.Moment.{Moment}
use Rattle.gate_streams.specs.Source.{SourceState}
use Rattle.gate_reader.specs.Report.{AreOpen, EndInClose, AreOpenBeforeLast}
use Rattle.gate_reader.specs.Session.{ClientView, Handled, Queues, queued_as, queued_among, readings_of, answers_of, SessionKind, Serves, Stops}
use Rattle.gate_reader.specs.Pieces.{counted_reads, IsPiece}
use Rattle.gate_reader.specs.Joining.{bytes_of_both, uncounted}
use Rattle.gate_reader.specs.declared.report.Answer.{Answer}
use Rattle.gate_reader.specs.declared.report.SessionLimits.{SessionLimits}
use Rattle.gate_reader.specs.declared.report.Stop.{Stop}
use Rattle.gate_reader.specs.declared.report.Stop.TheVariants.{End, Truncated, BadPacket, ReadFault, WriteFault, TooMany, OutOfMemory, Shutdown}
use Rattle.gate_reader.proofs.Serving.{KindLaws, map_append, flat_map_append, queues_append, serves_append, serves_later}

-- ---- answers

pub open_append : (xs ys : List Answer) → AreOpen xs → AreOpen ys → AreOpen (xs ++ ys)
open_append [] ys p q = q
open_append (x ∷ xs) ys (o, p) q = (o, open_append xs ys p q)

pub close_later : (xs ys : List Answer) → AreOpen xs → EndInClose ys → EndInClose (xs ++ ys)
close_later xs ys p (front, last, same, q, closed) =
    (xs ++ front, last, ap (λ l. xs ++ l) same ∙ sym (append_assoc xs front (last ∷ [])), open_append xs front p q, closed)

pub open_before_last_later : (xs ys : List Answer) → AreOpen xs → AreOpenBeforeLast ys → AreOpenBeforeLast (xs ++ ys)
open_before_last_later xs ys p (front, last, same, q) =
    (xs ++ front, last, ap (λ l. xs ++ l) same ∙ sym (append_assoc xs front (last ∷ [])), open_append xs front p q)

-- ---- bytes

consumes_both : (a b c d : Option (List ℕ)) (xs ys : List ℕ) → Consumes a b xs → IsAtEnd b → Consumes c d ys → Consumes (bytes_of_both a c) d (xs ++ ys)
consumes_both None b c d xs ys p e q = tt
consumes_both (Some l) None c d xs ys p e q = absurd p
consumes_both (Some l) (Some m) None d xs ys p e q = tt
consumes_both (Some l) (Some m) (Some n) None xs ys p e q = absurd q
consumes_both (Some l) (Some m) (Some n) (Some o) xs ys p e q =
    let all : l ≡ xs = p ∙ ap (λ z. xs ++ z) e ∙ append-nil xs in
    ap (λ z. z ++ n) all ∙ ap (λ z. xs ++ z) q ∙ sym (append_assoc xs ys o)

-- ---- the stop

-- what a kind of session has to promise of its stops at an item: what stops after the second answers stops after all
abbrev pub StopsLater : {S : Type 0} → SessionKind S → SessionKind S → List Answer → List Answer → Type 0
StopsLater {S} whole later one two = (stop : Stop) (rest : List ℕ) (answered : S) (last : List Moment) (new : S)
    → later.stops stop two rest answered last new → whole.stops stop (one ++ two) rest answered last new

-- a stop after all answers, and how many reads were made: the first piece's read at its end is not needed
pub record Joined {S : Type 0} (whole : SessionKind S) (limits left : SessionLimits) (stop : Stop) (answers : List Answer) (rest : List ℕ) (answered : S) (last : List Moment) (new : S) (failures : ℕ) (bytes : Option (List ℕ)) : Type 0 where
  pub calls : ℕ
  pub within : calls ≤ limits.reads
  pub is_left : left.reads + counted_reads stop calls ≡ limits.reads
  pub stops : Stops whole limits stop answers rest answered last new calls failures bytes

-- so many reads reach to the end, as one more would in each piece
calls_at_end : (limits between left one two : ℕ) → between + (one - 1) ≡ limits → one ≤ limits → two ≤ between → left + (two - 1) ≡ between
    → (calls : ℕ) × (calls ≤ limits) × (left + (calls - 1) ≡ limits)
calls_at_end limits between left one zero p most few q = (one, most, omega (arith, p, q))
calls_at_end limits between left one (suc two) p most few q = ((one - 1) + suc two, omega (arith, p, few), omega (arith, p, q))

calls_inside : (limits between left one two : ℕ) → between + (one - 1) ≡ limits → two ≤ between → left + two ≡ between
    → ((one - 1) + two ≤ limits) × (left + ((one - 1) + two) ≡ limits)
calls_inside limits between left one two p few q = (omega (arith, p, few), omega (arith, p, q))

join_at_item : {S : Type 0} (whole : SessionKind S) (limits left : SessionLimits) (stop : Stop) (answers : List Answer) (rest : List ℕ) (answered : S) (last : List Moment) (new : S) (failures : ℕ) (bytes : Option (List ℕ)) (calls : ℕ)
    → (calls ≤ limits.reads) × (left.reads + calls ≡ limits.reads) → counted_reads stop calls ≡ calls → Stops whole limits stop answers rest answered last new calls failures bytes
    → Joined whole limits left stop answers rest answered last new failures bytes
join_at_item whole limits left stop answers rest answered last new failures bytes calls few all stops = record {
  calls = calls;
  within = few.0;
  is_left = ap (λ n. left.reads + n) all ∙ few.1;
  stops = stops;
}

join_stops : {S : Type 0} (whole later : SessionKind S) (limits between left : SessionLimits) (stop : Stop) (xs ys : List Answer) (rest : List ℕ) (answered : S) (last : List Moment) (new : S) (failures : ℕ) (bytes : Option (List ℕ)) (one two : ℕ)
    → AreOpen xs → StopsLater whole later xs ys → (later.is_rest rest → whole.is_rest rest)
    → between.reads + (one - 1) ≡ limits.reads → one ≤ limits.reads → two ≤ between.reads → left.reads + counted_reads stop two ≡ between.reads
    → Stops later between stop ys rest answered last new two failures bytes → Joined whole limits left stop (xs ++ ys) rest answered last new failures bytes
join_stops whole later limits between left End xs ys rest answered last new failures bytes one two o later_stops is_rest p most few q s =
    let c = calls_at_end limits.reads between.reads left.reads one two p most few q in
    record { calls = c.0; within = c.1; is_left = c.2; stops = (open_append xs ys o s.0, s.1, s.2, s.3, s.4) }
join_stops whole later limits between left (Truncated n) xs ys rest answered last new failures bytes one two o later_stops is_rest p most few q s =
    let c = calls_at_end limits.reads between.reads left.reads one two p most few q in
    record { calls = c.0; within = c.1; is_left = c.2; stops = (open_append xs ys o s.0, s.1, s.2, s.3, is_rest s.4, s.5, s.6) }
join_stops whole later limits between left ReadFault xs ys rest answered last new failures bytes one two o later_stops is_rest p most few q s =
    let why : (failures ≡ 1) ⊎ ((failures ≡ 0) × ((one - 1) + two ≡ limits.reads)) = elim s.3 [
      | inl failed ↦ inl failed
      | inr used ↦ let all = used.1 in inr (used.0, omega (arith, p, all))
    ] in
    join_at_item whole limits left ReadFault (xs ++ ys) rest answered last new failures bytes ((one - 1) + two) (calls_inside limits.reads between.reads left.reads one two p few q) refl
    (open_append xs ys o s.0, s.1, is_rest s.2, why)
join_stops whole later limits between left (BadPacket f) xs ys rest answered last new failures bytes one two o later_stops is_rest p most few q s =
    join_at_item whole limits left (BadPacket f) (xs ++ ys) rest answered last new failures bytes ((one - 1) + two) (calls_inside limits.reads between.reads left.reads one two p few q) refl
    (later_stops (BadPacket f) rest answered last new s.0, s.1)
join_stops whole later limits between left WriteFault xs ys rest answered last new failures bytes one two o later_stops is_rest p most few q s =
    join_at_item whole limits left WriteFault (xs ++ ys) rest answered last new failures bytes ((one - 1) + two) (calls_inside limits.reads between.reads left.reads one two p few q) refl
    (later_stops WriteFault rest answered last new s.0, s.1)
join_stops whole later limits between left TooMany xs ys rest answered last new failures bytes one two o later_stops is_rest p most few q s =
    join_at_item whole limits left TooMany (xs ++ ys) rest answered last new failures bytes ((one - 1) + two) (calls_inside limits.reads between.reads left.reads one two p few q) refl
    (later_stops TooMany rest answered last new s.0, s.1)
join_stops whole later limits between left OutOfMemory xs ys rest answered last new failures bytes one two o later_stops is_rest p most few q s =
    join_at_item whole limits left OutOfMemory (xs ++ ys) rest answered last new failures bytes ((one - 1) + two) (calls_inside limits.reads between.reads left.reads one two p few q) refl
    (later_stops OutOfMemory rest answered last new s.0, s.1)
join_stops whole later limits between left Shutdown xs ys rest answered last new failures bytes one two o later_stops is_rest p most few q s =
    join_at_item whole limits left Shutdown (xs ++ ys) rest answered last new failures bytes ((one - 1) + two) (calls_inside limits.reads between.reads left.reads one two p few q) refl
    (later_stops Shutdown rest answered last new s.0, s.1)

-- ---- readings

took_both : (xs ys : List Handled) (readings more last later : List Moment) → readings ≡ readings_of xs ++ last → last ≡ [] → more ≡ readings_of ys ++ later
    → readings ++ more ≡ readings_of (xs ++ ys) ++ later
took_both xs ys readings more last later p none q =
    let alone : readings ≡ readings_of xs = p ∙ ap (λ l. readings_of xs ++ l) none ∙ append-nil (readings_of xs) in
    ap (λ l. l ++ more) alone ∙ ap (λ l. readings_of xs ++ l) q ∙ sym (append_assoc (readings_of xs) (readings_of ys) later)
    ∙ ap (λ l. l ++ later) (sym (flat_map_append (λ x. x.readings) xs ys))

-- ---- pieces

-- the kinds of both pieces differ in their stops at an item alone
abbrev pub kind_of : {S : Type 0} → (List ℕ → List (List ℕ) → List ℕ → Type 0) → (List ℕ → Type 0) → (S → Handled → S → Type 0) → (Stop → List Answer → List ℕ → S → List Moment → S → Type 0) → SessionKind S
kind_of cuts is_rest handles stops = record { cuts = cuts; is_rest = is_rest; handles = handles; stops = stops }

pub pieces_join : {S : Type 0} (view : ClientView S) (cuts : List ℕ → List (List ℕ) → List ℕ → Type 0) (is_rest : List ℕ → Type 0) (handles : S → Handled → S → Type 0) (whole_stops later_stops : Stop → List Answer → List ℕ → S → List Moment → S → Type 0)
    (limits between left : SessionLimits) (old middle new : S) (readings more : List Moment) (first_before first_after second_before second_after : SourceState) (one two : List Answer) (stop : Stop)
    → KindLaws view (kind_of cuts is_rest handles whole_stops)
    → (AreOpen one → between.items + length one ≡ limits.items → StopsLater (kind_of cuts is_rest handles whole_stops) (kind_of cuts is_rest handles later_stops) one two)
    → IsPiece view (kind_of cuts is_rest handles whole_stops) limits old readings middle first_before first_after one End between
    → IsPiece view (kind_of cuts is_rest handles later_stops) between middle more new second_before second_after two stop left
    → IsPiece view (kind_of cuts is_rest handles whole_stops) limits old (readings ++ more) new (uncounted (bytes_of_both first_before.left second_before.left)) (uncounted second_after.left) (one ++ two) stop left
pieces_join view cuts is_rest handles whole_stops later_stops limits between left old middle new readings more first_before first_after second_before second_after one two stop laws stops_later first second =
    let whole = kind_of cuts is_rest handles whole_stops in
    let later = kind_of cuts is_rest handles later_stops in
    let p = first.session in
    let q = second.session in
    let end = p.stops in
    let all_open : AreOpen one = end.0 in
    let stays = end.1 in
    let less = first.is_left in
    let last_left = second.is_left in
    let joined : Joined whole limits left stop (one ++ two) q.rest q.answered q.last new q.failures second_after.left =
    join_stops whole later limits between left stop one two q.rest q.answered q.last new q.failures second_after.left p.calls q.calls all_open
    (stops_later all_open less.items) (λ rest. rest) less.reads p.within_reads q.within_reads last_left.reads q.stops in
    let here : Serves view whole old middle p.items (p.input ++ q.input) q.input =
    subst (λ s. Serves view whole old s p.items (p.input ++ q.input) q.input) (sym stays.0)
    (subst (λ l. Serves view whole old p.answered p.items (p.input ++ q.input) (l ++ q.input)) end.2 (serves_later view whole laws old p.answered p.items p.input p.rest q.input p.serves)) in
    let there : Serves view whole middle q.answered q.items q.input q.rest = record { cut = q.serves.cut; leads = q.serves.leads; queued = q.serves.queued } in
    record {
      session = record {
        input = p.input ++ q.input;
        rest = q.rest;
        items = p.items ++ q.items;
        answered = q.answered;
        last = q.last;
        calls = joined.calls;
        failures = q.failures;
        serves = serves_append view whole laws old middle q.answered p.items q.items (p.input ++ q.input) q.input q.rest here there;
        took = took_both p.items q.items readings more p.last q.last p.took stays.1 q.took;
        listed = ap (λ l. l ++ two) p.listed ∙ ap (λ l. answers_of p.items ++ l) q.listed ∙ sym (map_append (λ x. x.answer) p.items q.items);
        queued = subst (λ l. Queues view old l new) (sym (flat_map_append (λ x. queued_as view.number x.body x.answer) p.items q.items))
            (queues_append view old middle new (queued_among view.number p.items) (queued_among view.number q.items) p.queued q.queued);
        read = consumes_both first_before.left first_after.left second_before.left second_after.left p.input q.input p.read end.3 q.read;
        counted = tt;
        within_reads = joined.within;
        within_items = let items = less.items in let few = q.within_items in omega (arith, length-append one two, items, few);
        stops = joined.stops;
      };
      is_left = record {
        items = let items = less.items in let rest = last_left.items in omega (arith, length-append one two, items, rest);
        reads = joined.is_left;
      };
    }
