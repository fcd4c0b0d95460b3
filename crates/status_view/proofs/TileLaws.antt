-- The number of a tile is the length of what its link selects: each object has one rank, from 0 to 10, so a selection has
-- each object that its choice takes once; and a state is one of hosts or one of services.
use Rattle.std.proofs.Common.{◌≡◌, ℕ, ◌+◌, ◌≤◌, ◌⊎◌, inl, inr, zero, suc, Bool, true, false, ◌&&◌, ◌==◌, not, cond, if◌then◌else◌, nat_lt, List, [], ◌∷◌, length, filter, count_by, Option, Some, None, refl, ap, sym, ◌∙◌, arith, rules}
use Rattle.std.specs.List.{All, flat_map, slice_index_or}
use Rattle.std.proofs.lemmas.Bool.{lt-ltb, ne_eqb}
use Rattle.std.proofs.lemmas.List.{length-append}
use Rattle.std.proofs.lemmas.List.Elements.{All-from_recursion, All-head, All-tail, All-filter}
use Rattle.std.proofs.lemmas.List.Sums.{sum_by-cons}
use Rattle.std.proofs.lemmas.List.Recursion.{is_count_by}
use Rattle.std.proofs.Math.Bool.{and-true}
use Rattle.gate_model.specs.declared.state.State.{State}
use Rattle.gate_model.specs.declared.state.State.TheVariants.{Pending, Ok, Warning, Critical, Unknown, Up, Down, Unreachable}
use Rattle.gate_model.specs.declared.object.Kind.TheVariants.{Host, Service}
use Rattle.gate_model.specs.State.{number_of_state, is_problem, is_same_state}
use Rattle.gate_model.specs.Table.{object_kind}
use Rattle.status_reading.specs.RowFaults.{service_name, is_state_of}
use Rattle.status_merge.specs.declared.gateway.MergedObject.{MergedObject}
use Rattle.status_merge.specs.declared.query.Choice.{Choice}
use Rattle.status_merge.specs.declared.query.Choice.TheVariants as choice
use Rattle.status_merge.specs.Objects.{HasOwnState}
use Rattle.status_merge.specs.Asking.{Asked, asked_by, with_choice}
use Rattle.status_merge.specs.Ranks.{is_unhandled, severity, rank, is_host_in, is_service_in}
use Rattle.status_merge.specs.Selecting.{has_choice, is_filtered, is_selected, filtered, selected}
use Rattle.status_view.specs.declared.view.View.{View}
use Rattle.status_view.specs.Shapes.{page_shape}
use Rattle.status_view.specs.SummaryLayout.{all_tiles, host_tiles, service_tiles, tiles_of, CountsSelected}

-- ---- each object has one rank

low : (a b c d : Bool) (n : ℕ) → n ≤ 3 → cond a n (cond b (n + 5) (cond c 4 (cond d 9 10))) ≤ 10
low true b c d n at = omega (arith, at)
low false true c d n at = omega (arith, at)
low false false true d n at = omega arith
low false false false true n at = omega arith
low false false false false n at = omega arith

severity_low : (state : State) → severity state ≤ 3
severity_low Down = omega arith
severity_low Critical = omega arith
severity_low Unreachable = omega arith
severity_low Unknown = omega arith
severity_low Warning = omega arith
severity_low Pending = omega arith
severity_low Ok = omega arith
severity_low Up = omega arith

rank_low : (object : MergedObject) → rank object ≤ 10
rank_low object =
    low (is_unhandled object) (is_problem object.row.state) object.row.stale (is_same_state object.row.state Pending)
    (severity object.row.state) (severity_low object.row.state)

abbrev ranks : List ℕ
ranks = 0 ∷ 1 ∷ 2 ∷ 3 ∷ 4 ∷ 5 ∷ 6 ∷ 7 ∷ 8 ∷ 9 ∷ 10 ∷ []

single : (taken : Bool) (n : ℕ) → length (cond taken (n ∷ []) []) ≡ cond taken 1 0
single true n = refl
single false n = refl

-- of the ranks one is that of an object
once : (n : ℕ) (taken : Bool) → n ≤ 10 → length (filter (λ urgency. (n == urgency) && taken) ranks) ≡ cond taken 1 0
once zero taken at = single taken 0
once (suc zero) taken at = single taken 1
once (suc (suc zero)) taken at = single taken 2
once (suc (suc (suc zero))) taken at = single taken 3
once (suc (suc (suc (suc zero)))) taken at = single taken 4
once (suc (suc (suc (suc (suc zero))))) taken at = single taken 5
once (suc (suc (suc (suc (suc (suc zero)))))) taken at = single taken 6
once (suc (suc (suc (suc (suc (suc (suc zero))))))) taken at = single taken 7
once (suc (suc (suc (suc (suc (suc (suc (suc zero)))))))) taken at = single taken 8
once (suc (suc (suc (suc (suc (suc (suc (suc (suc zero))))))))) taken at = single taken 9
once (suc (suc (suc (suc (suc (suc (suc (suc (suc (suc zero)))))))))) taken at = single taken 10
once (suc (suc (suc (suc (suc (suc (suc (suc (suc (suc (suc n))))))))))) taken at = absurd (omega (arith, at))

one_more : {X : Type 0} (taken : Bool) (one : X) (rest : List X)
    → length (cond taken (one ∷ rest) rest) ≡ cond taken 1 0 + length rest
one_more true one rest = omega arith
one_more false one rest = omega arith

-- what an object adds to lists that are filtered by one test each
more : {X : Type 0} (test : X → ℕ → Bool) (one : X) (objects : List X) (ranks : List ℕ)
    → length (flat_map (λ urgency. filter (λ object. test object urgency) (one ∷ objects)) ranks)
    ≡ length (filter (test one) ranks) + length (flat_map (λ urgency. filter (λ object. test object urgency) objects) ranks)
more test one objects [] = refl
more test one objects (urgency ∷ ranks) =
    let old = filter (λ object. test object urgency) objects in
    let here = one_more (test one urgency) one old in
    let there = one_more (test one urgency) urgency (filter (test one) ranks) in
    let first = length-append (cond (test one urgency) (one ∷ old) old)
    (flat_map (λ urgency. filter (λ object. test object urgency) (one ∷ objects)) ranks) in
    let second = length-append old (flat_map (λ urgency. filter (λ object. test object urgency) objects) ranks) in
    omega (arith, here, there, first, second, more test one objects ranks)

step : (taken : Bool) (n : ℕ) → cond taken 1 0 + n ≡ cond taken (1 + n) n
step true n = refl
step false n = omega arith

selected_count : (asked : Asked) (objects : List MergedObject)
    → length (selected asked objects) ≡ count_by (is_selected asked) objects
selected_count asked objects =
    is_count_by (λ (objects : List MergedObject). length (selected asked objects)) (is_selected asked) refl
    (λ one rest.
    let test : MergedObject → ℕ → Bool = λ object urgency. (rank object == urgency) && is_selected asked object in
    more test one rest ranks
    ∙ ap (λ n. n + length (selected asked rest)) (once (rank one) (is_selected asked one) (rank_low one))
    ∙ step (is_selected asked one) (length (selected asked rest)))
    objects

-- ---- counts

same_count : {X : Type 0} (one other : X → Bool) (objects : List X) → All (λ object. one object ≡ other object) objects
    → count_by one objects ≡ count_by other objects
same_count one other [] same = refl
same_count one other (object ∷ objects) same =
    sum_by-cons (λ object. cond (one object) 1 0) object objects
    ∙ ap (λ taken. cond taken 1 0 + count_by one objects) (All-head (λ object. one object ≡ other object) object objects same)
    ∙ ap (λ n. cond (other object) 1 0 + n) (same_count one other objects (All-tail (λ object. one object ≡ other object) object objects same))
    ∙ sym (sum_by-cons (λ object. cond (other object) 1 0) object objects)

everything : {X : Type 0} (objects : List X) → length objects ≡ count_by (λ object. true) objects
everything [] = refl
everything {X} (object ∷ objects) =
    let more : count_by (λ (object : X). true) (object ∷ objects) ≡ 1 + count_by (λ (object : X). true) objects =
    sum_by-cons (λ (object : X). 1) object objects in
    omega (arith, more, everything objects)

one_of : (taken kept : Bool) (n m : ℕ) → n ≡ m → cond (taken && kept) 1 0 + m ≡ cond kept (cond taken 1 0 + n) n
one_of true true n m same = ap (λ k. 1 + k) (sym same)
one_of true false n m same = omega (arith, same)
one_of false true n m same = omega (arith, same)
one_of false false n m same = omega (arith, same)

kept_first : {X : Type 0} (taken : X → Bool) (kept : Bool) (object : X) (rest : List X)
    → count_by taken (if kept then object ∷ rest else rest) ≡ cond kept (cond (taken object) 1 0 + count_by taken rest) (count_by taken rest)
kept_first taken true object rest = sum_by-cons (λ object. cond (taken object) 1 0) object rest
kept_first taken false object rest = refl

-- how many of those that one test leaves another takes
count_kept : {X : Type 0} (taken kept : X → Bool) (objects : List X)
    → count_by taken (filter kept objects) ≡ count_by (λ object. taken object && kept object) objects
count_kept taken kept [] = refl
count_kept taken kept (object ∷ objects) =
    kept_first taken (kept object) object (filter kept objects)
    ∙ sym (one_of (taken object) (kept object) (count_by taken (filter kept objects)) (count_by (λ object. taken object && kept object) objects) (count_kept taken kept objects))
    ∙ sym (sum_by-cons (λ object. cond (taken object && kept object) 1 0) object objects)

chosen : (asked : Asked) (choice : Choice) (objects : List MergedObject)
    → count_by (λ object. has_choice choice object) (filtered asked objects)
    ≡ length (selected (with_choice choice asked) objects)
chosen asked choice objects =
    count_kept (λ object. has_choice choice object) (is_filtered asked) objects
    ∙ sym (selected_count (with_choice choice asked) objects)

-- ---- states of hosts and of services

service_low : (last : Option ℕ) (state : State) → is_state_of last Service state ≡ true → number_of_state state ≤ 4
service_low last Pending is = omega arith
service_low last Ok is = omega arith
service_low last Warning is = omega arith
service_low last Critical is = omega arith
service_low last Unknown is = omega arith
service_low None Up is = absurd cc
service_low (Some last) Up is = absurd cc
service_low None Down is = absurd cc
service_low (Some last) Down is = absurd cc
service_low None Unreachable is = absurd cc
service_low (Some last) Unreachable is = absurd cc

host_high : (last : Option ℕ) (state : State) → is_state_of last Host state ≡ true
    → (number_of_state state ≡ 0) ⊎ (5 ≤ number_of_state state)
host_high last Pending is = inl refl
host_high last Up is = inr (omega arith)
host_high last Down is = inr (omega arith)
host_high last Unreachable is = inr (omega arith)
host_high None Ok is = absurd cc
host_high (Some last) Ok is = absurd cc
host_high None Warning is = absurd cc
host_high (Some last) Warning is = absurd cc
host_high None Critical is = absurd cc
host_high (Some last) Critical is = absurd cc
host_high None Unknown is = absurd cc
host_high (Some last) Unknown is = absurd cc

host_tile : (last : Option ℕ) (state : State) (service : List ℕ) (wanted : ℕ) → 5 ≤ wanted
    → is_state_of last (object_kind (service_name service)) state ≡ true
    → ((number_of_state state == wanted) && (length service == 0)) ≡ (number_of_state state == wanted)
host_tile last state [] wanted high is = and-true (number_of_state state == wanted)
host_tile last state (byte ∷ rest) wanted high is =
    let low = service_low last state is in
    rw (ne_eqb (number_of_state state) wanted (λ same. omega (arith, low, high, same))) refl

service_tile : (last : Option ℕ) (state : State) (service : List ℕ) (wanted : ℕ) → 1 ≤ wanted → wanted ≤ 4
    → is_state_of last (object_kind (service_name service)) state ≡ true
    → ((number_of_state state == wanted) && not (length service == 0)) ≡ (number_of_state state == wanted)
service_tile last state [] wanted above below is =
    rw (ne_eqb (number_of_state state) wanted (λ same. elim (host_high last state is) [
      | inl none ↦ omega (arith, none, above, same)
      | inr high ↦ omega (arith, high, below, same)
    ])) refl
service_tile last state (byte ∷ rest) wanted above below is =
    rw (ne_eqb (length (byte ∷ rest)) 0 (λ same. omega (arith, same))) (and-true (number_of_state state == wanted))

-- ---- the tiles

hosts_chosen : (asked : Asked) (state : State) (objects : List MergedObject) → 5 ≤ number_of_state state
    → All HasOwnState (filtered asked objects)
    → count_by (is_host_in state) (filtered asked objects) ≡ length (selected (with_choice (choice.In state) asked) objects)
hosts_chosen asked state objects high own =
    same_count (is_host_in state) (λ object. has_choice (choice.In state) object) (filtered asked objects)
    (λ k other inside.
    let object = slice_index_or (filtered asked objects) k other in
    host_tile object.row.last object.row.state object.row.service.now (number_of_state state) high (own k other inside))
    ∙ chosen asked (choice.In state) objects

services_chosen : (asked : Asked) (state : State) (objects : List MergedObject) → 1 ≤ number_of_state state
    → number_of_state state ≤ 4
    → All HasOwnState (filtered asked objects)
    → count_by (is_service_in state) (filtered asked objects)
    ≡ length (selected (with_choice (choice.In state) asked) objects)
services_chosen asked state objects above below own =
    same_count (is_service_in state) (λ object. has_choice (choice.In state) object) (filtered asked objects)
    (λ k other inside.
    let object = slice_index_or (filtered asked objects) k other in
    service_tile object.row.last object.row.state object.row.service.now (number_of_state state) above below (own k other inside))
    ∙ chosen asked (choice.In state) objects

pub tiles_count : (view : View) → All HasOwnState view.all.now
    → All (CountsSelected (asked_by view.query.now) view.all.now) (tiles_of (page_shape view))
unfolding all_tiles host_tiles service_tiles
tiles_count view all =
    let asked = asked_by view.query.now in
    let objects = view.all.now in
    let own = All-filter (is_filtered asked) HasOwnState objects all in
    All-from_recursion (CountsSelected asked objects) (tiles_of (page_shape view)) (
      chosen asked choice.Unhandled objects,
      (
        chosen asked choice.Stale objects,
        (
          chosen asked (choice.In Pending) objects,
          (
            everything (filtered asked objects) ∙ chosen asked choice.All objects,
            (
              hosts_chosen asked Down objects (omega arith) own,
              (
                hosts_chosen asked Unreachable objects (omega arith) own,
                (
                  hosts_chosen asked Up objects (omega arith) own,
                  (
                    services_chosen asked Critical objects (omega arith) (omega arith) own,
                    (
                      services_chosen asked Warning objects (omega arith) (omega arith) own,
                      (
                        services_chosen asked Unknown objects (omega arith) (omega arith) own,
                        (
                          services_chosen asked Ok objects (omega arith) (omega arith) own,
                          tt,
                        ),
                      ),
                    ),
                  ),
                ),
              ),
            ),
          ),
        ),
      ),
    )
