-- The least of the times that are left, as far as the peers were looked at.
use Rattle.std.proofs.Common.{◌≡◌, ℕ, ◌+◌, ◌-◌, ◌≤◌, zero, suc, min, Bool, List, [], ◌∷◌, ◌++◌, ◌↔◌, ◌⊎◌, inl, inr, length, take, Option, Some, None, refl, sym, ap, arith, ◌∙◌, subst}
use Rattle.std.specs.Prelude.{Any, Contains, filter_map, slice_get, IsNone, IfSome, IsSomeAnd, unwrap_or}
use Rattle.std.specs.List.{cons_option}
use Rattle.std.specs.Option.{option_map}
use Rattle.std.proofs.lemmas.List.{append-nil, take_all}
use Rattle.std.proofs.lemmas.List.Elements.{filter_map-append, All-nil, All-cons, All-push, All-weaker, All-contains, Contains-append_left, Contains-push}
use Rattle.gate_turns.specs.declared.standing.Standing.{Standing}
use Rattle.gate_turns.specs.Standing.{standings}
use Rattle.gate_turns.specs.Waiting.{limit_of, IsLate, time_left_of, times_left, IsLeast}
use Rattle.gate_turns.proofs.FirstSteps.{take_next}

-- ---- one more time

-- this number is the least of these, or there are none
abbrev pub LeastSoFar : List ℕ → Option ℕ → Type 0
LeastSoFar times None = times ≡ []
LeastSoFar times (Some least) = IsLeast times least

is_least-push : (times : List ℕ) (time least : ℕ) → IsLeast times least → IsLeast (times ++ time ∷ []) (min time least)
is_least-push times time least so_far = record {
  among = by_order (min_cases time least);
  least = All-push (λ other. min time least ≤ other) times time
      (All-weaker (λ other. least ≤ other) (λ other. min time least ≤ other) (λ other l. omega arith) times so_far.least)
      (omega arith);
}
  where
    min_cases : (a b : ℕ) → (min a b ≡ a) ⊎ (min a b ≡ b)
    min_cases a b = grind arith

    by_order : (min time least ≡ time) ⊎ (min time least ≡ least) → Contains (times ++ time ∷ []) (min time least)
    by_order (inl e) = rw e (Contains-push times time)
    by_order (inr e) = rw e (Contains-append_left times (time ∷ []) least so_far.among)

pub least_next : (times : List ℕ) (time : ℕ) (least : Option ℕ) → LeastSoFar times least
    → LeastSoFar (times ++ time ∷ []) (Some (min time (unwrap_or least time)))
least_next times time None none = rw none (record {
  among = (0, omega arith, grind arith);
  least = All-cons (λ other. min time time ≤ other) time [] (omega arith) (All-nil (λ other. min time time ≤ other));
})
least_next times time (Some least) so_far = is_least-push times time least so_far

-- ---- the steps of the loop

times_left-push : (now silence : ℕ) (ending : Bool) (peers : List (Option Standing)) (peer : Option Standing)
    → times_left now silence ending (peers ++ peer ∷ [])
    ≡ times_left now silence ending peers ++ times_left now silence ending (peer ∷ [])
times_left-push now silence ending peers peer =
    ap (filter_map (time_left_of now silence ending)) (filter_map-append (λ (each : Option Standing). each) peers (peer ∷ []))
    ∙ filter_map-append (time_left_of now silence ending) (standings peers) (standings (peer ∷ []))

pub times_left-take : (now silence : ℕ) (ending : Bool) (peers : List (Option Standing)) (place : ℕ) (peer : Option Standing)
    → slice_get peers place ≡ Some peer
    → times_left now silence ending (take (place + 1) peers)
    ≡ times_left now silence ending (take place peers) ++ times_left now silence ending (peer ∷ [])
times_left-take now silence ending peers place peer stands =
    ap (times_left now silence ending) (take_next peers place peer stands)
    ∙ times_left-push now silence ending (take place peers) peer

-- one that owes something
pub step_owing : (now silence : ℕ) (ending : Bool) (peers : List (Option Standing)) (place : ℕ) (standing : Standing) (time : ℕ)
    (least : Option ℕ) → slice_get peers place ≡ Some (Some standing) → Some time ≡ time_left_of now silence ending standing
    → LeastSoFar (times_left now silence ending (take place peers)) least
    → LeastSoFar (times_left now silence ending (take (place + 1) peers)) (Some (min time (unwrap_or least time)))
step_owing now silence ending peers place standing time least stands left so_far =
    let earlier = times_left now silence ending (take place peers) in
    subst (λ (times : List ℕ). LeastSoFar times (Some (min time (unwrap_or least time))))
    (ap (λ o. earlier ++ cons_option o []) left ∙ sym (times_left-take now silence ending peers place (Some standing) stands))
    (least_next earlier time least so_far)

-- one that owes nothing
pub step_owing_nothing : (now silence : ℕ) (ending : Bool) (peers : List (Option Standing)) (place : ℕ) (standing : Standing)
    (least : Option ℕ) → slice_get peers place ≡ Some (Some standing) → None ≡ time_left_of now silence ending standing
    → LeastSoFar (times_left now silence ending (take place peers)) least
    → LeastSoFar (times_left now silence ending (take (place + 1) peers)) least
step_owing_nothing now silence ending peers place standing least stands left so_far =
    let earlier = times_left now silence ending (take place peers) in
    subst (λ (times : List ℕ). LeastSoFar times least)
    (sym (append-nil earlier) ∙ ap (λ o. earlier ++ cons_option o []) left
    ∙ sym (times_left-take now silence ending peers place (Some standing) stands)) so_far

-- no peer is there
pub step_nobody : (now silence : ℕ) (ending : Bool) (peers : List (Option Standing)) (place : ℕ) (least : Option ℕ)
    → slice_get peers place ≡ Some None → LeastSoFar (times_left now silence ending (take place peers)) least
    → LeastSoFar (times_left now silence ending (take (place + 1) peers)) least
step_nobody now silence ending peers place least stands so_far =
    let earlier = times_left now silence ending (take place peers) in
    subst (λ (times : List ℕ). LeastSoFar times least)
    (sym (append-nil earlier) ∙ sym (times_left-take now silence ending peers place None stands)) so_far

-- ---- after the loop

pub least_at_end : (now silence : ℕ) (ending : Bool) (peers : List (Option Standing)) (place : ℕ) (least : Option ℕ)
    → length peers ≤ place → LeastSoFar (times_left now silence ending (take place peers)) least
    → LeastSoFar (times_left now silence ending peers) least
least_at_end now silence ending peers place least past so_far =
    subst (λ (ys : List (Option Standing)). LeastSoFar (times_left now silence ending ys) least)
    (take_all place peers past) so_far

pub least_none : (times : List ℕ) (least : Option ℕ) → LeastSoFar times least → IsNone least ↔ (times ≡ [])
least_none times None none = (λ _. none, λ _. refl)
least_none times (Some least) so_far = (λ e. cc, λ e. absurd (omega (arith, ap length e, so_far.among.1)))

pub least_some : (times : List ℕ) (least : Option ℕ) → LeastSoFar times least → IfSome least (IsLeast times)
least_some times None none = tt
least_some times (Some least) so_far = so_far

-- ---- who is late

any_later : {P : Standing → Type 0} (x : Standing) (xs : List Standing) → Any P xs → Any P (x ∷ xs)
any_later x xs found = (suc found.0, found.1, omega (arith, found.2), found.3, found.4)

contains_later : (y : ℕ) (ys : List ℕ) (z : ℕ) → Contains ys z → Contains (y ∷ ys) z
contains_later y ys z found = (suc found.0, omega (arith, found.1), found.2)

any_head : (h : Standing → Option ℕ) (x : Standing) (xs : List Standing) (y : ℕ) (o : Option ℕ) → h x ≡ o
    → Contains (cons_option o (filter_map h xs)) y → (Contains (filter_map h xs) y → Any (λ z. h z ≡ Some y) xs)
    → Any (λ z. h z ≡ Some y) (x ∷ xs)
any_head h x xs y None e found rest = any_later x xs (rest found)
any_head h x xs y (Some z) e (zero, within, is) rest = (0, x, omega arith, refl, e ∙ ap Some is)
any_head h x xs y (Some z) e (suc k, within, is) rest = any_later x xs (rest (k, omega arith, is))

any-from_contains : (h : Standing → Option ℕ) (xs : List Standing) (y : ℕ) → Contains (filter_map h xs) y
    → Any (λ x. h x ≡ Some y) xs
any-from_contains h [] y found = absurd (omega (arith, found.1))
any-from_contains h (x ∷ xs) y found = any_head h x xs y (h x) refl found (any-from_contains h xs y)

contains_after : (o : Option ℕ) (ys : List ℕ) (y : ℕ) → Contains ys y → Contains (cons_option o ys) y
contains_after None ys y found = found
contains_after (Some w) ys y found = contains_later w ys y found

contains-from_any : (h : Standing → Option ℕ) (xs : List Standing) (y : ℕ) → Any (λ x. h x ≡ Some y) xs
    → Contains (filter_map h xs) y
contains-from_any h [] y found = absurd (omega (arith, found.2))
contains-from_any h (x ∷ xs) y (zero, z, within, is, e) =
    subst (λ (o : Option ℕ). Contains (cons_option o (filter_map h xs)) y) (sym (ap h is ∙ e)) (0, omega arith, refl)
contains-from_any h (x ∷ xs) y (suc k, z, within, is, e) =
    contains_after (h x) (filter_map h xs) y (contains-from_any h xs y (k, z, omega arith, is, e))

-- no time is left exactly when it is late
late-from_none_left : (owed : ℕ) (limit : Option ℕ) → option_map (λ some. some - owed) limit ≡ Some 0
    → IsSomeAnd limit (λ some. some ≤ owed)
late-from_none_left owed None e = cc
late-from_none_left owed (Some limit) e = let none : limit - owed ≡ 0 = cc in omega arith

none_left-from_late : (owed : ℕ) (limit : Option ℕ) → IsSomeAnd limit (λ some. some ≤ owed)
    → option_map (λ some. some - owed) limit ≡ Some 0
none_left-from_late owed None late = absurd late
none_left-from_late owed (Some limit) late = let none : limit - owed ≡ 0 = omega arith in ap Some none

any_weaker : (P Q : Standing → Type 0) → ((x : Standing) → P x → Q x) → (xs : List Standing) → Any P xs → Any Q xs
any_weaker P Q weaker xs found = (found.0, found.1, found.2, found.3, weaker found.1 found.4)

late-from_least : (now silence : ℕ) (ending : Bool) (peers : List (Option Standing)) (least : Option ℕ)
    → LeastSoFar (times_left now silence ending peers) least → least ≡ Some 0 → Any (IsLate now silence ending) (standings peers)
late-from_least now silence ending peers None so_far e = cc
late-from_least now silence ending peers (Some time) so_far e =
    let is_zero : time ≡ 0 = cc in
    any_weaker (λ x. time_left_of now silence ending x ≡ Some 0) (IsLate now silence ending)
    (λ x left. late-from_none_left (now - x.since) (limit_of silence ending x) left) (standings peers)
    (any-from_contains (time_left_of now silence ending) (standings peers) 0
    (subst (λ (n : ℕ). Contains (times_left now silence ending peers) n) is_zero so_far.among))

least-from_contains : (times : List ℕ) (least : Option ℕ) → LeastSoFar times least → Contains times 0 → least ≡ Some 0
least-from_contains times None none zero_left = absurd (omega (arith, ap length none, zero_left.1))
least-from_contains times (Some time) so_far zero_left =
    let low : time ≤ 0 = All-contains (λ other. time ≤ other) times 0 so_far.least zero_left in
    let is_zero : time ≡ 0 = omega arith in
    ap Some is_zero

pub least_late : (now silence : ℕ) (ending : Bool) (peers : List (Option Standing)) (least : Option ℕ)
    → LeastSoFar (times_left now silence ending peers) least
    → (least ≡ Some 0) ↔ Any (IsLate now silence ending) (standings peers)
least_late now silence ending peers least so_far = (
  late-from_least now silence ending peers least so_far,
  λ late. least-from_contains (times_left now silence ending peers) least so_far
      (contains-from_any (time_left_of now silence ending) (standings peers) 0
      (any_weaker (IsLate now silence ending) (λ x. time_left_of now silence ending x ≡ Some 0)
      (λ x is_late. none_left-from_late (now - x.since) (limit_of silence ending x) is_late) (standings peers) late)),
)
