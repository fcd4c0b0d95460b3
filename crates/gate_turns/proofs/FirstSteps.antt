-- The first of its kind, as far as the peers were looked at.
use Rattle.std.proofs.Common.{◌≡◌, ℕ, ◌+◌, ◌<◌, ◌≤◌, Bool, true, false, List, [], ◌∷◌, ◌++◌, zero, suc, ◌↔◌, length, take, Option, Some, None, cond, refl, ap, arith, ◌∙◌, subst, ◌≢◌}
use Rattle.std.specs.Prelude.{All, filter, slice_get, slice_set, IfSome, IsNone}
use Rattle.std.proofs.lemmas.Bool.Decides.{nat_tests}
use Rattle.std.proofs.lemmas.List.{append-nil, take-append-le, take_at, take_more, take_all, length-take-le, length-set}
use Rattle.std.proofs.lemmas.Option.{none-some, slice_get_within, get_or_from_slice_get}
use Rattle.std.proofs.lemmas.List.Elements.{filter_map-append, filter-append, All-nil, All-same, All-push, All-weaker}
use Rattle.gate_turns.specs.declared.standing.Standing.{Standing}
use Rattle.gate_turns.specs.Standing.{standings, others}
use Rattle.gate_turns.specs.Turns.{those, IsFirst, was_ready_before, owes_longer, gives_way_before}
use Rattle.gate_turns.specs.Pages.{is_behind}
use Rattle.gate_turns.specs.inner.Firsts.{next_first, comes_first, place_of}

-- ---- one more peer

pub those-push_none : (kind : Standing → Bool) (peers : List (Option Standing))
    → those kind (peers ++ None ∷ []) ≡ those kind peers
those-push_none kind peers =
    ap (filter kind) (filter_map-append (λ (peer : Option Standing). peer) peers (None ∷ []) ∙ append-nil (standings peers))

pub those-push_some : (kind : Standing → Bool) (peers : List (Option Standing)) (peer : Standing)
    → those kind (peers ++ Some peer ∷ []) ≡ those kind peers ++ cond (kind peer) (peer ∷ []) []
those-push_some kind peers peer =
    ap (filter kind) (filter_map-append (λ (peer : Option Standing). peer) peers (Some peer ∷ []))
    ∙ filter-append kind (standings peers) (peer ∷ [])

pub those-push_yes : (kind : Standing → Bool) (peers : List (Option Standing)) (peer : Standing) → kind peer ≡ true
    → those kind (peers ++ Some peer ∷ []) ≡ those kind peers ++ peer ∷ []
those-push_yes kind peers peer is_one =
    those-push_some kind peers peer ∙ ap (λ b. those kind peers ++ cond b (peer ∷ []) []) is_one

pub those-push_no : (kind : Standing → Bool) (peers : List (Option Standing)) (peer : Standing) → kind peer ≡ false
    → those kind (peers ++ Some peer ∷ []) ≡ those kind peers
those-push_no kind peers peer is_not =
    those-push_some kind peers peer ∙ ap (λ b. those kind peers ++ cond b (peer ∷ []) []) is_not ∙ append-nil (those kind peers)

slice_get-push : {X : Type 0} (xs ys : List X) (n : ℕ) (x : X) → slice_get xs n ≡ Some x → slice_get (xs ++ ys) n ≡ Some x
slice_get-push [] ys n x stands = absurd (none-some x stands)
slice_get-push (y ∷ xs) ys zero x stands = stands
slice_get-push (y ∷ xs) ys (suc n) x stands = slice_get-push xs ys n x stands

slice_get-last : {X : Type 0} (xs : List X) (x : X) → slice_get (xs ++ x ∷ []) (length xs) ≡ Some x
slice_get-last [] x = refl
slice_get-last (y ∷ xs) x = slice_get-last xs x

pub take_next : {X : Type 0} (xs : List X) (n : ℕ) (x : X) → slice_get xs n ≡ Some x → take (n + 1) xs ≡ take n xs ++ x ∷ []
take_next xs n x stands =
    take_more xs n x (slice_get_within xs n x stands) ∙ ap (λ y. take n xs ++ y ∷ []) (get_or_from_slice_get xs n x x stands)

-- ---- the first so far

-- the peer at this place is the first of its kind
pub record StandsFirst (kind : Standing → Bool) (before : Standing → Standing → Bool) (peers : List (Option Standing)) (place : ℕ)
    (peer : Standing) : Type 0 where
  pub stands : slice_get peers place ≡ Some (Some peer)
  pub is_of_kind : kind peer ≡ true
  pub none_before : All (λ other. before other peer ≡ false) (those kind peers)
  pub before_lower : All (λ other. before peer other ≡ true) (those kind (take place peers))

-- this one is, or there is none
abbrev pub FirstSoFar : (Standing → Bool) → (Standing → Standing → Bool) → List (Option Standing) → Option (ℕ × Standing) → Type 0
FirstSoFar kind before peers None = those kind peers ≡ []
FirstSoFar kind before peers (Some first) = StandsFirst kind before peers first.0 first.1

-- the order is strict, and compares any two
pub record IsOrder (before : Standing → Standing → Bool) : Type 0 where
  pub irreflexive : (x : Standing) → before x x ≡ false
  pub asymmetric : (x y : Standing) → before x y ≡ true → before y x ≡ false
  pub across : (x y z : Standing) → before x y ≡ true → before z y ≡ false → before x z ≡ true

lower : (kind : Standing → Bool) (peers more : List (Option Standing)) (place : ℕ) (peer : Standing)
    → slice_get peers place ≡ Some (Some peer) → those kind (take place (peers ++ more)) ≡ those kind (take place peers)
lower kind peers more place peer stands =
    let within : place < length peers = slice_get_within peers place (Some peer) stands in
    ap (those kind) (take-append-le place peers more (omega arith))

-- one more that is not of the kind
pub first_skips : (kind : Standing → Bool) (before : Standing → Standing
    → Bool) (peers : List (Option Standing)) (next : Option Standing)
    (first : Option (ℕ × Standing)) → those kind (peers ++ next ∷ []) ≡ those kind peers → FirstSoFar kind before peers first
    → FirstSoFar kind before (peers ++ next ∷ []) first
first_skips kind before peers next None same so_far = same ∙ so_far
first_skips kind before peers next (Some first) same so_far = record {
  stands = slice_get-push peers (next ∷ []) first.0 (Some first.1) so_far.stands;
  is_of_kind = so_far.is_of_kind;
  none_before = All-same (λ other. before other first.1 ≡ false) _ _ same so_far.none_before;
  before_lower = All-same (λ other. before first.1 other ≡ true) _ _ (lower kind peers
      (next ∷ []) first.0 first.1 so_far.stands) so_far.before_lower;
}

-- one more that does not go before the first
pub first_stays : (kind : Standing → Bool) (before : Standing → Standing
    → Bool) (peers : List (Option Standing)) (peer : Standing)
    (place : ℕ) (least : Standing) → kind peer ≡ true → before peer least ≡ false → StandsFirst kind before peers place least
    → StandsFirst kind before (peers ++ Some peer ∷ []) place least
first_stays kind before peers peer place least is_one not_before so_far = record {
  stands = slice_get-push peers (Some peer ∷ []) place (Some least) so_far.stands;
  is_of_kind = so_far.is_of_kind;
  none_before = All-same (λ other. before other least ≡ false) _ _ (those-push_yes kind peers peer is_one)
      (All-push (λ other. before other least ≡ false) (those kind peers) peer so_far.none_before not_before);
  before_lower = All-same (λ other. before least other ≡ true) _ _ (lower kind peers
      (Some peer ∷ []) place least so_far.stands) so_far.before_lower;
}

-- one more that goes before all
goes_first : (kind : Standing → Bool) (before : Standing → Standing → Bool) → IsOrder before → (peers : List (Option Standing))
    (peer : Standing) → kind peer ≡ true → All (λ other. before peer other ≡ true) (those kind peers)
    → StandsFirst kind before (peers ++ Some peer ∷ []) (length peers) peer
goes_first kind before order peers peer is_one all = record {
  stands = slice_get-last peers (Some peer);
  is_of_kind = is_one;
  none_before = All-same (λ other. before other peer ≡ false) _ _ (those-push_yes kind peers peer is_one)
      (All-push (λ other. before other peer ≡ false) (those kind peers) peer
      (All-weaker (λ other. before peer other ≡ true) (λ other. before other peer ≡ false)
      (λ other. order.asymmetric peer other) (those kind peers) all)
      (order.irreflexive peer));
  before_lower = All-same (λ other. before peer other ≡ true) _ _ (ap (those kind) (take_at peers (Some peer ∷ [])
      (length peers) refl)) all;
}

pub first_comes : (kind : Standing → Bool) (before : Standing → Standing → Bool) → IsOrder before
    → (peers : List (Option Standing))
    (peer : Standing) → kind peer ≡ true → those kind peers ≡ []
    → StandsFirst kind before (peers ++ Some peer ∷ []) (length peers) peer
first_comes kind before order peers peer is_one none =
    goes_first kind before order peers peer is_one (All-same (λ other. before peer other ≡ true) _ _ none (All-nil
    (λ other. before peer other ≡ true)))

pub first_changes : (kind : Standing → Bool) (before : Standing → Standing → Bool) → IsOrder before
    → (peers : List (Option Standing))
    (peer : Standing) (place : ℕ) (least : Standing) → kind peer ≡ true → before peer least ≡ true
    → StandsFirst kind before peers place least → StandsFirst kind before (peers ++ Some peer ∷ []) (length peers) peer
first_changes kind before order peers peer place least is_one is_before so_far =
    goes_first kind before order peers peer is_one
    (All-weaker (λ other. before other least ≡ false) (λ other. before peer other ≡ true)
    (λ other. order.across peer least other is_before) (those kind peers) so_far.none_before)

next_so_far : (kind : Standing → Bool) (before : Standing → Standing → Bool) → IsOrder before → (peers : List (Option Standing))
    (peer : Standing) (first : Option (ℕ × Standing)) → kind peer ≡ true → FirstSoFar kind before peers first
    → FirstSoFar kind before (peers ++ Some peer ∷ []) (next_first before first (length peers) peer)
next_so_far kind before order peers peer None is_one so_far = first_comes kind before order peers peer is_one so_far
next_so_far kind before order peers peer (Some first) is_one so_far =
    by_test (before peer first.1) refl
  where
    by_test : (b : Bool) → before peer first.1 ≡ b
        → FirstSoFar kind before (peers ++ Some peer ∷ []) (cond b (Some (length peers, peer)) (Some first))
    by_test true is_before = first_changes kind before order peers peer first.0 first.1 is_one is_before so_far
    by_test false not_before = first_stays kind before peers peer first.0 first.1 is_one not_before so_far

pub next_first-comes : (before : Standing → Standing → Bool) (first : Option (ℕ × Standing)) (place : ℕ) (peer : Standing)
    → comes_first before first peer ≡ true → next_first before first place peer ≡ Some (place, peer)
next_first-comes before None place peer comes = refl
next_first-comes before (Some first) place peer comes = ap (λ b. cond b (Some (place, peer)) (Some first)) comes

pub next_first-stays : (before : Standing → Standing → Bool) (first : Option (ℕ × Standing)) (place : ℕ) (peer : Standing)
    → comes_first before first peer ≡ false → next_first before first place peer ≡ first
next_first-stays before None place peer stays = cc
next_first-stays before (Some first) place peer stays = ap (λ b. cond b (Some (place, peer)) (Some first)) stays

-- ---- the steps of a loop over the places

-- no peer is there
pub step_none : (kind : Standing → Bool) (before : Standing → Standing → Bool) (peers : List (Option Standing)) (place : ℕ)
    (first : Option (ℕ × Standing)) → slice_get peers place ≡ Some None → FirstSoFar kind before (take place peers) first
    → FirstSoFar kind before (take (place + 1) peers) first
step_none kind before peers place first stands so_far =
    rw (take_next peers place None stands)
    (first_skips kind before (take place peers) None first (those-push_none kind (take place peers)) so_far)

-- one that is not of the kind
pub step_not : (kind : Standing → Bool) (before : Standing → Standing → Bool) (peers : List (Option Standing)) (place : ℕ)
    (peer : Standing) (first : Option (ℕ × Standing)) → slice_get peers place ≡ Some (Some peer) → kind peer ≡ false
    → FirstSoFar kind before (take place peers) first → FirstSoFar kind before (take (place + 1) peers) first
step_not kind before peers place peer first stands is_not so_far =
    rw (take_next peers place (Some peer) stands)
    (first_skips kind before (take place peers) (Some peer) first (those-push_no kind (take place peers) peer is_not) so_far)

-- one that is
pub step_is : (kind : Standing → Bool) (before : Standing → Standing → Bool) → IsOrder before → (peers : List (Option Standing))
    (place : ℕ) (peer : Standing) (first : Option (ℕ × Standing)) → slice_get peers place ≡ Some (Some peer) → kind peer ≡ true
    → FirstSoFar kind before (take place peers) first
    → FirstSoFar kind before (take (place + 1) peers) (next_first before first place peer)
step_is kind before order peers place peer first stands is_one so_far =
    let within : place < length peers = slice_get_within peers place (Some peer) stands in
    rw (take_next peers place (Some peer) stands)
    (subst (λ (n : ℕ). FirstSoFar kind before (take place peers ++ Some peer ∷ []) (next_first before first n peer))
    (length-take-le place peers (omega arith))
    (next_so_far kind before order (take place peers) peer first is_one so_far))

-- ---- after the loop

rest_is_empty : (b : Bool) (x : Standing) (xs : List Standing) → cond b (x ∷ xs) xs ≡ [] → xs ≡ []
rest_is_empty true x xs e = cc
rest_is_empty false x xs e = e

first_is_no : (b : Bool) (x : Standing) (xs : List Standing) → cond b (x ∷ xs) xs ≡ [] → b ≡ true → ⊥
first_is_no true x xs e is_one = cc
first_is_no false x xs e is_one = cc

some_of_kind : (kind : Standing → Bool) (peers : List (Option Standing)) (place : ℕ) (peer : Standing)
    → slice_get peers place ≡ Some (Some peer) → kind peer ≡ true → those kind peers ≡ [] → ⊥
some_of_kind kind [] place peer stands is_one e = cc
some_of_kind kind (None ∷ peers) zero peer stands is_one e = cc
some_of_kind kind (Some x ∷ peers) zero peer stands is_one e =
    let same : x ≡ peer = cc in
    first_is_no (kind x) x (those kind peers) e (ap kind same ∙ is_one)
some_of_kind kind (None ∷ peers) (suc place) peer stands is_one e = some_of_kind kind peers place peer stands is_one e
some_of_kind kind (Some x ∷ peers) (suc place) peer stands is_one e =
    some_of_kind kind peers place peer stands is_one (rest_is_empty (kind x) x (those kind peers) e)

pub length-others : (peers : List (Option Standing)) (except : Option ℕ) → length (others peers except) ≡ length peers
length-others peers None = refl
length-others peers (Some place) = length-set peers place None

pub after_all : (kind : Standing → Bool) (before : Standing → Standing
    → Bool) (peers : List (Option Standing)) (except : Option ℕ)
    (place : ℕ) (first : Option (ℕ × Standing)) → length peers ≤ place
    → FirstSoFar kind before (take place (others peers except)) first → FirstSoFar kind before (others peers except) first
after_all kind before peers except place first past so_far =
    let same = length-others peers except in
    subst (λ (ys : List (Option Standing)). FirstSoFar kind before ys first) (take_all place (others peers except) (omega
    (arith, same))) so_far

pub place_none : (kind : Standing → Bool) (before : Standing → Standing → Bool) (peers : List (Option Standing))
    (first : Option (ℕ × Standing)) → FirstSoFar kind before peers first → IsNone (place_of first) ↔ (those kind peers ≡ [])
place_none kind before peers None so_far = (λ _. so_far, λ _. refl)
place_none kind before peers (Some first) so_far = (
  λ e. cc,
  λ e. absurd
      (some_of_kind kind peers first.0 first.1 so_far.stands so_far.is_of_kind e),
)

at_another : (peers : List (Option Standing)) (except place : ℕ) (peer : Standing)
    → slice_get (slice_set peers except None) place ≡ Some (Some peer)
    → (slice_get peers place ≡ Some (Some peer)) × (except ≢ place)
at_another [] except place peer stands = cc
at_another (x ∷ peers) zero zero peer stands = cc
at_another (x ∷ peers) zero (suc place) peer stands = (stands, λ e. omega arith)
at_another (x ∷ peers) (suc except) zero peer stands = (stands, λ e. omega arith)
at_another (x ∷ peers) (suc except) (suc place) peer stands =
    let found = at_another peers except place peer stands in
    (found.0, λ e. found.1 (omega arith))

at_others : (peers : List (Option Standing)) (except : Option ℕ) (place : ℕ) (peer : Standing)
    → slice_get (others peers except) place ≡ Some (Some peer)
    → (slice_get peers place ≡ Some (Some peer)) × (except ≢ Some place)
at_others peers None place peer stands = (stands, λ e. cc)
at_others peers (Some except) place peer stands =
    let found = at_another peers except place peer stands in
    (found.0, λ e. found.1 (cc))

pub place_first : (kind : Standing → Bool) (before : Standing → Standing
    → Bool) (peers : List (Option Standing)) (except : Option ℕ)
    (first : Option (ℕ × Standing)) → FirstSoFar kind before (others peers except) first
    → IfSome (place_of first) (IsFirst kind before peers except)
place_first kind before peers except None so_far = tt
place_first kind before peers except (Some first) so_far =
    let found = at_others peers except first.0 first.1 so_far.stands in
    record {
      peer = first.1;
      stands = found.0;
      is_another = found.1;
      is_of_kind = so_far.is_of_kind;
      none_before = so_far.none_before;
      before_lower = so_far.before_lower;
    }

pub place_within : (kind : Standing → Bool) (before : Standing → Standing
    → Bool) (peers : List (Option Standing)) (except : Option ℕ)
    (first : Option (ℕ × Standing)) → FirstSoFar kind before (others peers except) first
    → IfSome (place_of first) (λ place. place < length peers)
place_within kind before peers except None so_far = tt
place_within kind before peers except (Some first) so_far =
    let same = length-others peers except in
    omega (arith, same, slice_get_within (others peers except) first.0 (Some first.1) so_far.stands)

-- ---- the orders

pub was_ready_before-order : IsOrder was_ready_before
was_ready_before-order = record {
  irreflexive = λ x. grind (arith, nat_tests);
  asymmetric = λ x y p. grind (arith, nat_tests);
  across = λ x y z p q. grind (arith, nat_tests);
}

pub owes_longer-order : IsOrder owes_longer
owes_longer-order = record {
  irreflexive = λ x. grind (arith, nat_tests);
  asymmetric = λ x y p. grind (arith, nat_tests);
  across = λ x y z p q. grind (arith, nat_tests);
}

pub is_behind-order : IsOrder is_behind
is_behind-order = record {
  irreflexive = λ x. grind (arith, nat_tests);
  asymmetric = λ x y p. grind (arith, nat_tests);
  across = λ x y z p q. grind (arith, nat_tests);
}

pub gives_way_before-order : (peers : List (Option Standing)) → IsOrder (gives_way_before peers)
gives_way_before-order peers = record {
  irreflexive = λ x. grind (arith, nat_tests);
  asymmetric = λ x y p. grind (arith, nat_tests);
  across = λ x y z p q. grind (arith, nat_tests);
}
