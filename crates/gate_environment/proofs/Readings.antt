-- Readings of a clock, one after another.
use Rattle.std.proofs.Common.{◌≡◌, ℕ, zero, suc, ◌+◌, List, [], ◌∷◌, ◌++◌, length, Option, Some, None, sym, ap, ◌∙◌, refl, append-nil, append_assoc, add-zero, zero-add, add-suc, add_assoc, length-append}
use Rattle.std.proofs.lemmas.List.Elements.{All-nil, All-cons, All-append, All-weaker}
use Rattle.gate_model.specs.declared.record.Moment.{Moment}
use Rattle.gate_environment.specs.Clock.{ClockState, Takes, Shows, ShowsEach, first_readings}

pub first_append : (f g : ℕ → Moment) (n : ℕ) → ((k : ℕ) → g k ≡ f (n + k)) → (m : ℕ) → first_readings f (n + m) ≡ first_readings f n ++ first_readings g m
first_append f g n e zero = ap (λ k. first_readings f k) (add-zero n) ∙ sym (append-nil (first_readings f n))
first_append f g n e (suc m) =
    let here : first_readings f (n + suc m) ≡ first_readings f (n + m) ++ f (n + m) ∷ [] = ap (λ k. first_readings f k) (add-suc n m) in
    let more : first_readings f (n + m) ++ f (n + m) ∷ [] ≡ (first_readings f n ++ first_readings g m) ++ g m ∷ [] = cc (first_append f g n e m, e m) in
    here ∙ more ∙ append_assoc (first_readings f n) (first_readings g m) (g m ∷ [])

pub takes_none : (o : Option (ℕ → Moment)) → Takes o o []
takes_none None = tt
takes_none (Some f) = (refl, λ k. ap f (sym (zero-add k)))

pub takes_append : (a b c : Option (ℕ → Moment)) (xs ys : List Moment) → Takes a b xs → Takes b c ys → Takes a c (xs ++ ys)
takes_append None b c xs ys p q = tt
takes_append (Some f) None c xs ys p q = absurd p
takes_append (Some f) (Some g) None xs ys p q = absurd q
takes_append (Some f) (Some g) (Some h) xs ys p q =
    let n : ℕ = length xs in
    let m : ℕ = length ys in
    let e : (k : ℕ) → g k ≡ f (n + k) = p.1 in
    let lists : xs ++ ys ≡ first_readings f n ++ first_readings g m = ap (λ zs. zs ++ ys) p.0 ∙ ap (λ zs. first_readings f n ++ zs) q.0 in
    let all : first_readings f (length (xs ++ ys)) ≡ first_readings f (n + m) = ap (λ k. first_readings f k) (length-append xs ys) in
    let rest : (k : ℕ) → h k ≡ f (length (xs ++ ys) + k) =
    λ k. q.1 k ∙ e (m + k) ∙ ap f (sym (add_assoc n m k)) ∙ ap (λ j. f (j + k)) (sym (length-append xs ys)) in
    (lists ∙ sym (first_append f g n e m) ∙ sym all, rest)

pub shows_none : (a : ClockState) → ShowsEach a a []
shows_none a = record { read = takes_none a.readings; shown = All-nil a.shows; stays = λ moment s. s }

pub shows_one : (a b : ClockState) (now : Moment) → Shows a b now → ShowsEach a b (now ∷ [])
shows_one a b now s = record { read = s.read; shown = All-cons a.shows now [] s.shown (All-nil a.shows); stays = s.stays }

pub shows_append : (a b c : ClockState) (xs ys : List Moment) → ShowsEach a b xs → ShowsEach b c ys → ShowsEach a c (xs ++ ys)
shows_append a b c xs ys p q = record {
  read = takes_append a.readings b.readings c.readings xs ys p.read q.read;
  shown = All-append a.shows xs ys p.shown (All-weaker b.shows a.shows p.stays ys q.shown);
  stays = λ moment s. p.stays moment (q.stays moment s);
}
