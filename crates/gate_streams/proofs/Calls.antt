-- Counts and bytes of calls, one after another.
use Rattle.std.proofs.Common.{◌≡◌, ℕ, ◌+◌, List, [], ◌++◌, Option, Some, None, sym, ap, ◌∙◌, refl, append-nil, append_assoc, add-zero, add_assoc}
use Rattle.std.specs.Io.KnownBytes.{Consumes, Keeps, Appends}
use Rattle.gate_streams.specs.Source.{Counts, Tally}
use Rattle.gate_streams.specs.Sink.{Fails}

-- ---- counts

pub counts_none : (o : Option Tally) → Counts o o 0 0
counts_none None = tt
counts_none (Some t) = (sym (add-zero t.calls), sym (add-zero t.failures))

pub counts_append : (a b c : Option Tally) (n m k l : ℕ) → Counts a b n m → Counts b c k l → Counts a c (n + k) (m + l)
counts_append None None None n m k l p q = tt
counts_append None None (Some v) n m k l p q = absurd q
counts_append None (Some u) c n m k l p q = absurd p
counts_append (Some t) b None n m k l p q = tt
counts_append (Some t) None (Some v) n m k l p q = absurd q
counts_append (Some t) (Some u) (Some v) n m k l p q =
    (q.0 ∙ ap (λ x. x + k) p.0 ∙ add_assoc t.calls n k, q.1 ∙ ap (λ x. x + l) p.1 ∙ add_assoc t.failures m l)

pub fails_none : (o : Option Tally) → Fails o o 0
fails_none None = tt
fails_none (Some t) = sym (add-zero t.failures)

pub fails_append : (a b c : Option Tally) (n m : ℕ) → Fails a b n → Fails b c m → Fails a c (n + m)
fails_append None None None n m p q = tt
fails_append None None (Some v) n m p q = absurd q
fails_append None (Some u) c n m p q = absurd p
fails_append (Some t) b None n m p q = tt
fails_append (Some t) None (Some v) n m p q = absurd q
fails_append (Some t) (Some u) (Some v) n m p q = q ∙ ap (λ x. x + m) p ∙ add_assoc t.failures n m

pub counts_fail : (a b : Option Tally) (n m : ℕ) → Counts a b n m → Fails a b m
counts_fail None None n m p = tt
counts_fail None (Some u) n m p = absurd p
counts_fail (Some t) None n m p = tt
counts_fail (Some t) (Some u) n m p = p.1

-- ---- bytes

pub consumes_none : (o : Option (List ℕ)) → Consumes o o []
consumes_none None = tt
consumes_none (Some xs) = refl

pub consumes_append : (a b c : Option (List ℕ)) (xs ys : List ℕ) → Consumes a b xs → Consumes b c ys → Consumes a c (xs ++ ys)
consumes_append None b c xs ys p q = tt
consumes_append (Some l) None c xs ys p q = absurd p
consumes_append (Some l) (Some m) None xs ys p q = absurd q
consumes_append (Some l) (Some m) (Some n) xs ys p q = p ∙ ap (λ z. xs ++ z) q ∙ sym (append_assoc xs ys n)

pub consumes_keeps : (a b c : Option (List ℕ)) (xs : List ℕ) → Consumes a b xs → Keeps b c → Consumes a c xs
consumes_keeps None b c xs p q = tt
consumes_keeps (Some l) None c xs p q = absurd p
consumes_keeps (Some l) (Some m) None xs p q = absurd q
consumes_keeps (Some l) (Some m) (Some n) xs p q = p ∙ ap (λ z. xs ++ z) (sym q)

pub appends_none : (o : Option (List ℕ)) → Appends o o []
appends_none None = tt
appends_none (Some xs) = sym (append-nil xs)

pub appends_append : (a b c : Option (List ℕ)) (xs ys : List ℕ) → Appends a b xs → Appends b c ys → Appends a c (xs ++ ys)
appends_append None b c xs ys p q = tt
appends_append (Some l) None c xs ys p q = absurd p
appends_append (Some l) (Some m) None xs ys p q = absurd q
appends_append (Some l) (Some m) (Some n) xs ys p q = q ∙ ap (λ z. z ++ ys) p ∙ append_assoc l xs ys

pub appends_keeps : (a b c : Option (List ℕ)) (xs : List ℕ) → Appends a b xs → Keeps b c → Appends a c xs
appends_keeps None b c xs p q = tt
appends_keeps (Some l) None c xs p q = absurd p
appends_keeps (Some l) (Some m) None xs p q = absurd q
appends_keeps (Some l) (Some m) (Some n) xs p q = q ∙ p
