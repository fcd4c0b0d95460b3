-- What calls of an output add up to.
use Rattle.std.proofs.Common.{◌≡◌, ℕ, ◌+◌, List, [], ◌++◌, Option, Result, Ok, Err, OnOk, inr, subst, arith}
use Rattle.std.specs.Io.KnownBytes.{Appends, Keeps}
use Rattle.gate_streams.specs.Source.{Tally, Counts, CountsCall}
use Rattle.gate_streams.specs.Sink.{SinkState, Fails, IsDelivered, Writes, Delivers, CountsTwo}
use Rattle.gate_streams.proofs.Calls.{appends_none, appends_append, appends_keeps, counts_append, counts_fail, fails_none, fails_append}

-- no failed call before a call that counts so many
pub fails_then : (a b c : Option Tally) (k : ℕ) → Fails a b 0 → Fails b c k → Fails a c k
fails_then a b c k p q = let e : 0 + k ≡ k = omega arith in subst (λ n. Fails a c n) e (fails_append a b c 0 k p q)

pub writes_none : (a : SinkState) → Writes a a []
writes_none a = record { appended = appends_none a.written; none_failed = fails_none a.tally }

pub writes_on : (a b c : SinkState) (x y : List ℕ) → Writes a b x → Writes b c y → Writes a c (x ++ y)
writes_on a b c x y p q = record {
  appended = appends_append a.written b.written c.written x y p.appended q.appended;
  none_failed = fails_then a.tally b.tally c.tally 0 p.none_failed q.none_failed;
}

pub delivers_on : (a b c : SinkState) (x y : List ℕ) → Writes a b x → Delivers b c y → Delivers a c (x ++ y)
delivers_on a b c x y p q = record {
  appended = appends_append a.written b.written c.written x y p.appended q.appended;
  delivered = q.delivered;
  none_failed = fails_then a.tally b.tally c.tally 0 p.none_failed q.none_failed;
}

-- bytes that are put and then delivered
pub put_delivered : {X E : Type 0} (a m b : SinkState) (bytes : List ℕ) (r : Result X E) → Appends a.written m.written bytes → Counts a.tally m.tally 1 0
    → Keeps m.written b.written → OnOk r (IsDelivered b.pending) → CountsCall m.tally b.tally r → OnOk r (Delivers a b bytes)
put_delivered a m b bytes (Ok x) p f k d c = record {
  appended = appends_keeps a.written m.written b.written bytes p k;
  delivered = d;
  none_failed = fails_append a.tally m.tally b.tally 0 0 (counts_fail a.tally m.tally 1 0 f) (counts_fail m.tally b.tally 1 0 c);
}
put_delivered a m b bytes (Err e) p f k d c = tt

pub two_counted : {X E : Type 0} (a m b : Option Tally) (r : Result X E) → Counts a m 1 0 → CountsCall m b r → CountsTwo a b r
two_counted a m b (Ok x) p q = counts_append a m b 1 0 1 0 p q
two_counted a m b (Err e) p q = inr (counts_append a m b 1 0 1 1 p q)
