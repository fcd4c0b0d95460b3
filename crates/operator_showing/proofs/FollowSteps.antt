-- What is other on one page after another.
use Rattle.std.proofs.Common.{◌≡◌, ℕ, ◌+◌, Bool, List, [], ◌∷◌, ◌++◌, length, map, length-append, append_assoc, append-nil, refl, sym, ap, subst, ◌∙◌, arith, inl, inr}
use Rattle.gate_streams.specs.Sink.{SinkState}
use Rattle.operator_ports.specs.declared.next.Next.{Next}
use Rattle.operator_ports.specs.Steps.{Step, Read, IsTextOf}
use Rattle.operator_showing.specs.Followed.{AreFollowed, IsChangePrinted, IsFollowedFor, IsWatchedFor, IsWatched}

-- since these steps so many pages were read, and whatever is printed of pages after this one, it is printed of pages after
-- the first
pub record GoesOn (json : Bool) (first one : List ℕ) (old new : List Step) (before now : SinkState) (count : ℕ) : Type 0 where
  pub reads : List Next
  pub done : new ≡ old ++ map Read reads
  pub each : length reads ≡ count
  pub goes : (others : List Next) (after : SinkState) → AreFollowed json one others now after
      → AreFollowed json first (reads ++ others) before after

-- since these steps so many pages were read and followed
abbrev pub IsFollowedSince : ℕ → Bool → List ℕ → List Step → List Step → SinkState → SinkState → Type 0
IsFollowedSince count json first old new before after =
    (steps : List Step) × (new ≡ old ++ steps) × IsFollowedFor count json first steps before after

pub begun : (json : Bool) (first : List ℕ) (old : List Step) (before : SinkState) → GoesOn json first first old old before before 0
begun json first old before = record {
  reads = [];
  done = sym (append-nil old);
  each = refl;
  goes = λ others after all. all;
}

reads_more : (reads : List Next) (next : Next) → map Read (reads ++ next ∷ []) ≡ map Read reads ++ Read next ∷ []
reads_more [] next = refl
reads_more (one ∷ reads) next = ap (λ rest. Read one ∷ rest) (reads_more reads next)

pub one_more : (json : Bool) (first one other : List ℕ) (old new next : List Step) (read : Next) (before now after : SinkState) (count : ℕ)
    → IsTextOf read other → next ≡ new ++ Read read ∷ [] → IsChangePrinted json one other now after
    → GoesOn json first one old new before now count → GoesOn json first other old next before after (count + 1)
one_more json first one other old new next read before now after count is more printed so = record {
  reads = so.reads ++ read ∷ [];
  done = more ∙ ap (λ steps. steps ++ Read read ∷ []) so.done ∙ append_assoc old (map Read so.reads) (Read read ∷ [])
      ∙ ap (λ steps. old ++ steps) (sym (reads_more so.reads read));
  each = omega (arith, length-append so.reads (read ∷ []), so.each);
  goes = λ others last all.
      subst (λ (reads : List Next). AreFollowed json first reads before last) (sym (append_assoc so.reads (read ∷ []) others))
      (so.goes (read ∷ others) last (other, is, after, printed, all));
}

-- after so many pages
pub ended : (json : Bool) (first one : List ℕ) (old new : List Step) (before now : SinkState) (count most : ℕ)
    → GoesOn json first one old new before now count → count ≡ most → IsFollowedSince most json first old new before now
ended json first one old new before now count most so same = (
  map Read so.reads,
  so.done,
  record {
    reads = so.reads;
    done = refl;
    each = so.each ∙ same;
    followed = subst (λ (reads : List Next). AreFollowed json first reads before now) (append-nil so.reads) (so.goes [] now refl);
  },
)

-- no page came
pub nothing : (json : Bool) (old new : List Step) (before : SinkState) → new ≡ old
    → (steps : List Step) × (new ≡ old ++ steps) × IsWatched json steps before before
nothing json old new before same = ([], same ∙ sym (append-nil old), inl (refl, refl))

-- the first page was read, and then others
pub watched_for : (json : Bool) (first : Next) (text : List ℕ) (old now new : List Step) (before after : SinkState) (count : ℕ)
    → IsTextOf first text → now ≡ old ++ Read first ∷ [] → IsFollowedSince count json text now new before after
    → (steps : List Step) × (new ≡ old ++ steps) × IsWatchedFor count json steps before after
watched_for json first text old now new before after count is one so = (
  Read first ∷ so.0,
  so.1 ∙ ap (λ steps. steps ++ so.0) one ∙ append_assoc old (Read first ∷ []) so.0,
  record { first = first; text = text; is_text = is; rest = so.0; done = refl; followed = so.2 },
)

pub watched : (json : Bool) (first : Next) (text : List ℕ) (old now new : List Step) (before after : SinkState) (count : ℕ)
    → IsTextOf first text → now ≡ old ++ Read first ∷ [] → IsFollowedSince count json text now new before after
    → (steps : List Step) × (new ≡ old ++ steps) × IsWatched json steps before after
watched json first text old now new before after count is one so =
    let found = watched_for json first text old now new before after count is one so in
    (found.0, found.1, inr (count, found.2))
