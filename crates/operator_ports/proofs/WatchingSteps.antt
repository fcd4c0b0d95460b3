-- Pages that are read one after another.
use Rattle.std.proofs.Common.{◌≡◌, ◌≢◌, ℕ, ◌+◌, ◌-◌, ◌^◌, ◌≤◌, List, [], ◌∷◌, ◌++◌, length, map, length-append, append-nil, append_assoc, Option, Some, None, refl, sym, ap, ◌∙◌, arith, inl, inr}
use Rattle.std.specs.Prelude.{is_some, MatchOption, true, false}
use Rattle.std.specs.List.{AllByRecursion}
use Rattle.std.proofs.lemmas.Grind.{common_steps}
use Rattle.gate_model.specs.declared.submission.Body.{Body}
use Rattle.status_reading.specs.Rows.{PageView}
use Rattle.status_reading.proofs.EachSteps.{each_append}
use Rattle.page_changes.specs.declared.effects.Effect.{Effect}
use Rattle.operator_ports.specs.declared.next.Next.{Next}
use Rattle.operator_ports.specs.declared.next.Next.TheVariants.{Over}
use Rattle.operator_ports.specs.Steps.{Step, Read}
use Rattle.operator_ports.specs.Watching.{Shows, ShowsNone, EndsAt, IsEnded, IsWatched}

-- since these steps so many pages were read, and none shows the command
pub record SoFar (body : Body) (before : PageView) (old now : List Step) (count : ℕ) : Type 0 where
  pub passed : List Next
  pub done : now ≡ old ++ map Read passed
  pub none : AllByRecursion (ShowsNone body before) passed
  pub each : length passed ≡ count

-- pages were read since these steps, and end the watch so
abbrev pub IsWatchedSince : Body → PageView → List Step → List Step → Option Effect → Type 0
IsWatchedSince body before old new seen =
    (reads : List Next) × (new ≡ old ++ map Read reads) × IsWatched body before reads seen

pub begun : (body : Body) (before : PageView) (old : List Step) → SoFar body before old old 0
begun body before old = record { passed = []; done = sym (append-nil old); none = tt; each = refl }

-- the steps of what was read before and of this
one_more : (passed : List Next) (next : Next) → map Read (passed ++ next ∷ []) ≡ map Read passed ++ Read next ∷ []
one_more [] next = refl
one_more (page ∷ passed) next = ap (λ rest. Read page ∷ rest) (one_more passed next)

adds : (old now new : List Step) (passed : List Next) (next : Next) → now ≡ old ++ map Read passed → new ≡ now ++ Read next ∷ []
    → new ≡ old ++ map Read (passed ++ next ∷ [])
adds old now new passed next so more =
    more ∙ ap (λ steps. steps ++ Read next ∷ []) so ∙ append_assoc old (map Read passed) (Read next ∷ [])
    ∙ ap (λ steps. old ++ steps) (sym (one_more passed next))

goes_on : (body : Body) (before : PageView) (old now new : List Step) (next : Next) (count : ℕ)
    → SoFar body before old now count → new ≡ now ++ Read next ∷ [] → ShowsNone body before next
    → SoFar body before old new (count + 1)
goes_on body before old now new next count so more none = record {
  passed = so.passed ++ next ∷ [];
  done = adds old now new so.passed next so.done more;
  none = each_append (ShowsNone body before) so.passed (next ∷ []) so.none (none, tt);
  each = omega (arith, length-append so.passed (next ∷ []), so.each);
}

-- what was read last ends it
pub ended : (body : Body) (before : PageView) (old now new : List Step) (next : Next) (count : ℕ) (seen : Option Effect)
    → SoFar body before old now count → new ≡ now ++ Read next ∷ [] → EndsAt body before seen next
    → IsWatchedSince body before old new seen
ended body before old now new next count seen so more ends = (
  so.passed ++ next ∷ [],
  adds old now new so.passed next so.done more,
  inl (record { passed = so.passed; last = next; whole = refl; none = so.none; ends = ends }),
)

-- the same, of what a read page may show
pub is_seen : (body : Body) (before : PageView) (old now new : List Step) (next : Next) (count : ℕ) (seen : Option Effect)
    → SoFar body before old now count → new ≡ now ++ Read next ∷ [] → is_some seen ≡ true
    → MatchOption seen (next ≢ Over → ShowsNone body before next) (Shows body before next)
    → IsWatchedSince body before old new seen
is_seen body before old now new next count None so more some shown = absurd (cc)
is_seen body before old now new next count (Some effect) so more some shown =
    ended body before old now new next count (Some effect) so more shown

pub is_passed : (body : Body) (before : PageView) (old now new : List Step) (next : Next) (count : ℕ) (seen : Option Effect)
    → SoFar body before old now count → new ≡ now ++ Read next ∷ [] → next ≢ Over → is_some seen ≡ false
    → MatchOption seen (next ≢ Over → ShowsNone body before next) (Shows body before next) → SoFar body before old new (count + 1)
is_passed body before old now new next count None so more other none shown =
    goes_on body before old now new next count so more (shown other)
is_passed body before old now new next count (Some effect) so more other none shown = absurd (cc)

-- nobody reads more
pub runs_out : (body : Body) (before : PageView) (old now : List Step) (count : ℕ) → SoFar body before old now count
    → count ≡ 2 ^ 64 - 1 → IsWatchedSince body before old now None
runs_out body before old now count so many =
    (so.passed, so.done, inr (refl, so.none, so.each ∙ many))
