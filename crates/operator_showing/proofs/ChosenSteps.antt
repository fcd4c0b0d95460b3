-- That an object alone is selected exactly where it is one of those that are asked for.
use Rattle.std.proofs.Common.{◌≡◌, ℕ, zero, suc, ◌+◌, ◌==◌, ◌≤◌, Bool, true, false, not, ◌&&◌, List, [], ◌∷◌, length, filter, refl, ap, ◌∙◌, arith}
use Rattle.std.specs.Prelude.{if◌then◌else◌}
use Rattle.std.specs.List.{flat_map}
use Rattle.gate_model.specs.declared.state.State.{State}
use Rattle.gate_model.specs.declared.state.State.TheVariants.{Pending, Ok, Warning, Critical, Unknown, Up, Down, Unreachable}
use Rattle.gate_model.specs.State.{is_problem, is_same_state}
use Rattle.status_merge.specs.declared.gateway.MergedObject.{MergedObject}
use Rattle.status_merge.specs.Asking.{Asked}
use Rattle.status_merge.specs.Ranks.{is_unhandled, rank, severity}
use Rattle.status_merge.specs.Selecting.{is_selected, selected}

severity_most : (state : State) → severity state ≤ 3
severity_most Pending = omega arith
severity_most Ok = omega arith
severity_most Warning = omega arith
severity_most Critical = omega arith
severity_most Unknown = omega arith
severity_most Up = omega arith
severity_most Down = omega arith
severity_most Unreachable = omega arith

least_of : (a b c d : Bool) (s : ℕ) → s ≤ 3 → (if a then s else if b then s + 5 else if c then 4 else if d then 9 else 10) ≤ 10
least_of true b c d s most = omega (arith, most)
least_of false true c d s most = omega (arith, most)
least_of false false true d s most = omega arith
least_of false false false true s most = omega arith
least_of false false false false s most = omega arith

rank_most : (object : MergedObject) → rank object ≤ 10
rank_most object =
    least_of (is_unhandled object) (is_problem object.row.state) object.row.stale (is_same_state object.row.state Pending)
    (severity object.row.state) (severity_most object.row.state)

-- one of a rank, if it is selected
abbrev at : {X : Type 0} → X → ℕ → Bool → List X
at x r is =
    flat_map (λ k. filter (λ one. (r == k) && is) (x ∷ []))
    (0 ∷ 1 ∷ 2 ∷ 3 ∷ 4 ∷ 5 ∷ 6 ∷ 7 ∷ 8 ∷ 9 ∷ 10 ∷ [])

is_none : {X : Type 0} (x : X) (r : ℕ) (is : Bool) → r ≤ 10 → (length (at x r is) == 0) ≡ not is
is_none x zero true most = refl
is_none x zero false most = refl
is_none x (suc zero) true most = refl
is_none x (suc zero) false most = refl
is_none x (suc (suc zero)) true most = refl
is_none x (suc (suc zero)) false most = refl
is_none x (suc (suc (suc zero))) true most = refl
is_none x (suc (suc (suc zero))) false most = refl
is_none x (suc (suc (suc (suc zero)))) true most = refl
is_none x (suc (suc (suc (suc zero)))) false most = refl
is_none x (suc (suc (suc (suc (suc zero))))) true most = refl
is_none x (suc (suc (suc (suc (suc zero))))) false most = refl
is_none x (suc (suc (suc (suc (suc (suc zero)))))) true most = refl
is_none x (suc (suc (suc (suc (suc (suc zero)))))) false most = refl
is_none x (suc (suc (suc (suc (suc (suc (suc zero))))))) true most = refl
is_none x (suc (suc (suc (suc (suc (suc (suc zero))))))) false most = refl
is_none x (suc (suc (suc (suc (suc (suc (suc (suc zero)))))))) true most = refl
is_none x (suc (suc (suc (suc (suc (suc (suc (suc zero)))))))) false most = refl
is_none x (suc (suc (suc (suc (suc (suc (suc (suc (suc zero))))))))) true most = refl
is_none x (suc (suc (suc (suc (suc (suc (suc (suc (suc zero))))))))) false most = refl
is_none x (suc (suc (suc (suc (suc (suc (suc (suc (suc (suc zero)))))))))) true most = refl
is_none x (suc (suc (suc (suc (suc (suc (suc (suc (suc (suc zero)))))))))) false most = refl
is_none x (suc (suc (suc (suc (suc (suc (suc (suc (suc (suc (suc n))))))))))) is most = absurd (omega (arith, most))

alone_selected : (asked : Asked) (object : MergedObject) → (length (selected asked (object ∷ [])) == 0) ≡ not (is_selected asked object)
alone_selected asked object = is_none object (rank object) (is_selected asked object) (rank_most object)

twice : (b : Bool) → not (not b) ≡ b
twice true = refl
twice false = refl

pub chosen_by : (asked : Asked) (object : MergedObject) (found : List MergedObject) (empty : Bool) → empty ≡ (length found == 0)
    → found ≡ selected asked (object ∷ []) → not empty ≡ is_selected asked object
chosen_by asked object found empty is selects =
    ap not (is ∙ ap (λ (all : List MergedObject). length all == 0) selects ∙ alone_selected asked object) ∙ twice (is_selected asked object)
