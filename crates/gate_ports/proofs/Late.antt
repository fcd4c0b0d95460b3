-- Peers that are late.
use Rattle.std.proofs.Common.{◌≡◌, ℕ, ◌+◌, ◌≢◌, List, Option, sym, ◌∙◌, subst, arith, inl, inr}
use Rattle.std.proofs.lemmas.Bool.{cases_lt}
use Rattle.gate_turns.specs.Waiting.{IsLate}
use Rattle.gate_ports.specs.declared.peers.Peers.{Peers}
use Rattle.gate_turns.specs.declared.standing.Standing.{Standing}
use Rattle.gate_ports.specs.Table.{IsOnlyAt}
use Rattle.gate_ports.specs.Waiting.{IsLateAt, IsNoneLate, IsSameTime}

-- one change of a place after another
pub only_more : (place : ℕ) (old mid new : List (Option Standing)) → IsOnlyAt place old mid → IsOnlyAt place mid new → IsOnlyAt place old new
only_more place old mid new first second = record {
  room = second.room ∙ first.room;
  others = λ other differs. second.others other differs ∙ first.others other differs;
}

late_before : (mid new : Peers) (i place : ℕ) → IsSameTime mid new → IsOnlyAt i mid.table.standings.items new.table.standings.items → place ≢ i
    → IsLateAt new place → IsLateAt mid place
late_before mid new i place time only other (standing, at, is) = (
  standing,
  sym (only.others place other) ∙ at,
  subst (λ now. IsLate now mid.rules.silence mid.is_ending standing) time.now
      (subst (λ rules. IsLate new.now rules.silence mid.is_ending standing) time.rules
      (subst (λ ending. IsLate new.now new.rules.silence ending standing) time.ending is)),
)

pub none_late_more : (mid new : Peers) (i : ℕ) → IsSameTime mid new → IsNoneLate mid i
    → IsOnlyAt i mid.table.standings.items new.table.standings.items → (IsLateAt new i → ⊥) → IsNoneLate new (i + 1)
none_late_more mid new i time before only gone place less late =
    elim (cases_lt place i) [
      | inl lower ↦ before place lower (late_before mid new i place time only (λ same. absurd (omega (arith, lower, same))) late)
      | inr higher ↦ (let same : place ≡ i = omega (arith, less, higher) in gone (subst (λ p. IsLateAt new p) same late))
    ]

pub time_more : (old mid new : Peers) → IsSameTime old mid → IsSameTime mid new → IsSameTime old new
time_more old mid new first second = record {
  now = second.now ∙ first.now;
  ending = second.ending ∙ first.ending;
  rules = second.rules ∙ first.rules;
}
