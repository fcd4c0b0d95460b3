-- What a peer has where its connection ends in order, and not by a reset. Own rules.
use Rattle.std.specs.Prelude.{◌≡◌, ℕ, ◌||◌, Bool, true, List, []}
use Rattle.gate_turns.specs.declared.standing.Role.{Role}
use Rattle.gate_turns.specs.declared.standing.Role.TheVariants.{Agent, Operator, Reader}

-- nothing that the peer brought, or came for, is left without an answer: an operator brought nothing, or was answered in the
-- last piece that was served, and a reader has a page
abbrev pub is_answered : Role → Bool → Bool → Bool
is_answered Agent is_new has_answer = true
is_answered Operator is_new has_answer = is_new || has_answer
is_answered Reader is_new has_answer = has_answer

-- the peer was answered, and took all that was written to it
pub record HasAll (role : Role) (is_new has_answer : Bool) (unsent : List ℕ) : Type 0 where
  pub answered : is_answered role is_new has_answer ≡ true
  pub sent : unsent ≡ []
