-- Two texts of one length, byte by byte: how many bytes differ.
use Rattle.std.proofs.Common.{◌≡◌, ℕ, ◌+◌, ◌<◌, ◌≤◌, ◌==◌, Bool, true, false, not, List, [], ◌∷◌, length, get_or, drop, refl, sym, ◌∙◌, inl, inr, arith}
use Rattle.std.specs.Int.{from_bool}
use Rattle.std.specs.Str.{bytes_eq}
use Rattle.std.proofs.lemmas.Bool.{cases_Bool}
use Rattle.std.proofs.lemmas.Bool.Decides.{nat_tests}
use Rattle.std.proofs.lemmas.List.{at_drop_more, at_drop_all}

-- how many bytes of two texts differ
abbrev pub differences : List ℕ → List ℕ → ℕ
differences (a ∷ one) (b ∷ other) = from_bool (not (a == b)) + differences one other
differences one other = 0

same_rest : (d : ℕ) → (from_bool false + d == 0) ≡ (d == 0)
same_rest d = grind arith

other_rest : (d : ℕ) → (from_bool true + d == 0) ≡ false
other_rest d = grind (arith, nat_tests)

-- none differs exactly where the texts are the same
pub none_differs : (one other : List ℕ) → length one ≡ length other → (differences one other == 0) ≡ bytes_eq one other
none_differs [] [] sized = refl
none_differs [] (b ∷ other) sized = absurd (omega (arith, sized))
none_differs (a ∷ one) [] sized = absurd (omega (arith, sized))
none_differs (a ∷ one) (b ∷ other) sized = elim (cases_Bool (a == b)) [
  | inl same ↦ rw same (same_rest (differences one other) ∙ none_differs one other (omega (arith, sized)))
  | inr differs ↦ rw differs (other_rest (differences one other))
]

-- one byte more
pub one_more : (one other : List ℕ) (index : ℕ) → index < length one → index < length other
    → from_bool (not (get_or one index 0 == get_or other index 0)) + differences (drop (index + 1) one) (drop (index + 1) other)
    ≡ differences (drop index one) (drop index other)
one_more one other index inside within =
    sym (at_drop_more (λ left. differences left (drop index other)) one index 0 inside
    ∙ at_drop_more (λ left. differences (get_or one index 0 ∷ drop (index + 1) one) left) other index 0 within)

pub none_left : (one other : List ℕ) (index : ℕ) → length one ≤ index → differences (drop index one) (drop index other) ≡ 0
none_left one other index ends = at_drop_all (λ left. differences left (drop index other)) one index ends

pub small : (test : Bool) → from_bool test ≤ 1
small true = omega arith
small false = omega arith
