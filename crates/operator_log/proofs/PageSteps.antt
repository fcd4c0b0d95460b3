-- There is one last page in a text.
use Rattle.std.proofs.Common.{◌≡◌, ◌⊎◌, inl, inr, ℕ, List, [], ◌∷◌, ◌++◌, sym, ap, ◌∙◌}
use Rattle.operator_restore.specs.Printed.{BeginsAtLine, IsLastPage}

abbrev tail : List ℕ → List ℕ
tail [] = []
tail (byte ∷ bytes) = bytes

-- of two rests that follow an LF of a text, one begins at a line of the other
later : (front one before other : List ℕ) → front ++ 10 ∷ one ≡ before ++ 10 ∷ other → BeginsAtLine one other ⊎ BeginsAtLine other one
later [] one [] other is = inl (inl (sym (ap tail is)))
later [] one (byte ∷ before) other is = inl (inr (before, ap tail is))
later (byte ∷ front) one [] other is = inr (inr (front, sym (ap tail is)))
later (byte ∷ front) one (next ∷ before) other is = later front one before other (ap tail is)

of_both : (text one other : List ℕ) → BeginsAtLine text one → BeginsAtLine text other → BeginsAtLine one other ⊎ BeginsAtLine other one
of_both text one other (inl whole) (inl is) = inl (inl (is ∙ sym whole))
of_both text one other (inl whole) (inr (before, is)) = inl (inr (before, whole ∙ is))
of_both text one other (inr (front, is)) (inl whole) = inr (inr (front, whole ∙ is))
of_both text one other (inr (front, is)) (inr (before, same)) = later front one before other (sym is ∙ same)

pub same_page : (printed one other : List ℕ) → IsLastPage printed one → IsLastPage printed other → one ≡ other
same_page printed one other is last = elim (of_both printed one other is.line last.line) [
  | inl after ↦ sym (is.last other after last.begins)
  | inr after ↦ last.last one after is.begins
]
