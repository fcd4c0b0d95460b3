use Rattle.std.proofs.Common.{◌≡◌, ◌&&◌, Bool, true, false, List, [], ◌∷◌, length, refl, ap, ◌∙◌, arith}
use Rattle.status_reading.specs.declared.rows.ShownObject.{ShownObject}
use Rattle.page_changes.specs.Changes.{is_same_object, are_same_objects}
use Rattle.page_changes.proofs.comparing.are_same_objects.Goals as goal

never : (test : Bool) → false ≡ (test && false)
never true = refl
never false = refl

other_lengths : (before after : List ShownObject) → (length before ≡ length after → ⊥) → false ≡ are_same_objects before after
other_lengths [] [] other = absurd (other refl)
other_lengths [] (two ∷ after) other = refl
other_lengths (one ∷ before) [] other = refl
other_lengths (one ∷ before) (two ∷ after) other =
    never (is_same_object one two)
    ∙ ap (λ (rest : Bool). is_same_object one two && rest) (other_lengths before after (λ same. other (omega (arith, same))))

pub returns-then-before-after : goal.returns-then-before-after
returns-then-before-after c = other_lengths c.args.before.now c.args.after.now (λ same. absurd (omega (arith, same)))
