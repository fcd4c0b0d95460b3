use Rattle.std.proofs.Common.{◌≡◌, ◌≤◌, ℕ, List, [], ◌∷◌, ◌++◌, drop, length, refl, sym, ap, ◌∙◌, append-nil}
use Rattle.std.specs.Prelude.{is_some}
use Rattle.std.specs.List.{flat_map, zip}
use Rattle.std.proofs.lemmas.Bool.{ltb-false}
use Rattle.std.proofs.lemmas.List.{drop_all}
use Rattle.status_reading.specs.declared.rows.ShownObject.{ShownObject}
use Rattle.page_changes.specs.declared.comparing.Change.{Change}
use Rattle.page_changes.specs.Changes.{object_changes}
use Rattle.page_changes.proofs.comparing.push_objects.Goals as goal

zip_none : (list : List ShownObject) → zip {X = ShownObject} list [] ≡ []
zip_none [] = refl
zip_none (one ∷ list) = refl

past_end : (made whole : List Change) (list others : List ShownObject) (index : ℕ) → length others ≤ index
    → made ++ flat_map object_changes (zip list (drop index others)) ≡ whole → made ≡ whole
past_end made whole list others index past so_far =
    sym (append-nil made)
    ∙ ap (λ rows. made ++ flat_map object_changes rows) (sym (zip_none list))
    ∙ ap (λ rest. made ++ flat_map object_changes (zip list rest)) (sym (drop_all index others past))
    ∙ so_far

pub returns-in_default : goal.returns-in_default
returns-in_default c =
    past_end _ _ (drop c.loop-index.index c.args.before.now) c.args.after.now c.loop-index.index
    (ltb-false c.loop-index.index (length c.args.after.now) (sym c.get.ensures.lookup.0 ∙ ap is_some c.in_default.is))
    c.loop-index.invariant
