-- The texts of a page have no part in its markup.
use Rattle.std.proofs.Common.{◌≡◌, ℕ, List, [], ◌∷◌, refl, arith, ap, sym, ◌∙◌}
use Rattle.status_view.specs.declared.view.View.{View}
use Rattle.status_view.specs.Layout.{Piece, NodeView, Markup, Number, Text}
use Rattle.status_view.specs.Shapes.{page_shape}
use Rattle.status_view.specs.Page.{page_nodes}
use Rattle.status_view.specs.Filling.{slot_text, with_text, filled, without_texts}

abbrev bare : Piece (List ℕ) → Piece (List ℕ)
bare piece = with_text (λ text. []) piece

bare_anywhere : (one other : View) (node : NodeView)
    → bare (with_text (slot_text one) node) ≡ bare (with_text (slot_text other) node)
bare_anywhere one other (Markup markup) = refl
bare_anywhere one other (Number number) = refl
bare_anywhere one other (Text slot) = refl

-- the same parts have the same markup and numbers, whatever their texts are
same_without_texts : (one other : View) (nodes : List NodeView)
    → without_texts (filled one nodes) ≡ without_texts (filled other nodes)
same_without_texts one other [] = refl
same_without_texts one other (node ∷ nodes) =
    grind (arith, bare_anywhere one other node, same_without_texts one other nodes)

-- so have the pages of one shape
pub alone : (view other : View) → page_shape other ≡ page_shape view
    → without_texts (filled view (page_nodes (page_shape view)))
    ≡ without_texts (filled other (page_nodes (page_shape other)))
alone view other same =
    same_without_texts view other (page_nodes (page_shape view))
    ∙ ap (λ shape. without_texts (filled other (page_nodes shape))) (sym same)
