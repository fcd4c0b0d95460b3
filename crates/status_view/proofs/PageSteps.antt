-- The numbers of pages, one after another.
use Rattle.std.proofs.Common.{◌≡◌, ℕ, suc, ◌+◌, ◌-◌, ◌<◌, ◌≤◌, List, [], ◌∷◌, ◌++◌, true, false, arith, ap, sym, ◌∙◌, append_assoc, append-nil, nat_lt}
use Rattle.std.specs.List.{flat_map, range_with_len}
use Rattle.status_view.specs.Layout.{NodeView}

ranged : (index count : ℕ) → index < count
    → range_with_len (index + 1) (count - index) ≡ (index + 1) ∷ range_with_len (index + 1 + 1) (count - (index + 1))
ranged index count inside =
    let left : count - index ≡ suc (count - (index + 1)) = omega (arith, inside) in
    ap (range_with_len (index + 1)) left

-- one number more
pub numbered : (nodes : ℕ → List NodeView) (index count : ℕ) (layout more whole : List NodeView) → index < count
    → more ≡ layout ++ nodes (index + 1)
    → layout ++ flat_map nodes (range_with_len (index + 1) (count - index)) ≡ whole
    → more ++ flat_map nodes (range_with_len (index + 1 + 1) (count - (index + 1))) ≡ whole
numbered nodes index count layout more whole inside is known =
    let rest = flat_map nodes (range_with_len (index + 1 + 1) (count - (index + 1))) in
    ap (λ front. front ++ rest) is
    ∙ append_assoc layout (nodes (index + 1)) rest
    ∙ ap (λ numbers. layout ++ flat_map nodes numbers) (sym (ranged index count inside))
    ∙ known

-- no number more
pub all_numbered : (nodes : ℕ → List NodeView) (index count : ℕ) (layout whole : List NodeView) → count ≤ index
    → layout ++ flat_map nodes (range_with_len (index + 1) (count - index)) ≡ whole → layout ≡ whole
all_numbered nodes index count layout whole past known =
    let none : count - index ≡ 0 = omega (arith, past) in
    sym (append-nil layout)
    ∙ ap (λ left. layout ++ flat_map nodes (range_with_len (index + 1) left)) (sym none)
    ∙ known
