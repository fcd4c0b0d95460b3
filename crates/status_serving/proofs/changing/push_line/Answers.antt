use Rattle.std.proofs.Common.{◌≡◌, ℕ, List, [], ◌∷◌, ◌++◌, ap, ◌∙◌, append_assoc}
use Rattle.status_export.specs.Document.{compact_text}
use Rattle.status_serving.specs.Changing.{change_json}
use Rattle.status_serving.proofs.changing.push_line.Goals as goal

pub returns : goal.returns
returns c =
    let old = c.args.lines.now.items in
    let text = compact_text (change_json c.args.shown.now) in
    let line : c.in_ok-line.line.items ≡ text =
    rw (
      c.as_slice.ensures.value,
      c.service_value.ensures,
      c.as_slice-2.ensures.value,
      c.from_value.ensures,
      c.state_name.ensures,
    ) at c.in_ok-line.ensures in
    c.in_ok-push.ensures.items
    ∙ ap (λ (items : List ℕ). items ++ 10 ∷ []) (c.in_ok-extend_from_slice.ensures.items
    ∙ ap (λ (more : List ℕ). old ++ more) (c.as_slice-3.ensures.value ∙ line))
    ∙ append_assoc old text (10 ∷ [])
