use Rattle.std.proofs.Common.{ℕ, List, ap, ◌∙◌, length, take}
use Rattle.std.specs.Str.{str_eq_ignore_ascii_case}
use Rattle.std.proofs.lemmas.List.{take_min}
use Rattle.status_merge.proofs.selecting.begins.Goals as goal

pub returns : goal.returns
returns c =
    let text = c.args.text.now in
    let part = c.args.part.now in
    c.same_text.ensures
    ∙ ap (λ (front : List ℕ). str_eq_ignore_ascii_case front part)
    (ap (λ (n : ℕ). take n text) c.min-len.ensures ∙ take_min (length part) text)
