use Rattle.std.proofs.Common.{◌++◌, codes, append_assoc, ap, ◌∙◌}
use Rattle.std.specs.Fmt.{decimal}
use Rattle.gate_start.proofs.keeping.push_front.Goals as goal

pub returns : goal.returns
returns c =
    let rest = c.args.part.now ++ decimal c.args.number in
    c.in_ok-push_numbered.ensures ∙ ap (λ l. l ++ rest) c.in_ok-extend_from_slice.ensures.items ∙ append_assoc c.args.out.now.items (codes "nscagate: kept: ") rest
