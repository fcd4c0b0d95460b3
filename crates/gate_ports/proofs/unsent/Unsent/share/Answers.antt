use Rattle.std.proofs.Common.{◌++◌, List, ℕ, drop, ap, ◌∙◌, append-nil}
use Rattle.std.specs.Arc.{arc_slice_items}
use Rattle.gate_ports.proofs.Left.{second_nil}
use Rattle.gate_ports.proofs.unsent.Unsent.share.Goals as goal

pub returns : goal.returns
returns c =
    let text = drop c.args.taken (arc_slice_items c.args.text) in
    ap (λ (l : List ℕ). text ++ l) (second_nil _ _ (c.self.view_is ∙ c.requires.none)) ∙ append-nil text
