use Rattle.std.proofs.Common.{◌≡◌, ◌++◌, drop}
use Rattle.std.specs.List.{flat_map}
use Rattle.status_view.specs.AskedLayout.{option_nodes}
use Rattle.status_view.proofs.asked_layout.lay_out_options.Given as goal

abbrev pub invariant-loop-choice : goal.invariant-loop-choice
invariant-loop-choice l =
    l.layout ++ flat_map (option_nodes l.chosen) (drop l.choice-index l.choices)
    ≡ l.fn.layout ++ flat_map (option_nodes l.chosen) l.choices
