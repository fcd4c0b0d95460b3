use Rattle.std.proofs.Common.{◌≡◌, ◌++◌, drop, map}
use Rattle.status_view.specs.Layout.{node_view}
use Rattle.status_view.specs.Filling.{filled, html_bytes}
use Rattle.status_view.proofs.filling.fill.Given as goal

abbrev pub invariant-loop-node : goal.invariant-loop-node
invariant-loop-node l =
    l.html ++ html_bytes (filled l.view (map node_view (drop l.node-index l.node-items)))
    ≡ html_bytes (filled l.view l.layout)
