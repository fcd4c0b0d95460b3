use Rattle.std.proofs.Common.{◌≡◌, ◌++◌, drop, map}
use Rattle.status_view.proofs.html.ids_of.Given as goal

abbrev pub invariant-loop-origin : goal.invariant-loop-origin
invariant-loop-origin l =
    l.ids.items ++ map (λ origin. origin.id) (drop l.origin-index l.origins)
    ≡ map (λ origin. origin.id) l.origins
