use Rattle.std.proofs.Common.{◌≡◌, ◌++◌, drop}
use Rattle.std.specs.List.{flat_map}
use Rattle.status_view.specs.Filling.{html_bytes}
use Rattle.desk_view.specs.Page.{gateway_parts, head_parts, note_parts}
use Rattle.desk_view.proofs.page.desk_page.Given as goal

abbrev pub invariant-loop-shown : goal.invariant-loop-shown
invariant-loop-shown l =
    l.html ++ html_bytes (flat_map (gateway_parts l.page.of) (drop l.shown-index l.page.gateways.now))
    ≡ html_bytes (head_parts l.page ++ flat_map note_parts l.page.notes.now)
    ++ html_bytes (flat_map (gateway_parts l.page.of) l.page.gateways.now)
