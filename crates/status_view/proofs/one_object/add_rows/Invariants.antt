use Rattle.std.proofs.Common.{◌≡◌, ◌++◌, drop, filter}
use Rattle.status_view.specs.OneObject.{is_asked}
use Rattle.status_view.proofs.one_object.add_rows.Given as goal

abbrev pub invariant-loop-object : goal.invariant-loop-object
invariant-loop-object l =
    l.rows.items
    ++ filter (λ object. is_asked l.asked object.row.host.now object.row.service.now) (drop l.object-index l.object-items)
    ≡ l.fn.rows.items
    ++ filter (λ object. is_asked l.asked object.row.host.now object.row.service.now) l.object-items
