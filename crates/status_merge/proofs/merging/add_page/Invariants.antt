use Rattle.std.proofs.Common.{◌≡◌, ℕ, ◌++◌, drop, map}
use Rattle.std.specs.List.{enumerate_from}
use Rattle.status_reading.specs.declared.rows.ShownObject.{ShownObject}
use Rattle.status_merge.specs.Objects.{shown_by}
use Rattle.status_merge.proofs.merging.add_page.Given as goal

abbrev pub invariant-loop-index : goal.invariant-loop-index
invariant-loop-index l =
    l.objects.items
    ++ map (λ (item : ℕ × ShownObject). shown_by l.gateway l.page.moment item.0 item.1)
    (enumerate_from l.index (drop l.index l.rows))
    ≡ l.fn.objects.items
    ++ map (λ (item : ℕ × ShownObject). shown_by l.gateway l.page.moment item.0 item.1) (enumerate_from 0 l.rows)
