use Rattle.std.proofs.Common.{ℕ, ◌*◌, ◌-◌, length, take, drop}
use Rattle.status_merge.proofs.SelectingSteps.{sliced}
use Rattle.status_merge.proofs.selecting.page_rows.Goals as goal

pub returns : goal.returns
returns g c =
    rw (c.min.ensures, c.min-first.ensures, c.saturating_sub.ensures)
    (sliced c.args.rows.now (500 * (c.args.page - 1)) 500)
