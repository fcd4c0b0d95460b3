-- An order that the outbox of a gateway has taken in, with the name of this gateway: `PostedView`.
use Rattle.std.specs.Prelude.{ℕ, List}
use Rattle.desk_outbox.specs.Labels.{LabelledView}

pub record PostedView : Type 0 where
  pub gateway : List ℕ
  pub order : LabelledView
