-- For proofs and private functions alone: a list of ids whose front was removed, as a structure of the code.
use Rattle.std.specs.Prelude.{ℕ, ◌-◌, List, drop, vec_len, vec_capacity}
use Rattle.gate_downtime.specs.declared.ids.Ids.TheInside.{Inside}

-- the ids that are left, and for how many more there is room
pub record IdsView : Type 0 where
  pub items : List ℕ
  pub room : ℕ

abbrev pub ids_view : Inside → IdsView
ids_view ids = record { items = drop ids.start ids.all.items; room = vec_capacity ids.all - vec_len ids.all }
