-- What a search by id finds among live entries.
use Rattle.std.specs.Prelude.{ℕ, ◌==◌, Bool, List, Option}
use Rattle.std.specs.List.{position_from}
use Rattle.gate_model.specs.declared.downtime.Scheduled.{Scheduled}

-- the entry has this id
abbrev pub has_id : ℕ → Scheduled → Bool
has_id id scheduled = scheduled.id == id

-- the index of the entry of this id
abbrev pub index_of_id : ℕ → List Scheduled → Option ℕ
index_of_id id entries = position_from (has_id id) 0 entries
