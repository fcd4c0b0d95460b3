-- What is shown of one order, or nothing.
use Rattle.std.specs.Prelude.{List, [], ◌∷◌, if◌then◌else◌}
use Rattle.desk_outbox.specs.declared.labels.Label.{Label}
use Rattle.desk_outbox.specs.declared.outbox.Settled.{Settled}
use Rattle.desk_outbox.specs.declared.showing.Asked.{Asked}
use Rattle.desk_outbox.specs.declared.showing.Shown.{Shown}
use Rattle.desk_outbox.specs.Showing.{is_of, unsent, shown_settled, is_asked}

abbrev pub settled_row : Asked → Settled → List Shown
settled_row asked settled = if is_asked asked settled then shown_settled asked settled ∷ [] else []

abbrev pub unsent_row : Asked → Label → List Shown
unsent_row asked label = if is_of asked label then unsent asked label ∷ [] else []
