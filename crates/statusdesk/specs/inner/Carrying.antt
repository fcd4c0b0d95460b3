-- What became of an order that is put into an outbox (`IsPosted`), and of a form that a page objects to (`objected`).
use Rattle.std.specs.Prelude.{◌≡◌, ℕ, List, ⊤, if◌then◌else◌}
use Rattle.desk_sending.specs.declared.orders.Objection.{Objection}
use Rattle.desk_sending.specs.declared.orders.Objection.TheVariants.{OutOfMemory}
use Rattle.desk_outbox.specs.Labels.{LabelledView}
use Rattle.statusdesk.specs.declared.commanding.Done.{Done}
use Rattle.statusdesk.specs.declared.commanding.Done.TheVariants.{NotAsked, Objected, Untaken, Taken}
use Rattle.statusdesk.specs.Commanding.{is_elsewhere}

-- the outbox of the gateway of this name has taken it in, and no other; or nothing is taken in
abbrev pub IsPosted : List ℕ → LabelledView → Done → Type 0
IsPosted name order (Taken posted) = posted ≡ record { gateway = name; order = order }
IsPosted name order (Objected why) = why ≡ OutOfMemory
IsPosted name order (Untaken fault) = ⊤
IsPosted name order NotAsked = ⊥

abbrev pub objected : Objection → Done
objected why = if is_elsewhere why then NotAsked else Objected why
