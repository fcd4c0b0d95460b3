-- The orders that outboxes have taken in for a form, in order (`posted_in`), and for one with marks (`all_posted`).
use Rattle.std.specs.Prelude.{List, [], ◌∷◌}
use Rattle.std.specs.List.{flat_map}
use Rattle.statusdesk.specs.declared.commanding.Done.{Done}
use Rattle.statusdesk.specs.declared.commanding.Done.TheVariants.{Taken}
use Rattle.statusdesk.specs.Posted.{PostedView}

-- that of one command of a form
abbrev pub posted_at : Done → List PostedView
posted_at (Taken posted) = posted ∷ []
posted_at done = []

-- those of all its commands
abbrev pub posted_in : List Done → List PostedView
posted_in all = flat_map posted_at all

-- those of all forms of a request
abbrev pub all_posted : List (List Done) → List PostedView
all_posted all = flat_map posted_in all
