-- The counts of a page, each with the link to the objects that it counts: `summary_nodes`. Own rules.
use Rattle.std.specs.Prelude.{◌≡◌, ℕ, Bool, true, false, ◌==◌, List, [], ◌∷◌, ◌++◌, length, codes}
use Rattle.std.specs.List.{flat_map}
use Rattle.gate_model.specs.declared.state.State.{State}
use Rattle.gate_model.specs.declared.state.State.TheVariants.{Pending, Ok, Warning, Critical, Unknown, Up, Down, Unreachable}
use Rattle.gate_model.specs.State.{is_same_state}
use Rattle.status_merge.specs.declared.gateway.MergedObject.{MergedObject}
use Rattle.status_merge.specs.declared.query.Choice.{Choice}
use Rattle.status_merge.specs.declared.query.Choice.TheVariants.{All, Problems, Unhandled, Stale, In}
use Rattle.status_merge.specs.Asking.{Asked, choice_word, with_choice}
use Rattle.status_merge.specs.Selecting.{selected}
use Rattle.status_view.specs.declared.layout.Slot.TheVariants as slot
use Rattle.status_view.specs.declared.summary_layout.Tile.{Tile}
use Rattle.status_view.specs.Layout.{NodeView, Markup, Number, Text, nodes_if}
use Rattle.status_view.specs.Shapes.{PageShapeView}

-- whether two choices are one
unfoldable pub same_choice : Choice → Choice → Bool
same_choice All All = true
same_choice Problems Problems = true
same_choice Unhandled Unhandled = true
same_choice Stale Stale = true
same_choice (In one) (In other) = is_same_state one other
same_choice one other = false

-- how many objects a choice takes, as its link shows them
pub record TileView : Type 0 where
  pub choice : Choice
  pub name : List ℕ
  pub count : ℕ

abbrev pub tile_view : Tile → TileView
tile_view tile = record { choice = tile.choice; name = tile.name.now; count = tile.count }

-- a count, its name, and the link to the objects that it counts; the query's own choice is marked
unfoldable pub tile_nodes : PageShapeView → TileView → List NodeView
tile_nodes shape tile =
    (Markup (codes "<a class=\"tile ") ∷ Markup (choice_word tile.choice) ∷ [])
    ++ nodes_if (tile.count == 0) (Markup (codes " zero") ∷ [])
    ++ nodes_if (same_choice shape.choice tile.choice) (Markup (codes "\" aria-current=\"true") ∷ [])
    ++ (Markup (codes "\" href=\"/?")
    ∷ Text (slot.Chosen tile.choice)
    ∷ Markup (codes "\"><b>")
    ∷ Number tile.count
    ∷ Markup (codes "</b> ")
    ∷ Markup tile.name
    ∷ Markup (codes "</a>")
    ∷ [])

-- tiles under a title
unfoldable pub group_nodes : PageShapeView → List ℕ → List TileView → List NodeView
group_nodes shape title tiles =
    (Markup (codes "<div class=\"group\"><span class=\"of\">") ∷ Markup title ∷ Markup (codes "</span>") ∷ [])
    ++ flat_map (tile_nodes shape) tiles
    ++ (Markup (codes "</div>") ∷ [])

abbrev pub state_tile : State → List ℕ → ℕ → TileView
state_tile state name count = record { choice = In state; name = name; count = count }

unfoldable pub all_tiles : PageShapeView → List TileView
all_tiles shape =
    record { choice = Unhandled; name = codes "unhandled"; count = shape.counts.unhandled }
    ∷ record { choice = Stale; name = codes "stale"; count = shape.counts.stale }
    ∷ state_tile Pending (codes "pending") shape.pending
    ∷ record { choice = All; name = codes "objects"; count = shape.counts.objects }
    ∷ []

unfoldable pub host_tiles : PageShapeView → List TileView
host_tiles shape =
    state_tile Down (codes "down") shape.counts.down
    ∷ state_tile Unreachable (codes "unreachable") shape.counts.unreachable
    ∷ state_tile Up (codes "up") shape.counts.up
    ∷ []

unfoldable pub service_tiles : PageShapeView → List TileView
service_tiles shape =
    state_tile Critical (codes "critical") shape.counts.critical
    ∷ state_tile Warning (codes "warning") shape.counts.warning
    ∷ state_tile Unknown (codes "unknown") shape.counts.unknown
    ∷ state_tile Ok (codes "ok") shape.counts.ok
    ∷ []

unfoldable pub summary_nodes : PageShapeView → List NodeView
summary_nodes shape =
    (Markup (codes "<nav class=\"counts\" aria-label=\"Counts\">") ∷ [])
    ++ group_nodes shape (codes "All") (all_tiles shape)
    ++ group_nodes shape (codes "Hosts") (host_tiles shape)
    ++ group_nodes shape (codes "Services") (service_tiles shape)
    ++ (Markup (codes "</nav>\n") ∷ [])

-- ---- what a tile counts

abbrev pub tiles_of : PageShapeView → List TileView
tiles_of shape = all_tiles shape ++ host_tiles shape ++ service_tiles shape

-- the number of a tile is the length of what its link selects of these objects: those that the query asks for, of the tile's
-- choice
abbrev pub CountsSelected : Asked → List MergedObject → TileView → Type 0
CountsSelected asked objects tile = tile.count ≡ length (selected (with_choice tile.choice asked) objects)
