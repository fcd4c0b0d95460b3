use Rattle.std.proofs.Common.{◌≡◌, ◌++◌, drop, map}
use Rattle.std.specs.List.{flat_map}
use Rattle.status_view.specs.Shapes.{shape_view}
use Rattle.status_view.specs.SummaryLayout.{tile_view, tile_nodes}
use Rattle.status_view.proofs.summary_layout.lay_out_tiles.Given as goal

abbrev pub invariant-loop-tile : goal.invariant-loop-tile
invariant-loop-tile l =
    l.layout ++ flat_map (tile_nodes (shape_view l.shape)) (map tile_view (drop l.tile-index l.tiles))
    ≡ l.fn.layout ++ flat_map (tile_nodes (shape_view l.shape)) (map tile_view l.tiles)
