-- The page of a shape: `page_nodes`. Its markup and its numbers are those of the shape alone.
use Rattle.std.specs.Prelude.{ℕ, if◌then◌else◌, List, [], ◌∷◌, ◌++◌, codes}
use Rattle.status_view.specs.declared.layout.EntryList.TheVariants.{Comments, Downtimes}
use Rattle.status_view.specs.Layout.{NodeView, Markup}
use Rattle.status_view.specs.Shapes.{PageShapeView}
use Rattle.status_view.specs.HeadLayout.{document_nodes, title_nodes, alarms_nodes}
use Rattle.status_view.specs.SummaryLayout.{summary_nodes}
use Rattle.status_view.specs.AskedLayout.{filter_nodes}
use Rattle.status_view.specs.ObjectsLayout.{objects_nodes}
use Rattle.status_view.specs.ListsLayout.{entries_nodes}

-- when a browser asks for a page of this shape again: never where it has the form
abbrev pub seconds_of : PageShapeView → ℕ
seconds_of shape = if shape.form then 0 else shape.refresh

-- what stands before the lists
unfoldable pub head_nodes : PageShapeView → List NodeView
head_nodes shape =
    document_nodes (seconds_of shape) shape.urgent
    ++ title_nodes shape.gateways
    ++ alarms_nodes shape.gateways
    ++ summary_nodes shape
    ++ filter_nodes shape

-- the end of a page of states
unfoldable pub end_nodes : List NodeView
end_nodes =
    Markup (codes "</main><footer><a href=\"/status.json\">status.json</a> &middot; ")
    ∷ Markup (codes "<a href=\"/metrics\">metrics</a></footer>\n</body></html>\n")
    ∷ []

-- the whole page
unfoldable pub page_nodes : PageShapeView → List NodeView
page_nodes shape =
    head_nodes shape
    ++ objects_nodes shape
    ++ entries_nodes Comments shape.comments
    ++ entries_nodes Downtimes shape.downtimes
    ++ end_nodes
