-- The page of all comments, and that of all downtime entries: `entries_page_nodes`. Own rules.
use Rattle.std.specs.Prelude.{ℕ, nat_lt, if◌then◌else◌, List, [], ◌∷◌, ◌++◌, Some, codes}
use Rattle.status_view.specs.declared.layout.EntryList.{EntryList}
use Rattle.status_view.specs.declared.layout.EntryList.TheVariants.{Comments, Downtimes}
use Rattle.status_view.specs.Layout.{NodeView, Markup}
use Rattle.status_view.specs.Shapes.{EntryShapeView, PageShapeView}
use Rattle.status_view.specs.HeadLayout.{document_nodes, title_nodes, alarms_nodes}
use Rattle.status_view.specs.ObjectsLayout.{pages_nodes}
use Rattle.status_view.specs.ListsLayout.{entries_table}
use Rattle.status_view.specs.Page.{end_nodes}

-- the rows of a list
abbrev pub rows_in : EntryList → PageShapeView → List EntryShapeView
rows_in Comments shape = shape.comments
rows_in Downtimes shape = shape.downtimes

-- the path of the page of a list
abbrev pub list_path : EntryList → List ℕ
list_path Comments = codes "/comments"
list_path Downtimes = codes "/downtime"

-- that a list has no row
unfoldable pub none_nodes : EntryList → List NodeView
none_nodes Comments = Markup (codes "<p>No comments.</p>\n") ∷ []
none_nodes Downtimes = Markup (codes "<p>No downtime.</p>\n") ∷ []

-- the list, with the links to its pages, or that it has no row
unfoldable pub all_nodes : EntryList → PageShapeView → List NodeView
all_nodes list shape =
    if nat_lt 0 shape.selected
    then entries_table list (Some shape.selected) (rows_in list shape)
    ++ pages_nodes (list_path list) shape.page shape.selected
    else none_nodes list

-- the page, with the alarms about the gateways
unfoldable pub entries_page_nodes : EntryList → PageShapeView → List NodeView
entries_page_nodes list shape =
    document_nodes shape.refresh 0
    ++ title_nodes shape.gateways
    ++ alarms_nodes shape.gateways
    ++ all_nodes list shape
    ++ end_nodes
