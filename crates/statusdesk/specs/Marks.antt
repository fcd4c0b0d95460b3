-- The page of many objects (`IsMarksPage`), and the links to it. Own rules.
use Rattle.std.specs.Prelude.{◌≡◌, ℕ, ◌/◌, ◌==◌, Bool, List, ◌++◌, map, take, codes, if◌then◌else◌}
use Rattle.std.specs.Fmt.{decimal}
use Rattle.std.specs.List.{AllZip, after_first}
use Rattle.std.specs.Str.{bytes_eq}
use Rattle.status_reading.specs.declared.rows.ShownObject.{ShownObject}
use Rattle.status_merge.specs.declared.gateway.Gateway.{Gateway}
use Rattle.status_merge.specs.declared.gateway.MergedObject.{MergedObject}
use Rattle.page_watching.specs.declared.watching.Seen.{Seen}
use Rattle.status_serving.specs.Pages.{IsShown, asked_of}
use Rattle.desk_guard.specs.Token.{token_of}
use Rattle.desk_view.specs.declared.marks.MarksPage.{MarksPage}
use Rattle.status_view.specs.Filling.{html_bytes}
use Rattle.desk_view.specs.Marks.{marks_parts}
use Rattle.statusdesk.specs.Notes.{note_view}
use Rattle.statusdesk.specs.Objects.{DeskView}

abbrev pub row_of : MergedObject → ShownObject
row_of object = object.row

-- a query without the moment that stands first, and the ampersand (38) after it
abbrev pub filter_of : List ℕ → List ℕ
filter_of query =
    if bytes_eq (take 3 query) (codes "at=") then after_first (λ byte. byte == 38) query else query

-- the page for a query, and the same page with the orders of this clock
abbrev pub marks_link : List ℕ → List ℕ
marks_link query = codes "/marks?" ++ filter_of query

abbrev pub marks_after : ℕ → List ℕ → List ℕ
marks_after clock query = codes "/marks?at=" ++ decimal clock ++ codes "&" ++ filter_of query

-- the page for a user, of what is kept of the gateways: the objects that the query chooses, the worst first, as on the list
-- of statusweb, with a token of this clock's hour and these notes; a browser loads it again, or it doesn't
pub record IsMarksPage (desk : DeskView) (clock : ℕ) (seen : List Seen) (user query : List ℕ)
    (notes : List (List ℕ × List ℕ × Bool)) (again : Bool) (body : List ℕ)
    : Type 0 where
  pub gateways : List Gateway
  pub page : MarksPage
  pub shown : AllZip (IsShown clock) seen gateways
  pub title_is : page.title.now ≡ desk.heading.title.now
  pub rows_are : page.rows.now ≡ map row_of (asked_of gateways query)
  pub user_is : page.user.now ≡ user
  pub token : page.token.now ≡ token_of desk.guard.key user (clock / 3600)
  pub query_is : page.query.now ≡ filter_of query
  pub notes_are : map note_view page.notes.now ≡ notes
  pub again_is : page.again ≡ again
  pub body_is : body ≡ html_bytes (marks_parts page)
