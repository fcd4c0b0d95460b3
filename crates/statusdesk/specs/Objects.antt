-- The page of an object: `IsObjectPage`, with what the gateways show of it (`AreKnown`).
use Rattle.std.specs.Prelude.{◌≡◌, ◌⊎◌, ℕ, ◌/◌, Bool, true, false, List, [], ◌∷◌, ◌++◌, map}
use Rattle.status_reading.specs.Rows.{PageView, page_view}
use Rattle.page_watching.specs.declared.places.Place.{Place}
use Rattle.page_watching.specs.declared.watching.Seen.{Seen}
use Rattle.status_serving.specs.declared.headings.Heading.{Heading}
use Rattle.desk_guard.specs.declared.guard.Guard.{Guard}
use Rattle.desk_guard.specs.Token.{token_of}
use Rattle.desk_view.specs.declared.page.ShownAt.{ShownAt}
use Rattle.desk_view.specs.declared.page.DeskPage.{DeskPage}
use Rattle.status_view.specs.Filling.{html_bytes}
use Rattle.desk_view.specs.Page.{shows, page_parts}
use Rattle.statusdesk.specs.Kept.{IsKeptOf, IsNotKept}
use Rattle.statusdesk.specs.Notes.{note_view}
use Rattle.statusdesk.specs.declared.objects.Known.{Known}
use Rattle.statusdesk.specs.declared.posts.Post.{Post}
use Rattle.statusdesk.specs.declared.service.Desk.{Desk}

-- what the answers depend on
pub record DeskView : Type 0 where
  pub heading : Heading
  pub places : List Place
  pub ports : List Place
  pub guard : Guard

abbrev pub place_of : Post → Place
place_of post = post.place

abbrev pub desk_view : {R : Type 0} → Desk R → DeskView
desk_view desk = record {
  heading = desk.site.heading;
  places = desk.site.watch.now.places.now;
  ports = map place_of desk.posts.now;
  guard = desk.guard.now;
}

-- ---- what the gateways show of an object

-- the name of a gateway, and its page
abbrev pub at_view : ShownAt → List ℕ × PageView
at_view shown = (shown.name.now, page_view shown.page.now)

abbrev pub known_view : Known → List ℕ × PageView
known_view known = (known.name.now, page_view known.page)

-- no page is kept of a gateway, or one that doesn't show the object
abbrev pub IsUnknown : List ℕ → List ℕ → Seen → Type 0
IsUnknown host service seen =
    IsNotKept seen ⊎ ((page : PageView) × IsKeptOf seen page × (shows host service page.objects ≡ false))

-- the page that is kept of a gateway and shows the object, if one is
abbrev pub IsKnownAt : List ℕ → List ℕ → Seen → List (List ℕ × PageView) → Type 0
IsKnownAt host service seen [] = IsUnknown host service seen
IsKnownAt host service seen (known ∷ []) =
    (known.0 ≡ seen.place.name.now) × IsKeptOf seen known.1 × (shows host service known.1.objects ≡ true)
IsKnownAt host service seen more = ⊥

-- the same of each of these gateways, in their order
abbrev pub AreKnown : List ℕ → List ℕ → List Seen → List (List ℕ × PageView) → Type 0
AreKnown host service [] known = known ≡ []
AreKnown host service (seen ∷ gateways) known =
    (first : List (List ℕ × PageView)) × (rest : List (List ℕ × PageView)) × IsKnownAt host service seen first
    × AreKnown host service gateways rest × (known ≡ first ++ rest)

-- the page of an object for a user: what is kept of these gateways of it, with a token of this clock's hour and these notes;
-- a browser loads it again, or it doesn't
pub record IsObjectPage (desk : DeskView) (clock : ℕ) (seen : List Seen) (user host service : List ℕ)
    (notes : List (List ℕ × List ℕ × Bool)) (again : Bool) (body : List ℕ)
    : Type 0 where
  pub page : DeskPage
  pub title_is : page.title.now ≡ desk.heading.title.now
  pub user_is : page.user.now ≡ user
  pub token : page.of.token.now ≡ token_of desk.guard.key user (clock / 3600)
  pub host_is : page.of.host.now ≡ host
  pub service_is : page.of.service.now ≡ service
  pub notes_are : map note_view page.notes.now ≡ notes
  pub again_is : page.again ≡ again
  pub shown : AreKnown host service seen (map at_view page.gateways.now)
  pub body_is : body ≡ html_bytes (page_parts page)
