-- To which request an answer is.
use Rattle.std.proofs.Common.{◌≡◌, ℕ, Bool, true, false, List, [], Bor, Option, Some, unwrap_or, codes, sym, subst, ◌∙◌}
use Rattle.http.specs.declared.request.Parts.{Parts}
use Rattle.http.specs.Uri.{uri_path, uri_query}
use Rattle.http_header.specs.HeaderMap.{get, get_all}
use Rattle.http_server.specs.declared.response.Response.{Response}
use Rattle.page_watching.specs.declared.places.Place.{Place}
use Rattle.web_connections.specs.Answers.{IsRefusal}
use Rattle.web_connections.specs.Hosts.{answers_host}
use Rattle.status_serving.specs.declared.headings.Heading.{Heading}
use Rattle.statusweb.specs.declared.service.Route.{Route}
use Rattle.status_serving.specs.Methods.{body_asked}
use Rattle.statusweb.specs.Service.{route_of, IsShownAt, IsMethodAnswer, IsAnswerAt}

pub shown_at : (heading : Heading) (places : List Place) (clock : ℕ) (head : Parts) (query : List ℕ) (whole : Bool) (route : Option Route)
    (response : Response)
    → query ≡ unwrap_or (uri_query head.uri) [] → route ≡ route_of (uri_path head.uri)
    → IsShownAt heading places clock query (get_all head.headers (codes "if-none-match")) whole route response
    → IsMethodAnswer (Some whole) heading places clock head response
shown_at heading places clock head query whole route response asked at shown =
    let known = get_all head.headers (codes "if-none-match") in
    let there = subst (λ (query : List ℕ). IsShownAt heading places clock query known whole route response) asked shown in
    subst (λ (route : Option Route). IsShownAt heading places clock (unwrap_or (uri_query head.uri) []) known whole route response) at there

abbrev Answers : Heading → List Place → ℕ → Parts → Response → Bool → Type 0
Answers heading places clock head response answers = elim answers [
  | true ↦ IsMethodAnswer (body_asked head.method) heading places clock head response
  | false ↦ IsRefusal 421 [] response
]

pub host_refused : (hosts : List (Bor (List ℕ))) (heading : Heading) (places : List Place) (clock : ℕ) (head : Parts) (response : Response) (answers : Bool)
    → answers ≡ answers_host hosts (get head.headers (codes "host")) → answers ≡ false
    → IsRefusal 421 [] response → IsAnswerAt hosts heading places clock head response
host_refused hosts heading places clock head response answers is other refused =
    subst (Answers heading places clock head response) (sym other ∙ is) refused

pub host_answered : (hosts : List (Bor (List ℕ))) (heading : Heading) (places : List Place) (clock : ℕ) (head : Parts) (response : Response) (answers : Bool)
    → answers ≡ answers_host hosts (get head.headers (codes "host")) → answers ≡ true
    → IsMethodAnswer (body_asked head.method) heading places clock head response → IsAnswerAt hosts heading places clock head response
host_answered hosts heading places clock head response answers is here answer =
    subst (Answers heading places clock head response) (sym here ∙ is) answer
