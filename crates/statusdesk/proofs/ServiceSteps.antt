-- To which request an answer is.
use Rattle.std.proofs.Common.{◌≡◌, ℕ, Bool, List, [], Option, Some, unwrap_or, subst}
use Rattle.http.specs.declared.request.Request.{Request}
use Rattle.http.specs.Request.{head_of}
use Rattle.http.specs.Uri.{uri_path, uri_query}
use Rattle.http_server.specs.declared.response.Response.{Response}
use Rattle.statusdesk.specs.declared.service.Route.{Route}
use Rattle.statusdesk.specs.Objects.{DeskView}
use Rattle.statusdesk.specs.Service.{route_of, IsShownAt, IsMethodAnswer}

pub shown_at : (desk : DeskView) (clock : ℕ) (request : Request (List ℕ)) (query : List ℕ) (whole : Bool) (route : Option Route)
    (response : Response)
    → query ≡ unwrap_or (uri_query (head_of request).uri) [] → route ≡ route_of (uri_path (head_of request).uri)
    → IsShownAt desk clock request query whole route response → IsMethodAnswer (Some whole) desk clock request response
shown_at desk clock request query whole route response asked at shown =
    let there = subst (λ (query : List ℕ). IsShownAt desk clock request query whole route response) asked shown in
    subst
    (λ (route : Option Route). IsShownAt desk clock request (unwrap_or (uri_query (head_of request).uri) []) whole route response)
    at there
