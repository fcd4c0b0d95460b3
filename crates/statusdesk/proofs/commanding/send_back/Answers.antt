use Rattle.std.proofs.Common.{◌≡◌, ℕ, List, ap, rules, subst, ◌∙◌}
use Rattle.http.specs.Request.{body_of}
use Rattle.status_view.specs.Links.{object_link}
use Rattle.web_connections.proofs.FieldSteps.{on_ok}
use Rattle.desk_forms.specs.Fields.{fields_of}
use Rattle.desk_outbox.specs.Labels.{host_in, service_in}
use Rattle.statusdesk.specs.Responses.{IsSentTo}
use Rattle.statusdesk.proofs.commanding.send_back.Goals as goal

pub returns : goal.returns
returns c =
    let fields = fields_of (body_of c.args.request.now) in
    let named = c.named_in-named.result in
    let body : c.as_slice.result.now ≡ body_of c.args.request.now = search rules in
    let known : c.as_slice-2.result.now ≡ fields =
    c.as_slice-2.ensures.value ∙ c.in-Ok.ensures.fields ∙ ap fields_of body in
    let host : named.host.now ≡ host_in fields = c.named_in-named.ensures.host ∙ ap host_in known in
    let service : named.service.now ≡ service_in fields = c.named_in-named.ensures.service ∙ ap service_in known in
    let written : c.as_bytes.result.now ≡ object_link named.host.now named.service.now =
    c.as_bytes.ensures.value ∙ c.in_ok-location.ensures.link in
    let same : c.as_bytes.result.now ≡ object_link (host_in fields) (service_in fields) =
    written ∙ ap (λ (host : List ℕ). object_link host named.service.now) host
    ∙ ap (λ (service : List ℕ). object_link (host_in fields) service) service in
    on_ok c.send_to.result (subst (λ (location : List ℕ). IsSentTo location c.send_to.new.response) same) c.send_to.ensures
