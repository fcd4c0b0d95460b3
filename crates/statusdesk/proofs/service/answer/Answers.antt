use Rattle.std.proofs.Common.{ℕ, Bool, List, Bor, codes, ap, sym, subst, ◌∙◌}
use Rattle.http.specs.Request.{head_of}
use Rattle.http_header.specs.HeaderMap.{get}
use Rattle.web_connections.specs.Hosts.{answers_host}
use Rattle.web_connections.proofs.FieldSteps.{on_ok}
use Rattle.statusdesk.specs.Objects.{desk_view}
use Rattle.statusdesk.specs.Service.{IsAnswerAt}
use Rattle.statusdesk.proofs.service.answer.Goals as goal

pub returns-then-answers_host : goal.returns-then-answers_host
returns-then-answers_host g c =
    let host = get (head_of c.args.request.now).headers (codes "host") in
    let served = ap (λ (hosts : List (Bor (List ℕ))). answers_host hosts host) c.as_slice.ensures.value in
    on_ok c.answer_path.result
    (subst
    (λ (here : Bool). IsAnswerAt here (desk_view c.args.desk.now) c.args.now c.args.request.now c.answer_path.new.intake
    c.answer_path.new.response)
    (sym c.if-answers_host.true ∙ c.answers_host.ensures ∙ served))
    c.answer_path.ensures

pub returns-else-answers_host : goal.returns-else-answers_host
returns-else-answers_host g c =
    let host = get (head_of c.args.request.now).headers (codes "host") in
    let served = ap (λ (hosts : List (Bor (List ℕ))). answers_host hosts host) c.as_slice.ensures.value in
    on_ok c.refuse.result
    (λ is. subst
    (λ (here : Bool). IsAnswerAt here (desk_view c.args.desk.now) c.args.now c.args.request.now c.args.intake.now c.refuse.new.response)
    (sym c.if-answers_host.false ∙ c.answers_host.ensures ∙ served) (c.requires.empty, is))
    c.refuse.ensures
