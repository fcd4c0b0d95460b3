use Rattle.std.proofs.Common.{◌≡◌, Bool, Option, Some, rules, subst}
use Rattle.http.specs.Request.{head_of}
use Rattle.web_connections.proofs.FieldSteps.{on_ok}
use Rattle.statusdesk.specs.Objects.{desk_view}
use Rattle.status_serving.specs.Methods.{body_asked}
use Rattle.statusdesk.specs.Service.{IsMethodAnswer}
use Rattle.statusdesk.proofs.service.answer_method.Goals as goal

pub returns-in-Some : goal.returns-in-Some
returns-in-Some g c =
    let same : Some c.in-Some.whole ≡ body_asked (head_of c.args.request.now).method = search rules in
    on_ok c.send_path.result
    (subst
    (λ (asked : Option Bool). IsMethodAnswer asked (desk_view c.args.desk.now) c.args.now c.args.request.now c.send_path.new.response)
    same)
    c.send_path.ensures
