use Rattle.std.proofs.Common.{◌≡◌, Bool, Option, Some, rules, subst}
use Rattle.http.specs.Request.{head_of}
use Rattle.status_serving.specs.Methods.{body_asked}
use Rattle.statusweb.specs.Service.{IsMethodAnswer}
use Rattle.web_connections.proofs.FieldSteps.{on_ok}
use Rattle.statusweb.proofs.service.answer_method.Goals as goal

pub returns-in-Some : goal.returns-in-Some
returns-in-Some g c =
    let heading = c.args.site.now.heading in
    let places = c.args.site.now.watch.now.places.now in
    let head = head_of c.args.request.now in
    let same : Some c.in-Some.whole ≡ body_asked (head_of c.args.request.now).method = search rules in
    on_ok c.send_path.result
    (λ answer. subst (λ (asked : Option Bool). IsMethodAnswer asked heading places c.args.now head c.send_path.new.response) same answer)
    c.send_path.ensures
