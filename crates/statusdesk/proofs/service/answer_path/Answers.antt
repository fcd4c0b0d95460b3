use Rattle.std.proofs.Common.{Bool, subst, rules, ◌≡◌, true, false}
use Rattle.http.specs.Request.{head_of}
use Rattle.http.specs.Uri.{uri_path}
use Rattle.web_connections.proofs.FieldSteps.{on_ok}
use Rattle.statusdesk.specs.Objects.{desk_view}
use Rattle.statusdesk.specs.Service.{is_command, IsPathAnswer}
use Rattle.statusdesk.proofs.service.answer_path.Goals as goal

pub returns-then-is_command : goal.returns-then-is_command
returns-then-is_command g c =
    let same : true ≡ is_command (uri_path (head_of c.args.request.now).uri) = search rules in
    on_ok c.answer_command.result
    (subst
    (λ (here : Bool). IsPathAnswer here (desk_view c.args.desk.now) c.args.now c.args.request.now c.answer_command.new.intake
    c.answer_command.new.response)
    same)
    c.answer_command.ensures

pub returns-else-is_command : goal.returns-else-is_command
returns-else-is_command g c =
    let same : false ≡ is_command (uri_path (head_of c.args.request.now).uri) = search rules in
    on_ok c.answer_other.result
    (subst
    (λ (here : Bool). IsPathAnswer here (desk_view c.args.desk.now) c.args.now c.args.request.now c.answer_other.new.intake
    c.answer_other.new.response)
    same)
    c.answer_other.ensures
