use Rattle.std.proofs.Common.{Bool, subst, rules, ◌≡◌, true, false}
use Rattle.http.specs.Request.{head_of}
use Rattle.http.specs.Uri.{uri_path}
use Rattle.web_connections.proofs.FieldSteps.{on_ok}
use Rattle.statusdesk.specs.Objects.{desk_view}
use Rattle.statusdesk.specs.Service.{is_commands, IsOtherAnswer}
use Rattle.statusdesk.proofs.service.answer_other.Goals as goal

pub returns-then-is_commands : goal.returns-then-is_commands
returns-then-is_commands g c =
    let same : true ≡ is_commands (uri_path (head_of c.args.request.now).uri) = search rules in
    on_ok c.answer_commands.result
    (subst
    (λ (here : Bool). IsOtherAnswer here (desk_view c.args.desk.now) c.args.now c.args.request.now c.answer_commands.new.intake
    c.answer_commands.new.response)
    same)
    c.answer_commands.ensures

pub returns-else-is_commands : goal.returns-else-is_commands
returns-else-is_commands g c =
    let same : false ≡ is_commands (uri_path (head_of c.args.request.now).uri) = search rules in
    on_ok c.answer_method.result
    (λ is. subst
    (λ (here : Bool). IsOtherAnswer here (desk_view c.args.desk.now) c.args.now c.args.request.now c.args.intake.now
    c.answer_method.new.response)
    same (c.requires.empty, is))
    c.answer_method.ensures
