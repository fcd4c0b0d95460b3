use Rattle.std.proofs.Common.{rules, Ok, Err}
use Rattle.web_connections.proofs.FieldSteps.{on_ok}
use Rattle.statusdesk.specs.Objects.{desk_view}
use Rattle.statusdesk.proofs.MarkSteps.{answered}
use Rattle.statusdesk.proofs.marking.answer_commands.Goals as goal

pub returns-in-Ok : goal.returns-in-Ok
returns-in-Ok g c =
    on_ok c.command_marks.result
    (λ is. answered (desk_view c.args.desk.now) c.args.now c.args.request.now c.unwrap_or-query.result.now (Ok c.in-Ok.form)
    c.command_marks.new.intake c.command_marks.new.response (search rules) c.in-Ok.ensures is)
    c.command_marks.ensures

pub returns-in-Err : goal.returns-in-Err
returns-in-Err g c =
    on_ok c.refuse_marks.result
    (λ is. answered (desk_view c.args.desk.now) c.args.now c.args.request.now c.unwrap_or-query.result.now (Err c.in-Err.fault)
    c.args.intake.now c.refuse_marks.new.response (search rules) c.in-Err.ensures (c.requires.empty, is))
    c.refuse_marks.ensures
