use Rattle.web_connections.proofs.FieldSteps.{on_ok}
use Rattle.statusdesk.proofs.service.DeskService.call.Goals as goal

pub returns-clause-ok : goal.returns-clause-ok
returns-clause-ok g c =
    on_ok c.add_date.result (λ dated. (c.clock-now.result, c.answer.new.intake, c.answer.new.response, c.in_ok-answer.ensures, dated))
    c.add_date.ensures
