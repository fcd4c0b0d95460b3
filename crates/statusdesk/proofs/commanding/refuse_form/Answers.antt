use Rattle.std.proofs.Common.{ℕ, Bool, sym, subst, ◌∙◌}
use Rattle.http.specs.Request.{body_of}
use Rattle.web_connections.proofs.FieldSteps.{on_ok}
use Rattle.desk_forms.specs.Fields.{fields_of}
use Rattle.statusdesk.specs.Responses.{IsRefusedWith}
use Rattle.statusdesk.specs.Commanding.{link_of}
use Rattle.statusdesk.proofs.FaultSteps.{AnswerBy, fault_answer}
use Rattle.statusdesk.proofs.commanding.refuse_form.Goals as goal

pub returns-then-is_repeated : goal.returns-then-is_repeated
returns-then-is_repeated c =
    let page = link_of (fields_of (body_of c.args.request.now)) in
    let response = c.send_back.new.response in
    on_ok c.send_back.result
    (λ sent. fault_answer page c.args.fault response
    (subst (λ (repeated : Bool). AnswerBy repeated page c.args.fault response)
    (sym c.if-is_repeated.true ∙ c.is_repeated.ensures) sent))
    c.send_back.ensures

pub returns-else-is_repeated : goal.returns-else-is_repeated
returns-else-is_repeated c =
    let page = link_of (fields_of (body_of c.args.request.now)) in
    let response = c.refuse_with.new.response in
    on_ok c.refuse_with.result
    (λ refused. fault_answer page c.args.fault response
    (subst (λ (repeated : Bool). AnswerBy repeated page c.args.fault response)
    (sym c.if-is_repeated.false ∙ c.is_repeated.ensures)
    (subst (λ (code : ℕ). IsRefusedWith code response) c.status.ensures refused)))
    c.refuse_with.ensures
