use Rattle.std.proofs.Common.{◌≡◌, ℕ, Bool, List, rules, sym, subst, ◌∙◌}
use Rattle.web_connections.proofs.FieldSteps.{on_ok}
use Rattle.statusdesk.specs.Responses.{IsRefusedWith, IsSentTo}
use Rattle.statusdesk.specs.Marks.{marks_link}
use Rattle.statusdesk.proofs.FaultSteps.{AnswerBy, fault_answer}
use Rattle.statusdesk.proofs.marking.refuse_marks.Goals as goal

pub returns-in_ok-location : goal.returns-in_ok-location
returns-in_ok-location c =
    let page = marks_link c.args.query.now in
    let response = c.send_to.new.response in
    let same : c.as_slice.result.now ≡ page = search rules in
    on_ok c.send_to.result
    (λ sent. fault_answer page c.args.fault response
    (subst (λ (repeated : Bool). AnswerBy repeated page c.args.fault response)
    (sym c.if-is_repeated.true ∙ c.is_repeated.ensures)
    (subst (λ (location : List ℕ). IsSentTo location response) same sent)))
    c.send_to.ensures

pub returns-else-is_repeated : goal.returns-else-is_repeated
returns-else-is_repeated c =
    let page = marks_link c.args.query.now in
    let response = c.refuse_with.new.response in
    on_ok c.refuse_with.result
    (λ refused. fault_answer page c.args.fault response
    (subst (λ (repeated : Bool). AnswerBy repeated page c.args.fault response)
    (sym c.if-is_repeated.false ∙ c.is_repeated.ensures)
    (subst (λ (code : ℕ). IsRefusedWith code response) c.status.ensures refused)))
    c.refuse_with.ensures
