use Rattle.std.proofs.Common.{ℕ, List, subst, inl, inr}
use Rattle.web_connections.proofs.FieldSteps.{on_ok}
use Rattle.desk_forms.specs.Fields.{IsFaultOf}
use Rattle.statusdesk.specs.Responses.{IsRefusedWith}
use Rattle.statusdesk.proofs.service.send_marks.Goals as goal

pub returns-in-Err : goal.returns-in-Err
returns-in-Err g c =
    on_ok c.refuse_with.result
    (λ refused. inr (inl (
      c.in-Err.refusal,
      c.in-Err.ensures.refused,
      subst (λ (code : ℕ). IsRefusedWith code c.refuse_with.new.response) c.status.ensures refused,
    )))
    c.refuse_with.ensures

pub returns-in-Err-read_fields : goal.returns-in-Err-read_fields
returns-in-Err-read_fields g c =
    let fault = c.in-Err-read_fields.fault in
    let response = c.refuse_with-in-Err-read_fields.new.response in
    on_ok c.refuse_with-in-Err-read_fields.result
    (λ refused. inr (inr (
      fault,
      subst (λ (query : List ℕ). IsFaultOf query fault) c.as_bytes.ensures.value c.in-Err-read_fields.ensures.refused,
      subst (λ (code : ℕ). IsRefusedWith code response) c.status-in-Err-read_fields.ensures refused,
    )))
    c.refuse_with-in-Err-read_fields.ensures
