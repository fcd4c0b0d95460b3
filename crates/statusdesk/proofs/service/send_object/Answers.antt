use Rattle.std.proofs.Common.{◌≡◌, ℕ, List, [], map, ap, sym, subst, inl, inr, rules, ◌∙◌}
use Rattle.std.proofs.lemmas.Bool.{eqb-true}
use Rattle.std.proofs.lemmas.List.{nil_from_length}
use Rattle.web_connections.proofs.FieldSteps.{on_ok}
use Rattle.desk_forms.specs.Fields.{fields_of, IsFaultOf}
use Rattle.desk_outbox.specs.Labels.{host_in, service_in}
use Rattle.statusdesk.specs.Responses.{IsRefusedWith}
use Rattle.statusdesk.specs.Objects.{known_view}
use Rattle.statusdesk.proofs.service.send_object.Goals as goal

pub returns-in-Err : goal.returns-in-Err
returns-in-Err g c =
    on_ok c.refuse_with.result
    (λ refused. inr (inl (inl (
      c.in-Err.refusal,
      c.in-Err.ensures.refused,
      subst (λ (code : ℕ). IsRefusedWith code c.refuse_with.new.response) c.status.ensures refused,
    ))))
    c.refuse_with.ensures

pub returns-in-Err-read_fields : goal.returns-in-Err-read_fields
returns-in-Err-read_fields g c =
    let fault = c.in-Err-read_fields.fault in
    let response = c.refuse_with-in-Err-read_fields.new.response in
    on_ok c.refuse_with-in-Err-read_fields.result
    (λ refused. inr (inl (inr (
      fault,
      subst (λ (query : List ℕ). IsFaultOf query fault) c.as_bytes.ensures.value c.in-Err-read_fields.ensures.refused,
      subst (λ (code : ℕ). IsRefusedWith code response) c.status-in-Err-read_fields.ensures refused,
    ))))
    c.refuse_with-in-Err-read_fields.ensures

pub returns-then-is_empty : goal.returns-then-is_empty
returns-then-is_empty g c =
    let known = c.in_ok-known.known.items in
    let empty : c.in_ok-known.known.len ≡ 0 =
    eqb-true c.in_ok-known.known.len 0 (sym c.is_empty.ensures ∙ c.if-is_empty.true) in
    let none : map known_view known ≡ [] =
    ap (map known_view) (nil_from_length known (sym c.in_ok-known.known.ok.0 ∙ empty)) in
    let fields : c.as_slice.result.now ≡ fields_of c.args.query.now =
    c.as_slice.ensures.value ∙ c.in-Ok-read_fields.ensures.fields ∙ ap fields_of c.as_bytes.ensures.value in
    let host = c.named_in-named.ensures.host ∙ ap host_in fields in
    let service = c.named_in-named.ensures.service ∙ ap service_in fields in
    on_ok c.refuse.result
    (λ refused. inr (inr (c.as_slice-2.result.now, search rules, rw (host, service, none) at c.in_ok-known.ensures, refused)))
    c.refuse.ensures
