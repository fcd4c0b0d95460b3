use Rattle.std.proofs.Common.{ℕ, List, [], ap, sym, refl, subst, append-nil}
use Rattle.http.specs.FieldValue.{FieldValue}
use Rattle.http_server.specs.Response.{fields_of}
use Rattle.web_connections.specs.Answers.{Extends, IsRefusal}
use Rattle.web_connections.proofs.FieldSteps.{valued}
use Rattle.statusdesk.specs.Responses.{allow_fields}
use Rattle.statusdesk.proofs.ResponseSteps.{none_allowed}
use Rattle.statusdesk.proofs.responses.refuse_with.Goals as goal

pub returns-in_ok-add_header : goal.returns-in_ok-add_header
returns-in_ok-add_header c =
    let bytes : FieldValue → List ℕ = λ value. value.bytes in
    let plain = c.refuse.new.response in (
      plain,
      subst (λ (code : ℕ). IsRefusal code [] plain) c.in-Ok.ensures.1 c.in_ok-refuse.ensures,
      subst (λ (code : ℕ). Extends (allow_fields code) [] plain c.add_header.new.self) (sym c.if-code-eq405.true) (record {
        headers = valued _ _ _ _ _ c.in_ok-add_header.ensures.headers (ap bytes c.from_static.ensures);
        body = rw c.add_header.ensures.body (sym (append-nil plain.body.items));
        status = c.add_header.ensures.status;
      }),
    )

pub returns-else-code-eq405 : goal.returns-else-code-eq405
returns-else-code-eq405 c =
    let plain = c.refuse.new.response in (
      plain,
      subst (λ (code : ℕ). IsRefusal code [] plain) c.in-Ok.ensures.1 c.in_ok-refuse.ensures,
      subst (λ fields. Extends fields [] plain plain) (none_allowed c.args.code c.if-code-eq405.false) (record {
        headers = sym (append-nil (fields_of plain));
        body = sym (append-nil plain.body.items);
        status = refl;
      }),
    )
