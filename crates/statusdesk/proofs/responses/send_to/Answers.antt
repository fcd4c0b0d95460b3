use Rattle.std.proofs.Common.{ℕ, List, ap, sym, append-nil}
use Rattle.http.specs.FieldValue.{FieldValue}
use Rattle.web_connections.proofs.FieldSteps.{valued, on_ok}
use Rattle.statusdesk.proofs.responses.send_to.Goals as goal

pub returns : goal.returns
returns c =
    let bytes : FieldValue → List ℕ = λ value. value.bytes in
    let plain = c.refuse.new.response in
    on_ok c.add_header.result
    (λ added. (
      plain,
      c.in_ok-refuse.ensures,
      record {
        headers = valued _ _ _ _ _ added (ap bytes c.in-Ok.ensures.ok);
        body = rw c.add_header.ensures.body (sym (append-nil plain.body.items));
        status = c.add_header.ensures.status;
      },
    ))
    c.add_header.ensures.headers
