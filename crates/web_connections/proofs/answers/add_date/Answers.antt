use Rattle.std.proofs.Common.{◌≡◌, ℕ, List, ap, sym, append-nil, ◌∙◌}
use Rattle.http.specs.FieldValue.{FieldValue}
use Rattle.httpdate.specs.Date.{date_text}
use Rattle.web_connections.proofs.FieldSteps.{valued, on_ok}
use Rattle.web_connections.proofs.answers.add_date.Goals as goal

pub returns : goal.returns
returns c =
    let bytes : FieldValue → List ℕ = λ value. value.bytes in
    let written : c.in-Ok-from_bytes.value.bytes ≡ date_text c.in-Ok.date =
    ap bytes c.in-Ok-from_bytes.ensures.ok ∙ c.to_bytes.ensures in
    on_ok c.add_header.result
    (λ added. record {
      date = c.in-Ok.date;
      moment = c.in-Ok.ensures.value ∙ c.from.ensures;
      field = record {
        headers = valued _ _ _ _ _ added written;
        body = rw c.add_header.ensures.body (sym (append-nil c.args.response.now.body.items));
        status = c.add_header.ensures.status;
      };
    })
    c.add_header.ensures.headers
