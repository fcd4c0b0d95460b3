use Rattle.std.proofs.Common.{ℕ, List, ap, sym, ◌∙◌, append-nil}
use Rattle.http.specs.FieldValue.{FieldValue}
use Rattle.http_server.specs.Response.{fields_of}
use Rattle.web_connections.proofs.FieldSteps.{five, named, valued, on_ok}
use Rattle.web_connections.proofs.answers.add_guards.Goals as goal

pub returns : goal.returns
returns c =
    let bytes : FieldValue → List ℕ = λ value. value.bytes in
    on_ok c.add_header-5.result
    (λ last. record {
      headers = five (fields_of c.args.response.now) (fields_of c.add_header.new.self) (fields_of c.add_header-2.new.self)
          (fields_of c.add_header-3.new.self) (fields_of c.add_header-4.new.self) (fields_of c.add_header-5.new.self) _ _ _ _ _ _ _ _ _ _
          (valued _ _ _ _ _ c.in_ok-add_header.ensures.headers (ap bytes c.from_static-policy.ensures))
          (valued _ _ _ _ _ c.in_ok-add_header-2.ensures.headers (ap bytes c.from_static.ensures))
          (valued _ _ _ _ _ c.in_ok-add_header-3.ensures.headers (ap bytes c.from_static-2.ensures))
          (named _ _ _ _ _ (valued _ _ _ _ _ c.in_ok-add_header-4.ensures.headers (ap bytes c.from_static-3.ensures))
          c.from_static-name.ensures)
          (valued _ _ _ _ _ last (ap bytes c.from_static-4.ensures));
      body = rw (
        c.add_header-5.ensures.body,
        c.add_header-4.ensures.body,
        c.add_header-3.ensures.body,
        c.add_header-2.ensures.body,
        c.add_header.ensures.body,
      ) (sym (append-nil c.args.response.now.body.items));
      status = c.add_header-5.ensures.status ∙ c.add_header-4.ensures.status ∙ c.add_header-3.ensures.status
          ∙ c.add_header-2.ensures.status ∙ c.add_header.ensures.status;
    })
    c.add_header-5.ensures.headers
