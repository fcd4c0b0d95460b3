use Rattle.std.proofs.Common.{◌≡◌, ℕ, List, ◌++◌, ap, refl}
use Rattle.http.specs.FieldValue.{FieldValue}
use Rattle.http.specs.StatusCode.{code_digits}
use Rattle.web_connections.specs.Answers.{advice_of}
use Rattle.web_connections.proofs.FieldSteps.{on_ok, extends_as}
use Rattle.web_connections.proofs.answers.fill_status.Goals as goal

pub returns : goal.returns
returns c =
    let bytes : FieldValue → List ℕ = λ value. value.bytes in
    let status = c.args.response.now.status in
    let text : c.extend_from_slice.new.self.items ≡ code_digits status ++ advice_of status =
    rw (
      c.in_ok-extend_from_slice.ensures.items,
      c.as_bytes-2.ensures.value,
      c.advice_of.ensures,
      c.in_ok-body.ensures.items,
      c.as_bytes.ensures.value,
      c.as_str.ensures,
    ) refl in
    on_ok c.fill.result
    (extends_as _ _ _ _ _ _ _ _ (ap bytes c.from_static.ensures) (ap bytes c.from_static-2.ensures) text)
    c.fill.ensures
