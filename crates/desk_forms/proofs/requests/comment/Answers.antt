use Rattle.std.proofs.lemmas.Result.{err_from_is_err_and}
use Rattle.status_reading.specs.Rows.{page_view}
use Rattle.desk_forms.specs.Requests.{object_on}
use Rattle.desk_forms.proofs.RequestSteps.{first_needs, next_needs}
use Rattle.desk_forms.proofs.requests.comment.Goals as goal

pub returns-in_err-object-clause-refused : goal.returns-in_err-object-clause-refused
returns-in_err-object-clause-refused c =
    let objects = object_on (page_view c.args.page.now) c.args.fields.now in
    let p = err_from_is_err_and c.from_residual.result c.from_residual.ensures.1 in
    rw (p.1, p.2) (first_needs objects _ c.in_err-object.field-0.0 _ c.in_err-object.ensures.refused)

pub returns-in_err-remark-clause-refused : goal.returns-in_err-remark-clause-refused
returns-in_err-remark-clause-refused c =
    let objects = object_on (page_view c.args.page.now) c.args.fields.now in
    let p = err_from_is_err_and c.from_residual-in_err-remark.result c.from_residual-in_err-remark.ensures.1 in
    rw (p.1, p.2)
    (next_needs objects _ c.in_err-remark.field-0.0 _ c.in_ok-object.object c.in_ok-object.ensures.object
    c.in_err-remark.ensures.refused)
