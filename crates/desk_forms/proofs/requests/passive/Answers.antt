use Rattle.std.proofs.lemmas.Result.{err_from_is_err_and}
use Rattle.status_reading.specs.Rows.{page_view}
use Rattle.desk_forms.specs.Requests.{object_on}
use Rattle.desk_forms.proofs.RequestSteps.{first_needs}
use Rattle.desk_forms.proofs.requests.passive.Goals as goal

pub returns-in_err-object-clause-refused : goal.returns-in_err-object-clause-refused
returns-in_err-object-clause-refused c =
    let objects = object_on (page_view c.args.page.now) c.args.fields.now in
    let p = err_from_is_err_and c.from_residual.result c.from_residual.ensures.1 in
    rw (p.1, p.2) (first_needs objects _ c.in_err-object.field-0.0 _ c.in_err-object.ensures.refused)
