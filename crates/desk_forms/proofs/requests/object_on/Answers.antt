use Rattle.std.proofs.Common.{sym, map}
use Rattle.status_reading.specs.Rows.{object_view}
use Rattle.desk_forms.specs.Requests.{is_row}
use Rattle.desk_forms.proofs.OfferSteps.{found_in}
use Rattle.desk_forms.proofs.requests.object_on.Goals as goal

pub returns-in_ok-object_of-in-Some-clause-shown :
    goal.returns-in_ok-object_of-in-Some-clause-shown
returns-in_ok-object_of-in-Some-clause-shown c =
    let found = sym (rw c.as_slice.ensures.value at c.in-Some.ensures) in (
      object_view c.in-Some.row,
      found_in (is_row c.value_or_empty-host.result.now c.value_or_empty-service.result.now)
          (map object_view c.args.page.now.objects.items)
          (object_view c.in-Some.row)
          found,
      c.in_ok-object_of-in-Some.ensures,
    )
