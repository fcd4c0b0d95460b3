use Rattle.std.proofs.Common.{[], ◌∷◌}
use Rattle.status_view.specs.Layout.{Markup}
use Rattle.desk_view.specs.Forms.{open_form}
use Rattle.desk_view.proofs.PutSteps.{last}
use Rattle.desk_view.proofs.forms.put_form.Goals as goal

pub returns : goal.returns
returns c =
    last c.put.result c.args.html.now c.open_form.new.html c.put.new.html (open_form c.args.of c.args.action.now)
    (Markup c.args.fields.now ∷ []) c.in_ok-open_form.ensures c.put.ensures
