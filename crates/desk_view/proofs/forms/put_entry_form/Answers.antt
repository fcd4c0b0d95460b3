use Rattle.desk_view.specs.Forms.{open_form, entry_fields}
use Rattle.desk_view.proofs.PutSteps.{last}
use Rattle.desk_view.proofs.forms.put_entry_form.Goals as goal

pub returns : goal.returns
returns c =
    last c.put_entry_fields.result c.args.html.now c.open_form.new.html c.put_entry_fields.new.html
    (open_form c.args.of c.args.action.now)
    (entry_fields c.args.gateway.now c.args.id c.args.button.now)
    c.in_ok-open_form.ensures c.put_entry_fields.ensures
