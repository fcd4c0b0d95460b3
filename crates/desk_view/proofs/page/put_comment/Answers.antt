use Rattle.std.proofs.Common.{codes}
use Rattle.desk_view.specs.Forms.{entry_form}
use Rattle.desk_view.specs.Page.{said_parts}
use Rattle.desk_view.proofs.PutSteps.{last}
use Rattle.desk_view.proofs.page.put_comment.Goals as goal

pub returns : goal.returns
returns c =
    let row = c.args.row.now in
    last c.put_entry_form.result c.args.html.now c.put_said.new.html c.put_entry_form.new.html
    (said_parts row.author.now row.text.now)
    (entry_form c.args.of (codes "uncomment") c.args.gateway.now row.id (codes "Delete comment"))
    c.in_ok-put_said.ensures c.put_entry_form.ensures
