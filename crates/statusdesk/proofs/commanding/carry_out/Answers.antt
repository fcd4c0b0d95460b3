use Rattle.std.proofs.Common.{◌≡◌, true, rules}
use Rattle.status_reading.specs.Rows.{page_view}
use Rattle.desk_sending.specs.Orders.{is_asked}
use Rattle.statusdesk.specs.Kept.{IsKeptOf}
use Rattle.statusdesk.proofs.CommandSteps.{objected_done, posted_done}
use Rattle.statusdesk.proofs.commanding.carry_out.Goals as goal

pub returns-in-Ok-clause-done : goal.returns-in-Ok-clause-done
returns-in-Ok-clause-done g c =
    let seen = c.args.at.now in
    let page = page_view c.in-Some.known.now.page in
    let asked : is_asked seen.place.name.now c.args.form.now.fields ≡ true = search rules in
    let kept : IsKeptOf seen page = c.in-Some.ensures in
    posted_done c.args.now c.args.form.now seen page asked kept c.in-Ok.order c.post_order.result c.in-Ok.ensures.order
    (rw c.name-in-Ok.ensures at c.post_order.ensures.done)

pub returns-in-Err-clause-done : goal.returns-in-Err-clause-done
returns-in-Err-clause-done g c =
    let seen = c.args.at.now in
    let page = page_view c.in-Some.known.now.page in
    let asked : is_asked seen.place.name.now c.args.form.now.fields ≡ true = search rules in
    let kept : IsKeptOf seen page = c.in-Some.ensures in
    rw c.objected.ensures.done (objected_done c.args.now c.args.form.now seen page asked kept c.in-Err.objection c.in-Err.ensures.refused)
