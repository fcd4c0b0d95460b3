use Rattle.std.proofs.Common.{List, [], ◌∷◌, ◌++◌, codes}
use Rattle.desk_view.specs.declared.fields.TheConstants.{ACKNOWLEDGE, UNACKNOWLEDGE, COMMENT, DOWNTIME, PASSIVE}
use Rattle.desk_view.specs.Parts.{PartView}
use Rattle.status_view.specs.Layout.{Markup}
use Rattle.desk_view.specs.Forms.{form}
use Rattle.desk_view.proofs.PutSteps.{joined, last}
use Rattle.desk_view.proofs.page.put_forms.Goals as goal

pub returns : goal.returns
returns c =
    let html = c.args.html.now in
    let one = form c.args.of (codes "acknowledge") ACKNOWLEDGE.now in
    let two = form c.args.of (codes "unacknowledge") UNACKNOWLEDGE.now in
    let three = form c.args.of (codes "comment") COMMENT.now in
    let four = form c.args.of (codes "downtime") DOWNTIME.now in
    let five = form c.args.of (codes "passive") PASSIVE.now in
    let close : List PartView = Markup (codes "</main></body></html>\n") ∷ [] in
    let second = joined html c.put_form.new.html c.put_form-2.new.html one two c.in_ok-put_form.ensures c.in_ok-put_form-2.ensures in
    let third = joined html c.put_form-2.new.html c.put_form-3.new.html (one ++ two) three second c.in_ok-put_form-3.ensures in
    let fourth = joined html c.put_form-3.new.html c.put_form-4.new.html (one ++ two ++ three) four third c.in_ok-put_form-4.ensures in
    let fifth = joined html c.put_form-4.new.html c.put_form-5.new.html (one ++ two ++ three ++ four) five fourth c.in_ok-put_form-5.ensures in
    last c.put.result html c.put_form-5.new.html c.put.new.html (one ++ two ++ three ++ four ++ five) close fifth c.put.ensures
