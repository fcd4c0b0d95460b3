use Rattle.std.proofs.Common.{List, [], ◌∷◌, ◌++◌, map, codes}
use Rattle.status_reading.specs.Rows.{object_view, comment_view, downtime_view}
use Rattle.desk_view.specs.Parts.{PartView}
use Rattle.status_view.specs.Layout.{Markup}
use Rattle.desk_view.specs.Page.{states_parts, comments_parts, downtimes_parts}
use Rattle.desk_view.proofs.PutSteps.{joined, last}
use Rattle.desk_view.proofs.page.put_gateway.Goals as goal

pub returns : goal.returns
returns c =
    let html = c.args.html.now in
    let name = c.args.shown.name.now in
    let page = c.args.shown.page.now in
    let states = states_parts c.args.of name page.moment (map object_view page.objects.items) in
    let start : List PartView = Markup (codes "<ul>\n") ∷ [] in
    let comments = comments_parts c.args.of name (map comment_view page.comments.items) in
    let downtimes = downtimes_parts c.args.of name (map downtime_view page.downtimes.items) in
    let close : List PartView = Markup (codes "</ul>\n") ∷ [] in
    let first = rw c.as_slice.ensures.value at c.in_ok-put_states.ensures in
    let second = joined html c.put_states.new.html c.put.new.html states start first c.in_ok-put.ensures in
    let third = joined html c.put.new.html c.put_comments.new.html (states ++ start) comments second
    (rw c.as_slice-2.ensures.value at c.in_ok-put_comments.ensures) in
    let fourth = joined html c.put_comments.new.html c.put_downtimes.new.html (states ++ start ++ comments) downtimes third
    (rw c.as_slice-3.ensures.value at c.in_ok-put_downtimes.ensures) in
    last c.put-2.result html c.put_downtimes.new.html c.put-2.new.html (states ++ start ++ comments ++ downtimes) close fourth
    c.put-2.ensures
