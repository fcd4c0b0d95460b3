use Rattle.std.proofs.Common.{◌++◌}
use Rattle.status_reading.specs.Rows.{object_view}
use Rattle.desk_view.specs.Page.{named_parts, depth_parts, age_parts, output_parts}
use Rattle.desk_view.proofs.PutSteps.{joined, last}
use Rattle.desk_view.proofs.states.put_state.Goals as goal

pub returns : goal.returns
returns c =
    let html = c.args.html.now in
    let row = object_view c.args.row.now in
    let named = named_parts c.args.gateway.now row in
    let depth = depth_parts row.depth in
    let age = age_parts c.args.moment row.last in
    let second = joined html c.put_named.new.html c.put_depth.new.html named depth c.in_ok-put_named.ensures
    c.in_ok-put_depth.ensures in
    let third = joined html c.put_depth.new.html c.put_age.new.html (named ++ depth) age second c.in_ok-put_age.ensures in
    last c.put_output.result html c.put_age.new.html c.put_output.new.html (named ++ depth ++ age) (output_parts row.output)
    third c.put_output.ensures
