use Rattle.std.proofs.Common.{◌++◌, ◌∙◌}
use Rattle.status_reading.specs.Rows.{object_view}
use Rattle.status_view.specs.Links.{object_link}
use Rattle.desk_view.specs.Marks.{box_parts, shown_parts, link_parts}
use Rattle.desk_view.proofs.PutSteps.{joined, last}
use Rattle.desk_view.proofs.marks.put_row.Goals as goal

pub returns : goal.returns
returns c =
    let row = object_view c.args.row.now in
    let html = c.args.html.now in
    let box = box_parts c.args.index row in
    let link = c.as_bytes.ensures.value ∙ c.in_ok-link.ensures.link in
    let second = joined html c.put_box.new.html c.put_shown.new.html box (shown_parts row) c.in_ok-put_box.ensures c.in_ok-put_shown.ensures in
    last c.put_link.result html c.put_shown.new.html c.put_link.new.html (box ++ shown_parts row)
    (link_parts (object_link row.host row.service)) second (rw link at c.put_link.ensures)
