use Rattle.std.proofs.Common.{◌≡◌, ℕ, List, [], ◌∷◌, ◌++◌, map, length, take, codes, ap, ◌∙◌}
use Rattle.std.specs.List.{flat_map}
use Rattle.status_reading.specs.Rows.{object_view}
use Rattle.desk_view.specs.Parts.{PartView}
use Rattle.status_view.specs.Layout.{Markup}
use Rattle.status_view.specs.Filling.{html_bytes}
use Rattle.desk_view.specs.Page.{note_parts}
use Rattle.desk_view.specs.Marks.{top_parts, form_parts, table_parts, rows_parts}
use Rattle.desk_view.proofs.PutSteps.{joined}
use Rattle.desk_view.proofs.marks.marks_page.Goals as goal

pub returns : goal.returns
returns c =
    let page = c.args.page in
    let one = top_parts page in
    let two = flat_map note_parts page.notes.now in
    let three = form_parts page in
    let four = table_parts (length (take 256 page.rows.now)) (length page.rows.now) in
    let five = rows_parts (map object_view (take 256 page.rows.now)) in
    let close : List PartView = Markup (codes "</tbody></table></form></main></body></html>\n") ∷ [] in
    let first : c.put_top.new.html ≡ [] ++ html_bytes one = c.in_ok-put_top.ensures ∙ ap (λ (html : List ℕ). html ++ html_bytes one) c.new-html.ensures in
    let second = joined [] c.put_top.new.html c.put_notes.new.html one two first c.in_ok-put_notes.ensures in
    let third = joined [] c.put_notes.new.html c.put_form.new.html (one ++ two) three second c.in_ok-put_form.ensures in
    let fourth = joined [] c.put_form.new.html c.put_table.new.html (one ++ two ++ three) four third
    (rw c.first_rows-shown.ensures at c.in_ok-put_table.ensures) in
    let fifth = joined [] c.put_table.new.html c.put_rows.new.html (one ++ two ++ three ++ four) five fourth
    (rw c.first_rows-shown.ensures at c.in_ok-put_rows.ensures) in
    joined [] c.put_rows.new.html c.put.new.html (one ++ two ++ three ++ four ++ five) close fifth c.in_ok-put.ensures
