use Rattle.std.proofs.Common.{◌≡◌, false, List, ℕ, ap, map, filter, refl, ◌∙◌, Result, Ok, Err, IfOk}
use Rattle.status_merge.specs.Asking.{Asked}
use Rattle.status_merge.specs.Entries.{comment_view, comment_lines, downtime_view, downtime_lines}
use Rattle.status_view.specs.declared.view.View.{View}
use Rattle.status_view.specs.declared.one_object.ObjectAsked.{ObjectAsked}
use Rattle.status_view.specs.Shapes.{page_shape}
use Rattle.status_view.specs.ChangesLayout.{change_shape}
use Rattle.status_view.specs.Filling.{filled, html_bytes}
use Rattle.status_view.specs.OneObject.{is_comment_on, is_downtime_of, ShowsObject, object_page_nodes, IsObjectPage}
use Rattle.status_view.proofs.one_object.object_page.Goals as goal

if_ok : {T E : Type 0} {P Q : T → Type 0} (result : Result T E) → ((value : T) → P value → Q value) → IfOk result P → IfOk result Q
if_ok (Ok value) step known = step value known
if_ok (Err error) step known = tt

page_of : (asked : ObjectAsked) (html : List ℕ) (view : View) → ShowsObject asked view
    → html ≡ html_bytes (filled view (object_page_nodes (page_shape view) (map change_shape view.changes.now)))
    → IsObjectPage asked html
page_of asked html view shows page = (view, shows, page)

pub returns : goal.returns
returns c =
    let asked = c.args.asked.now in
    let every = c.new-query.ensures.asked in
    let view : View = record {
      title = asked.title;
      clock = asked.clock;
      refresh = asked.refresh;
      marks = false;
      query = record { ref_ptr = (0, 0); now = c.new-query.result };
      gateways = asked.gateways;
      all = c.as_slice.result;
      selected = c.len.result;
      objects = c.as_slice-2.result;
      comments = c.as_slice-3.result;
      downtimes = c.as_slice-4.result;
      changes = c.as_slice-5.result;
    } in
    if_ok c.view_page.result
    (λ html page. page_of asked html view (record {
      title = refl;
      clock = refl;
      seconds = c.new-query.ensures.refresh;
      pages = refl;
      objects = c.as_slice-2.ensures.value ∙ c.in_ok-rows.ensures;
      comments = ap (map comment_view) c.as_slice-3.ensures.value ∙ c.retain_comments.ensures
          ∙ ap (filter (is_comment_on asked)) (c.in_ok-comments.ensures ∙ ap (λ (wanted : Asked). comment_lines wanted asked.gateways.now) every);
      downtimes = ap (map downtime_view) c.as_slice-4.ensures.value ∙ c.retain_downtimes.ensures
          ∙ ap (filter (is_downtime_of asked)) (c.in_ok-downtimes.ensures ∙ ap (λ (wanted : Asked). downtime_lines wanted asked.gateways.now) every);
      changes = c.as_slice-5.ensures.value ∙ c.in_ok-changes.ensures;
    }) page)
    c.view_page.ensures
