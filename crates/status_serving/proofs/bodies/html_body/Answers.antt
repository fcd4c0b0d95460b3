use Rattle.std.proofs.Common.{ℕ, [], length, ap, map, filter, refl, ◌∙◌}
use Rattle.status_merge.specs.Asking.{Asked}
use Rattle.status_merge.specs.Entries.{comment_view, comment_lines, is_comment_among, downtime_view, downtime_lines, is_downtime_among}
use Rattle.status_merge.specs.Selecting.{page_rows}
use Rattle.status_view.specs.declared.view.View.{View}
use Rattle.status_serving.proofs.BodySteps.{selected_as, in_order_as, page_of}
use Rattle.status_serving.proofs.bodies.html_body.Goals as goal

pub returns : goal.returns
returns c =
    let asked = c.in_ok-query.ensures in
    let gateways = c.args.gateways.now in
    let chosen = c.in_ok-rows.ensures
    ∙ selected_as _ _ _ _ asked.asked (c.as_slice.ensures.value ∙ c.in_ok-all.ensures.merged) in
    let view : View = record {
      title = c.args.heading.now.title;
      clock = c.args.clock;
      refresh = c.args.heading.now.refresh;
      marks = c.args.heading.now.marks;
      query = record { ref_ptr = (0, 0); now = c.in_ok-query.query };
      gateways = c.args.gateways;
      all = c.as_slice-3.result;
      selected = c.len-selected.result;
      objects = c.page_rows-objects.result;
      comments = c.as_slice-4.result;
      downtimes = c.as_slice-5.result;
      changes = record { ref_ptr = (0, 0); now = [] };
    } in
    page_of _ _ _ _ _ view (record {
      title = refl;
      clock = refl;
      refresh = refl;
      marks = refl;
      asked = asked.asked;
      sort = asked.sort;
      page = asked.page;
      seconds = asked.refresh;
      form = asked.form;
      pages = refl;
      all = c.as_slice-3.ensures.value ∙ c.in_ok-all.ensures.merged;
      selected = c.len-selected.ensures ∙ c.in_ok-rows.rows.ok.0 ∙ ap length chosen;
      rows = c.sort_rows.new.rows.items;
      in_order = in_order_as _ _ _ _ _ asked.sort chosen c.in_ok-sort_rows.ensures;
      objects = c.page_rows-objects.ensures
          ∙ ap (λ (page : ℕ). page_rows page c.as_slice-2.result.now) asked.page
          ∙ ap (page_rows _) c.as_slice-2.ensures.value;
      comments = ap (map comment_view) c.as_slice-4.ensures.value ∙ c.in_ok-retain_comments.ensures
          ∙ ap (filter (is_comment_among c.page_rows-objects.result.now)) (c.in_ok-comments.ensures
          ∙ ap (λ (wanted : Asked). comment_lines wanted gateways) asked.asked);
      downtimes = ap (map downtime_view) c.as_slice-5.ensures.value ∙ c.in_ok-retain_downtimes.ensures
          ∙ ap (filter (is_downtime_among c.page_rows-objects.result.now)) (c.in_ok-downtimes.ensures
          ∙ ap (λ (wanted : Asked). downtime_lines wanted gateways) asked.asked);
    }) (c.into_bytes.ensures ∙ c.in_ok-html_page.ensures.page)
