use Rattle.std.proofs.Common.{ℕ, [], false, length, ap, map, refl, ◌∙◌}
use Rattle.form_urlencoded.specs.Form.{raw_pairs}
use Rattle.status_merge.specs.Asking.{Asked, asked_in}
use Rattle.status_merge.specs.Entries.{downtime_view, downtime_lines}
use Rattle.status_merge.specs.Selecting.{page_rows}
use Rattle.status_view.specs.declared.view.View.{View}
use Rattle.status_serving.proofs.BodySteps.{page_rows-map, length-view}
use Rattle.status_serving.proofs.bodies.downtimes_body.Goals as goal

pub returns : goal.returns
returns c =
    let asked = c.in_ok-query.ensures in
    let gateways = c.args.gateways.now in
    let lines = c.in_ok-lines.ensures ∙ ap (λ (wanted : Asked). downtime_lines wanted gateways) asked.asked in
    let view : View = record {
      title = c.args.heading.now.title;
      clock = c.args.clock;
      refresh = c.args.heading.now.refresh;
      marks = false;
      query = record { ref_ptr = (0, 0); now = c.in_ok-query.query };
      gateways = c.args.gateways;
      all = record { ref_ptr = (0, 0); now = [] };
      selected = c.len.result;
      objects = record { ref_ptr = (0, 0); now = [] };
      comments = record { ref_ptr = (0, 0); now = [] };
      downtimes = c.page_rows.result;
      changes = record { ref_ptr = (0, 0); now = [] };
    } in
    record {
      view = view;
      views = record {
        title = refl;
        clock = refl;
        asked = asked.asked;
        sort = asked.sort;
        page = asked.page;
        seconds = asked.refresh;
        pages = refl;
      };
      all = c.len.ensures ∙ c.in_ok-lines.lines.ok.0 ∙ length-view downtime_view c.in_ok-lines.lines.items ∙ ap length lines;
      rows = ap (map downtime_view) (c.page_rows.ensures ∙ ap (page_rows c.in_ok-query.query.page) c.as_slice.ensures.value)
          ∙ page_rows-map downtime_view c.in_ok-query.query.page c.in_ok-lines.lines.items
          ∙ ap (page_rows c.in_ok-query.query.page) lines
          ∙ ap (λ (page : ℕ). page_rows page (downtime_lines (asked_in (raw_pairs c.args.query.now)) gateways)) asked.page;
      bytes = c.into_bytes.ensures ∙ c.in_ok-entries_page.ensures;
    }
