use Rattle.std.proofs.Common.{[], false, refl, ◌∙◌}
use Rattle.status_view.specs.declared.view.View.{View}
use Rattle.status_serving.proofs.changing.changes_text.Goals as goal

pub returns-in-Html : goal.returns-in-Html
returns-in-Html c =
    let view : View = record {
      title = c.args.heading.now.title;
      clock = c.args.clock;
      refresh = c.args.heading.now.refresh;
      marks = false;
      query = record { ref_ptr = (0, 0); now = c.new-query.result };
      gateways = c.args.gateways;
      all = record { ref_ptr = (0, 0); now = [] };
      selected = 0;
      objects = record { ref_ptr = (0, 0); now = [] };
      comments = record { ref_ptr = (0, 0); now = [] };
      downtimes = record { ref_ptr = (0, 0); now = [] };
      changes = c.args.changes;
    } in
    rw c.in-Html.is (
      view,
      record { title = refl; clock = refl; refresh = refl; pages = refl; changes = refl },
      c.into_bytes.ensures ∙ c.in_ok-changes_page-in-Html.ensures,
    )

pub returns-in-Feed : goal.returns-in-Feed
returns-in-Feed c =
    let view : View = record {
      title = c.args.heading.now.title;
      clock = c.args.clock;
      refresh = c.args.heading.now.refresh;
      marks = false;
      query = record { ref_ptr = (0, 0); now = c.new-query.result };
      gateways = c.args.gateways;
      all = record { ref_ptr = (0, 0); now = [] };
      selected = 0;
      objects = record { ref_ptr = (0, 0); now = [] };
      comments = record { ref_ptr = (0, 0); now = [] };
      downtimes = record { ref_ptr = (0, 0); now = [] };
      changes = c.args.changes;
    } in
    rw c.in-Feed.is (
      view,
      record { title = refl; clock = refl; refresh = refl; pages = refl; changes = refl },
      c.into_bytes-in-Feed.ensures ∙ c.in_ok-changes_feed-in-Feed.ensures,
    )
