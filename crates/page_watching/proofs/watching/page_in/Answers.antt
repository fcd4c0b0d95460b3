use Rattle.std.proofs.Common.{◌∙◌, ◌∷◌, ap, map, sym}
use Rattle.std.specs.Option.{option_map}
use Rattle.status_reading.specs.Rows.{page_view}
use Rattle.status_memory.specs.History.{change_view, result_view, shown_rows}
use Rattle.page_watching.specs.declared.watching.Contents.{Contents}
use Rattle.page_watching.proofs.watching.page_in.Goals as goal

pub returns-in-Ok-clause-history : goal.returns-in-Ok-clause-history
returns-in-Ok-clause-history c = λ before is.
    let page = page_view c.in_ok-page.page in
    let taken = c.in_ok-observe.ensures.taken before is in
    let other = c.is_other-is_other.ensures (page ∷ before) taken in
    let kept = c.in-Ok.ensures.ok in (
      page,
      (
        record {
          written = sym c.as_slice.ensures.value ∙ c.in_ok-page.ensures.written;
          readable = c.in_ok-page.ensures.page.0;
          sound = c.in_ok-page.ensures.page.1;
        },
        taken,
      ),
      record {
        shown = ap (λ (contents : Contents). shown_rows page.objects (map (option_map result_view) contents.held.items)) kept
            ∙ c.in_ok-held.ensures.held page before taken;
        since = ap (λ (contents : Contents). contents.since.items) kept ∙ c.in_ok-since.ensures.since page before taken;
        changes = ap (λ (contents : Contents). map change_view contents.changes.items) kept ∙ c.in_ok-changes.ensures ∙ taken.changes;
      },
      other,
    )
