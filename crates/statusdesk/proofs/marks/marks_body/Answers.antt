use Rattle.std.proofs.Common.{List, map, refl, ap, ◌∙◌}
use Rattle.status_merge.specs.declared.gateway.Gateway.{Gateway}
use Rattle.status_serving.specs.Pages.{asked_of}
use Rattle.desk_view.specs.declared.marks.MarksPage.{MarksPage}
use Rattle.statusdesk.specs.Marks.{row_of, filter_of}
use Rattle.statusdesk.proofs.marks.marks_body.Goals as goal

pub returns : goal.returns
returns g c =
    let page : MarksPage = record {
      title = c.args.desk.now.site.heading.title;
      user = c.args.user;
      token = c.as_str.result;
      page = c.fetch_add.result;
      query = c.filter_of.result;
      again = c.args.again;
      notes = c.args.notes;
      rows = c.as_slice-2.result;
    } in
    record {
      gateways = c.in_ok-gateways.gateways.items;
      page = page;
      shown = rw c.from.ensures at c.in_ok-gateways.ensures;
      title_is = refl;
      rows_are = c.as_slice-2.ensures.value ∙ c.in_ok-rows.ensures
          ∙ ap (λ (gateways : List Gateway). map row_of (asked_of gateways c.args.query.now)) c.as_slice.ensures.value;
      user_is = refl;
      token = c.as_str.ensures.value ∙ c.in_ok-token.ensures;
      query_is = c.filter_of.ensures ∙ ap filter_of c.as_bytes.ensures.value;
      notes_are = refl;
      again_is = refl;
      body_is = c.into_bytes.ensures ∙ c.in_ok-marks_page.ensures;
    }
