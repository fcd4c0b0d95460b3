use Rattle.std.proofs.Common.{refl, sym, subst, ◌∙◌}
use Rattle.status_view.specs.declared.one_object.ObjectAsked.{ObjectAsked}
use Rattle.status_view.specs.OneObject.{IsObjectPage}
use Rattle.status_serving.proofs.naming.object_text.Goals as goal

pub returns : goal.returns
returns c =
    let asked : ObjectAsked = record {
      title = c.args.heading.now.title;
      clock = c.args.clock;
      refresh = c.args.heading.now.refresh;
      host = c.as_slice.result;
      service = c.as_slice-2.result;
      gateway = c.as_slice-3.result;
      gateways = c.args.gateways;
      changes = c.args.changes;
    } in (
      asked,
      record {
        title = refl;
        clock = refl;
        refresh = refl;
        host = c.as_slice.ensures.value ∙ c.in_ok-name.ensures.host;
        service = c.as_slice-2.ensures.value ∙ c.in_ok-name.ensures.service;
        gateway = c.as_slice-3.ensures.value ∙ c.in_ok-name.ensures.gateway;
        pages = refl;
        kept = refl;
      },
      subst (IsObjectPage asked) (sym c.into_bytes.ensures) c.in_ok-object_page.ensures,
    )
