use Rattle.std.proofs.Common.{◌≡◌, List, ◌++◌, ℕ, map, ap, sym, subst, refl, ◌∙◌, append-nil}
use Rattle.std.proofs.lemmas.List.{drop_all}
use Rattle.status_reading.specs.Rows.{PageView}
use Rattle.desk_view.specs.declared.page.DeskPage.{DeskPage}
use Rattle.statusdesk.specs.declared.objects.Known.{Known}
use Rattle.statusdesk.specs.Objects.{at_view, known_view, AreKnown}
use Rattle.statusdesk.proofs.objects.object_body.Goals as goal

pub returns : goal.returns
returns g c = λ seen are.
    let page : DeskPage = record {
      title = c.args.desk.now.site.heading.title;
      user = c.args.user;
      of = record {
        token = c.as_str.result;
        page = c.fetch_add.result;
        host = c.args.named.host;
        service = c.args.named.service;
      };
      again = c.args.again;
      notes = c.args.notes;
      gateways = c.as_slice.result;
    } in
    let all : map at_view c.loop-one.gateways.items ≡ map known_view c.args.known.now =
    sym (append-nil (map at_view c.loop-one.gateways.items))
    ∙ ap (λ (left : List Known). map at_view c.loop-one.gateways.items ++ map known_view left)
    (sym (drop_all c.loop-one.one-index c.args.known.now c.loop-one-test.false))
    ∙ c.loop-one.invariant in
    record {
      page = page;
      title_is = refl;
      user_is = refl;
      token = c.as_str.ensures.value ∙ c.in_ok-token.ensures;
      host_is = refl;
      service_is = refl;
      notes_are = refl;
      again_is = refl;
      shown = subst (λ (known : List (List ℕ × PageView)). AreKnown c.args.named.host.now c.args.named.service.now seen known)
          (sym (ap (map at_view) c.as_slice.ensures.value ∙ all)) are;
      body_is = c.into_bytes.ensures ∙ c.in_ok-desk_page.ensures;
    }
