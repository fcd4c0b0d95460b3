use Rattle.std.proofs.Common.{◌≡◌, List, ◌++◌, ap, sym, ◌∙◌, append-nil}
use Rattle.std.proofs.lemmas.List.{at_drop_all}
use Rattle.std.specs.List.{flat_map}
use Rattle.desk_view.specs.declared.page.ShownAt.{ShownAt}
use Rattle.status_view.specs.Filling.{html_bytes}
use Rattle.desk_view.specs.Page.{head_parts, note_parts, gateway_parts, forms_parts}
use Rattle.desk_view.proofs.PutSteps.{bytes_more}
use Rattle.desk_view.proofs.page.desk_page.Goals as goal

pub returns : goal.returns
returns c =
    let page = c.args.page in
    let html = c.loop-shown.html in
    let head = head_parts page in
    let notes = flat_map note_parts page.notes.now in
    let all = flat_map (gateway_parts page.of) page.gateways.now in
    let ended = at_drop_all (λ (left : List ShownAt). html ++ html_bytes (flat_map (gateway_parts page.of) left)) page.gateways.now
    c.loop-shown.shown-index c.loop-shown-test.false in
    let body : html ≡ html_bytes (head ++ notes ++ all) =
    sym (append-nil html) ∙ sym ended ∙ c.loop-shown.invariant ∙ sym (bytes_more (head ++ notes) all) in
    c.in_ok-put_forms.ensures ∙ ap (λ bytes. bytes ++ html_bytes (forms_parts page.of)) body
    ∙ sym (bytes_more (head ++ notes ++ all) (forms_parts page.of))
