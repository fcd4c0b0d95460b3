use Rattle.std.proofs.Common.{◌≡◌, ℕ, List, ◌++◌, map, ap, sym, subst, ◌∙◌}
use Rattle.web_connections.proofs.FieldSteps.{on_ok}
use Rattle.page_watching.specs.declared.watching.Seen.{Seen}
use Rattle.page_watching.specs.Watching.{seen_place}
use Rattle.desk_forms.specs.Marks.{marks_of}
use Rattle.statusdesk.specs.declared.commanding.Done.{Done}
use Rattle.statusdesk.specs.Posted.{PostedView}
use Rattle.statusdesk.specs.Taking.{all_posted}
use Rattle.statusdesk.specs.Objects.{desk_view}
use Rattle.statusdesk.specs.Marking.{AreMarked, dones_in}
use Rattle.statusdesk.proofs.MarkSteps.{texts_in, marked}
use Rattle.statusdesk.proofs.marking.command_marks.Goals as goal

pub returns : goal.returns
returns g c =
    let desk = desk_view c.args.desk.now in
    let form = c.args.form.now in
    let seen = c.as_slice-seen.result.now in
    let marks = texts_in c.as_slice-3.result.now in
    let all = dones_in c.as_slice-4.result.now in
    let first = dones_in c.in_ok-all.all.items in
    let at : map seen_place seen ≡ desk.places = ap (map seen_place) c.as_slice-seen.ensures.value ∙ c.in_ok-kept.ensures in
    let are : marks ≡ marks_of form.fields =
    ap texts_in c.as_slice-3.ensures.value ∙ c.in-Ok.ensures.marks ∙ ap marks_of c.fields.ensures in
    let pages : c.as_slice-2.result.now ≡ seen = c.as_slice-2.ensures.value ∙ c.in_ok-pages.ensures in
    let same : texts_in c.as_slice.result.now ≡ marks = ap texts_in (c.as_slice.ensures.value ∙ sym c.as_slice-3.ensures.value) in
    let dones : first ≡ all = ap dones_in (sym c.as_slice-4.ensures.value) in
    let each : AreMarked c.args.now form seen marks all =
    subst (λ (all : List (List Done)). AreMarked c.args.now form seen marks all) dones
    (subst (λ (marks : List (List ℕ)). AreMarked c.args.now form seen marks first) same
    (subst (λ (seen : List Seen). AreMarked c.args.now form seen (texts_in c.as_slice.result.now) first) pages
    c.in_ok-all.ensures.done)) in
    let taken : c.carry_out_marks.new.intake ≡ all_posted all =
    c.in_ok-all.ensures.taken ∙ ap (λ (front : List PostedView). front ++ all_posted first) c.requires.empty ∙ ap all_posted dones in
    on_ok c.report_marks.result (marked desk c.args.now form seen c.args.query.now marks all c.carry_out_marks.new.intake c.report_marks.new.response at are each taken)
    c.report_marks.ensures
