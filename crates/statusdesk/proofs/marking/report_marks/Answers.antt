use Rattle.std.proofs.Common.{◌≡◌, ℕ, List, Option, None, rules, ap, subst, ◌∙◌}
use Rattle.web_connections.proofs.FieldSteps.{on_ok}
use Rattle.statusdesk.specs.Responses.{IsSentTo}
use Rattle.statusdesk.specs.Objects.{desk_view}
use Rattle.statusdesk.specs.Marks.{marks_after}
use Rattle.statusdesk.specs.Said.{said_of_marks}
use Rattle.statusdesk.specs.Marking.{marks_code, dones_in, ReportsMarks}
use Rattle.statusdesk.proofs.MarkSteps.{texts_in}
use Rattle.statusdesk.proofs.marking.report_marks.Goals as goal

pub returns-in_ok-location-in-None : goal.returns-in_ok-location-in-None
returns-in_ok-location-in-None g c =
    let response = c.send_to.new.response in
    let said = said_of_marks c.args.seen.now (texts_in c.args.marks.now) (dones_in c.args.all.now) in
    let same : c.as_slice-in-None.result.now ≡ marks_after c.args.now c.args.query.now =
    c.as_slice-in-None.ensures.value ∙ c.in_ok-location-in-None.ensures ∙ ap (marks_after c.args.now) c.as_bytes.ensures.value in
    let none : None ≡ marks_code (dones_in c.args.all.now) = search rules in
    on_ok c.send_to.result
    (λ sent. subst
    (λ (code : Option ℕ). ReportsMarks (desk_view c.args.desk.now) c.args.now c.args.seen.now c.args.form.now.user c.args.query.now said code response)
    none
    (subst (λ (location : List ℕ). IsSentTo location response) same sent))
    c.send_to.ensures
