use Rattle.std.proofs.Common.{◌≡◌, List, ◌++◌, map, ap, sym, subst, ◌∙◌}
use Rattle.web_connections.proofs.FieldSteps.{on_ok}
use Rattle.page_watching.specs.declared.watching.Seen.{Seen}
use Rattle.page_watching.specs.Watching.{seen_place}
use Rattle.statusdesk.specs.declared.commanding.Done.{Done}
use Rattle.statusdesk.specs.Posted.{PostedView}
use Rattle.statusdesk.specs.Taking.{posted_in}
use Rattle.statusdesk.specs.Objects.{desk_view}
use Rattle.statusdesk.specs.Commanding.{AreDone}
use Rattle.statusdesk.proofs.CommandSteps.{commanded}
use Rattle.statusdesk.proofs.commanding.command.Goals as goal

pub returns : goal.returns
returns g c =
    let desk = desk_view c.args.desk.now in
    let form = c.args.form.now in
    let seen = c.as_slice-3.result.now in
    let all = c.as_slice-4.result.now in
    let first = c.in_ok-all.all.items in
    let at : map seen_place seen ≡ desk.places = ap (map seen_place) c.as_slice-3.ensures.value ∙ c.in_ok-seen.ensures in
    let pages : c.as_slice-2.result.now ≡ seen =
    c.as_slice-2.ensures.value ∙ c.in_ok-pages.ensures ∙ c.as_slice.ensures.value ∙ sym c.as_slice-3.ensures.value in
    let dones : first ≡ all = sym c.as_slice-4.ensures.value in
    let each : AreDone c.args.now form seen all =
    subst (λ (all : List Done). AreDone c.args.now form seen all) dones
    (subst (λ (seen : List Seen). AreDone c.args.now form seen first) pages c.in_ok-all.ensures.done) in
    let taken : c.carry_out_all.new.intake ≡ posted_in all =
    c.in_ok-all.ensures.taken ∙ ap (λ (front : List PostedView). front ++ posted_in first) c.requires.empty ∙ ap posted_in dones in
    on_ok c.report.result (commanded desk c.args.now form seen all c.carry_out_all.new.intake c.report.new.response at each taken)
    c.report.ensures
