use Rattle.std.proofs.Common.{rules, Some}
use Rattle.http.specs.Request.{head_of}
use Rattle.statusweb.specs.declared.service.Route.TheVariants.{Status, Object, Changes}
use Rattle.web_connections.proofs.FieldSteps.{on_ok}
use Rattle.statusweb.proofs.ServiceSteps.{shown_at}
use Rattle.statusweb.proofs.service.send_path.Goals as goal

pub returns-in-Some-Status : goal.returns-in-Some-Status
returns-in-Some-Status g c =
    on_ok c.send_status.result
    (λ shown. shown_at c.args.site.now.heading c.args.site.now.watch.now.places.now c.args.now (head_of c.args.request.now)
    c.unwrap_or-query.result.now c.args.whole (Some (Status c.in-Some-Status.form)) c.send_status.new.response
    (search rules) (search rules) shown)
    c.send_status.ensures

pub returns-in-Some-Changes : goal.returns-in-Some-Changes
returns-in-Some-Changes g c =
    on_ok c.send_changes.result
    (λ shown. shown_at c.args.site.now.heading c.args.site.now.watch.now.places.now c.args.now (head_of c.args.request.now)
    c.unwrap_or-query.result.now c.args.whole (Some (Changes c.in-Some-Changes.form)) c.send_changes.new.response
    (search rules) (search rules) shown)
    c.send_changes.ensures

pub returns-in-Some-Object : goal.returns-in-Some-Object
returns-in-Some-Object g c =
    on_ok c.send_object.result
    (λ shown. shown_at c.args.site.now.heading c.args.site.now.watch.now.places.now c.args.now (head_of c.args.request.now)
    c.unwrap_or-query.result.now c.args.whole (Some Object) c.send_object.new.response
    (search rules) (search rules) shown)
    c.send_object.ensures
