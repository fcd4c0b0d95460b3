use Rattle.http.specs.Request.{head_of}
use Rattle.web_connections.proofs.FieldSteps.{on_ok}
use Rattle.statusweb.proofs.ServiceSteps.{host_answered, host_refused}
use Rattle.statusweb.proofs.service.answer.Goals as goal

pub returns-then-answers_host : goal.returns-then-answers_host
returns-then-answers_host g c =
    on_ok c.answer_method.result
    (λ answer. host_answered c.args.web.now.hosts.now c.args.web.now.site.heading
    c.args.web.now.site.watch.now.places.now c.args.now (head_of c.args.request.now) _ _
    c.answers_host.ensures c.if-answers_host.true answer)
    c.answer_method.ensures

pub returns-else-answers_host : goal.returns-else-answers_host
returns-else-answers_host g c =
    on_ok c.refuse.result
    (λ refused. host_refused c.args.web.now.hosts.now c.args.web.now.site.heading
    c.args.web.now.site.watch.now.places.now c.args.now (head_of c.args.request.now) _ _
    c.answers_host.ensures c.if-answers_host.false refused)
    c.refuse.ensures
