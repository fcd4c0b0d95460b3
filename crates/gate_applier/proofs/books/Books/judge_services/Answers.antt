use Rattle.std.proofs.Common.{◌≤◌, length, None, sym, ap, ◌∙◌, arith}
use Rattle.gate_model.specs.Table.{place_of, services_of}
use Rattle.gate_applier.proofs.JudgeSteps.{judged-services}
use Rattle.gate_applier.proofs.CountSteps.{make-fewer, services-inside, services-count, some-place}
use Rattle.gate_applier.proofs.books.Books.judge_services.Goals as goal

pub schedule_each-requires-clause-within : goal.schedule_each-requires-clause-within
schedule_each-requires-clause-within c =
    services-inside c.args.table.now c.bytes.result.now c.services.result c.args.self.now.downtime.objects
    (c.services.ensures.named c.bytes.result.now (some-place (place_of c.args.table.now c.bytes.result.now None) c.in-Some.object (sym c.find_host.ensures.value ∙ c.in-Some.is)))
    c.requires.can_take.places

pub schedule_each-requires-clause-make : goal.schedule_each-requires-clause-make
schedule_each-requires-clause-make c =
    let are = c.services.ensures.named c.bytes.result.now (some-place (place_of c.args.table.now c.bytes.result.now None) c.in-Some.object (sym c.find_host.ensures.value ∙ c.in-Some.is)) in
    make-fewer (length c.services.result) c.args.self.now.per_record c.args.self.now
    (omega (arith, services-count c.args.table.now c.bytes.result.now c.services.result are, c.requires.can_take.services)) c.requires.can_take.make

pub returns-in-Some-clause-judged : goal.returns-in-Some-clause-judged
returns-in-Some-clause-judged c = λ moment before stand.
    let at = some-place (place_of c.args.table.now c.bytes.result.now None) c.in-Some.object (sym c.find_host.ensures.value ∙ c.in-Some.is) in
    let are = c.services.ensures.named c.bytes.result.now at in
    judged-services c.args.table.now before moment c.args.log_index c.args.host c.args.span c.services.result c.schedule_each.result c.args.self.now c.schedule_each.new.self c.in-Some.object.place
    (sym (ap (λ name. place_of c.args.table.now name None) c.bytes.ensures) ∙ at)
    (are ∙ ap (services_of c.args.table.now) c.bytes.ensures)
    (rw c.plan_of.ensures at c.schedule_each.ensures.answer) (rw c.plan_of.ensures at c.schedule_each.ensures.schedules) c.schedule_each.ensures.refused c.schedule_each.ensures.kept stand.follow

pub returns-in-Some-clause-takes : goal.returns-in-Some-clause-takes
returns-in-Some-clause-takes c =
    let are = c.services.ensures.named c.bytes.result.now (some-place (place_of c.args.table.now c.bytes.result.now None) c.in-Some.object (sym c.find_host.ensures.value ∙ c.in-Some.is)) in
    let few : length c.services.result ≤ c.args.self.now.per_record = omega (arith, services-count c.args.table.now c.bytes.result.now c.services.result are, c.requires.can_take.services) in
    let takes = c.schedule_each.ensures.takes in
    record {
      table = takes.table;
      comments = omega (arith, few, takes.comments);
      entries = omega (arith, few, takes.entries);
    }
