use Rattle.std.proofs.Common.{List, ℕ, ◌+◌, map, sym, subst}
use Rattle.std.specs.Option.{option_to_list}
use Rattle.status_reading.specs.Rows.{PageView}
use Rattle.statusdesk.specs.Objects.{known_view}
use Rattle.statusdesk.proofs.KnownSteps.{AreSoFar, known_step, known_all}
use Rattle.statusdesk.proofs.objects.known_of.Goals as goal

pub loop-one-preserved : goal.loop-one-preserved
loop-one-preserved c =
    let host = c.args.named.host.now in
    let service = c.args.named.service.now in
    let seen = c.args.seen.now in
    let index = c.loop-one.one-index in
    subst (λ (all : List (List ℕ × PageView)). AreSoFar host service seen (index + 1) all) (sym c.in_ok-push_known.ensures)
    (known_step host service seen index c.one-item.result (map known_view c.loop-one.all.items)
    (map known_view (option_to_list c.in_ok-known_at.field-0)) c.loop-one-test.true c.one-item.is c.in_ok-known_at.ensures
    c.loop-one.invariant)

pub returns : goal.returns
returns c =
    known_all c.args.named.host.now c.args.named.service.now c.args.seen.now c.loop-one.one-index
    (map known_view c.loop-one.all.items) c.loop-one-test.false c.loop-one.invariant
