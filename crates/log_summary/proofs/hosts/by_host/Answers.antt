use Rattle.std.proofs.Common.{◌≡◌, ◌+◌, ◌++◌, ◌∷◌, [], length, take, drop, arith, ap, sym, ◌∙◌}
use Rattle.std.proofs.lemmas.List.{map-append, length-map, take_more, take_at}
use Rattle.log_summary.specs.Summary.{host_of}
use Rattle.log_summary.specs.inner.Groups.{values_in, hosts_in, groups_in, with_one_more}
use Rattle.log_summary.proofs.GroupSteps.{IsAdded, turn, turn_within}
use Rattle.log_summary.proofs.hosts.by_host.Goals as goal

pub add_to-requires : goal.add_to-requires
add_to-requires c =
    let one = c.one-item.result.now in
    let begun = c.begin.new.groups.items in
    let added : IsAdded host_of one c.host_of.result.now (hosts_in c.loop-one.hosts.keys) c.in_ok-index.index c.in_ok-index.is_new =
    record { own = c.host_of.ensures; place = c.in_ok-index.ensures.index; new = c.in_ok-index.ensures.new } in
    let within =
    turn_within host_of (values_in (take c.loop-one.one-index c.args.log.now)) one c.host_of.result.now (hosts_in c.loop-one.hosts.keys)
    (groups_in c.loop-one.groups.items) (groups_in begun) c.in_ok-index.index c.in_ok-index.is_new c.loop-one.invariant added c.in_ok-begin.ensures in
    omega (arith, within, length-map begun (λ group. values_in group.items), ap length c.deref_mut.ensures.value)

pub loop-one-preserved : goal.loop-one-preserved
loop-one-preserved c =
    let log = c.args.log.now in
    let index = c.loop-one.one-index in
    let item = c.one-item.result in
    let begun = c.begin.new.groups.items in
    let grown = c.add_to.new.groups in
    let added : IsAdded host_of item.now c.host_of.result.now (hosts_in c.loop-one.hosts.keys) c.in_ok-index.index c.in_ok-index.is_new =
    record { own = c.host_of.ensures; place = c.in_ok-index.ensures.index; new = c.in_ok-index.ensures.new } in
    let more : values_in (take (index + 1) log) ≡ values_in (take index log) ++ item.now ∷ [] =
    ap values_in (take_more log index item c.loop-one-test.true) ∙ map-append (λ one. one.now) (take index log) _
    ∙ ap (λ last. values_in (take index log) ++ last.now ∷ []) (sym c.one-item.is) in
    let one_more : groups_in grown ≡ with_one_more (groups_in begun) c.in_ok-index.index item.now =
    c.in_ok-add_to.ensures ∙ ap (λ groups. with_one_more (groups_in groups) c.in_ok-index.index item.now) c.deref_mut.ensures.value in
    let whole : groups_in (take c.begin.new.groups.len (grown ++ drop (length grown) begun)) ≡ with_one_more (groups_in begun) c.in_ok-index.index item.now =
    ap groups_in (take_at grown (drop (length grown) begun) c.begin.new.groups.len
    (omega (arith, c.add_to.auto.groups, ap length c.deref_mut.ensures.value, c.begin.new.groups.ok.0))) ∙ one_more in
    turn host_of (values_in (take index log)) (values_in (take (index + 1) log)) item.now c.host_of.result.now (hosts_in c.loop-one.hosts.keys)
    (hosts_in c.add_host.new.hosts.keys) (groups_in c.loop-one.groups.items) (groups_in begun) _ c.in_ok-index.index c.in_ok-index.is_new
    c.loop-one.invariant added c.in_ok-begin.ensures more c.in_ok-index.ensures.hosts whole
