use Rattle.std.proofs.Common.{◌<◌, sym, ap, ◌∙◌, arith, length}
use Rattle.std.specs.Prelude.{not, option_copied}
use Rattle.config_testing.specs.Tested.{is_host, is_service}
use Rattle.config_testing.proofs.Counting.{counted, passed, none_missing}
use Rattle.config_testing.proofs.testing.counted.Goals as goal
use Rattle.config_testing.proofs.testing.counted.Goals.{in-Some+then-is_some, in-Some+else-is_some, in_default}

pub loop-place-preserved : goal.loop-place-preserved
loop-place-preserved c =
    let so_far = c.loop-place.invariant in
    elim c.match-line.branch [
      | in-Some+then-is_some w ↦
          let is = sym w.is_some.ensures ∙ w.if-is_some.true in
          rw (w.hosts-is, w.services-is) (record {
            hosts = passed is_host c.args.table.now c.loop-place.place c.loop-place.hosts _ _ (sym w.in-Some.ensures) (ap not is) so_far.hosts;
            services = counted is_service c.args.table.now c.loop-place.place c.loop-place.services _ _ (sym w.in-Some.ensures) is so_far.services;
            low = omega (arith, so_far.low);
          })
      | in-Some+else-is_some w ↦
          let is = sym w.is_some.ensures ∙ w.if-is_some.false in
          rw (w.hosts-is, w.services-is) (record {
            hosts = counted is_host c.args.table.now c.loop-place.place c.loop-place.hosts _ _ (sym w.in-Some.ensures) (ap not is) so_far.hosts;
            services = passed is_service c.args.table.now c.loop-place.place c.loop-place.services _ _ (sym w.in-Some.ensures) is so_far.services;
            low = omega (arith, so_far.low);
          })
      | in_default w ↦
          let within : c.loop-place.place < length c.args.table.now = omega (arith, c.loop-place-test.true, c.len-place-end.ensures.len) in
          absurd (none_missing c.args.table.now c.loop-place.place (sym c.line.ensures ∙ ap option_copied w.in_default.is) within)
    ]
