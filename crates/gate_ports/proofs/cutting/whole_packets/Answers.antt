use Rattle.std.proofs.Common.{◌≤◌, ◌<◌, ◌+◌, length, arith}
use Rattle.std.proofs.lemmas.Bool.{leb-true}
use Rattle.gate_ports.proofs.Whole.{begun_long, whole_next, next_within}
use Rattle.gate_ports.proofs.cutting.whole_packets.Goals as goal

pub loop-size-init : goal.loop-size-init
loop-size-init c = record {
  within = omega arith;
  whole = λ left whole. whole;
  long = λ e. begun_long c.args.bytes.now c.args.begun c.requires.begun c.requires.fewer (leb-true 720 c.args.begun e);
}

pub loop-size-smaller : goal.loop-size-smaller
loop-size-smaller c =
    let found = c.in-Some.ensures.some in
    let next = next_within c.args.bytes.now c.after.result.now c.loop-size.whole c.in-Some.size c.loop-size.invariant.within c.after.ensures found.0 found.1 in
    let within : c.loop-size.whole + c.in-Some.size ≤ length c.args.bytes.now = next.0 in
    let some : 0 < c.in-Some.size = next.1 in
    omega (arith, within, some)

pub loop-size-preserved : goal.loop-size-preserved
loop-size-preserved c =
    let found = c.in-Some.ensures.some in
    record {
      within = (next_within c.args.bytes.now c.after.result.now c.loop-size.whole c.in-Some.size c.loop-size.invariant.within c.after.ensures found.0 found.1).0;
      whole = whole_next c.args.bytes.now c.after.result.now c.loop-size.whole c.in-Some.size c.loop-size.invariant.within c.after.ensures found.0 found.1 c.loop-size.invariant.whole;
      long = λ e. absurd cc;
    }
