use Rattle.std.proofs.Common.{arith, refl, inl}
use Rattle.gate_table.proofs.Faults.{first_fault, faulty, faultless_next, faultless_all, tracks_all}
use Rattle.gate_table.proofs.table.objects_of.Goals as goal

pub returns-in-Err-clause-fault : goal.returns-in-Err-clause-fault
returns-in-Err-clause-fault c = first_fault c.args.lines.now c.loop-i.i c.in-Err.fault c.add_line.new.self c.if-lines-gt-LINES.false c.loop-i.invariant.1 c.in-Err.ensures

pub returns-clause-table : goal.returns-clause-table
returns-clause-table c =
    rw c.into_objects.ensures
    (record {
      are_objects = (tracks_all c.args.lines.now c.loop-i.i c.loop-i.builder (omega arith) c.loop-i.invariant.0).are_objects;
      faultless = faultless_all c.args.lines.now c.loop-i.i c.if-lines-gt-LINES.false (omega arith) c.loop-i.invariant.1;
      most_is = c.most_services-most.ensures;
    })

pub returns-then-lines-gt-LINES-clause-fault : goal.returns-then-lines-gt-LINES-clause-fault
returns-then-lines-gt-LINES-clause-fault c = inl (record { many = c.if-lines-gt-LINES.true; line_0 = refl })

pub returns-then-lines-gt-LINES-clause-faulty : goal.returns-then-lines-gt-LINES-clause-faulty
returns-then-lines-gt-LINES-clause-faulty c other faultless = omega (arith, c.if-lines-gt-LINES.true, faultless.few)

pub returns-in-Err-clause-faulty : goal.returns-in-Err-clause-faulty
returns-in-Err-clause-faulty c = faulty c.args.lines.now c.loop-i.i c.in-Err.fault c.add_line.new.self c.in-Err.ensures

pub loop-i-preserved : goal.loop-i-preserved
loop-i-preserved c = (c.in_default.ensures.tracks, faultless_next c.args.lines.now c.loop-i.i c.loop-i.invariant.1 c.in_default.ensures.faultless)

pub most_services-most-requires : goal.most_services-most-requires
most_services-most-requires c = tracks_all c.args.lines.now c.loop-i.i c.loop-i.builder (omega arith) c.loop-i.invariant.0
