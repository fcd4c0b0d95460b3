use Rattle.std.proofs.Common.{◌-◌, length, refl, arith}
use Rattle.status_reading.proofs.FieldSteps.{taken_more, all_taken, none_fits}
use Rattle.status_reading.proofs.cuts.split.Goals as goal

pub loop-index-init : goal.loop-index-init
loop-index-init c = record { front = refl; clean = tt }

pub returns-in_default-clause-none : goal.returns-in_default-clause-none
returns-in_default-clause-none c =
    λ others size are.
    none_fits c.args.text.now c.loop-index.fields c.loop-index.index c.loop-index.rest.now c.loop-index.invariant c.in_default.ensures.parts
    (omega arith) others (omega arith) are

pub loop-index-preserved : goal.loop-index-preserved
loop-index-preserved c =
    taken_more c.args.text.now c.loop-index.fields c.loop-index.index c.loop-index.rest.now c.in-Some.after.now c.in-Some.field
    (omega arith) c.loop-index.invariant c.in-Some.ensures.parts.0 c.in-Some.ensures.parts.1

pub returns-clause-found : goal.returns-clause-found
returns-clause-found c =
    all_taken c.args.text.now c.loop-index.fields c.loop-index.index (length c.args.fields.now - 1) c.loop-index.rest
    (omega arith) (omega arith) c.loop-index.invariant
