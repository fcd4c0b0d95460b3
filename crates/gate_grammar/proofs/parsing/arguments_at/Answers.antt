use Rattle.std.proofs.Common.{rules, ◌∙◌, sym, arith}
use Rattle.std.proofs.lemmas.Grind.{common_steps}
use Rattle.gate_grammar.specs.declared.arguments.ArgumentKind.TheVariants as kind
use Rattle.gate_grammar.specs.inner.Values.{value_of}
use Rattle.gate_grammar.proofs.ArgumentSteps.{values_fault, values_good, values_missing, values_end, values_extra}
use Rattle.gate_grammar.proofs.parsing.arguments_at.Goals as goal

pub returns-then-is_empty : goal.returns-then-is_empty
returns-then-is_empty c = (tt, sym c.loop-i.invariant.read ∙ values_missing c.loop-i.arguments c.loop-i.number c.args.kinds.now c.loop-i.i kind.Name c.loop-i.rest.now c.loop-i-test.true (search rules))

pub returns-then-not-is_empty : goal.returns-then-not-is_empty
returns-then-not-is_empty c = (tt, sym c.loop-i.invariant.read ∙ values_extra c.loop-i.arguments c.loop-i.number c.args.kinds.now c.loop-i.i c.loop-i.rest.now (omega arith) (search rules))

pub returns : goal.returns
returns c = sym c.loop-i.invariant.read ∙ values_end c.loop-i.arguments c.loop-i.number c.args.kinds.now c.loop-i.i c.loop-i.rest.now (omega arith) (search rules)

pub returns-in-Err : goal.returns-in-Err
returns-in-Err c = (c.in-Err.ensures.0, sym c.loop-i.invariant.read ∙ values_fault c.loop-i.arguments c.loop-i.number c.args.kinds.now c.loop-i.i kind.Name c.loop-i.rest.now c.argument.result.0.now c.in-Err.fault c.loop-i-test.true (search rules) (grind (arith, common_steps, c.argument.ensures.text)) c.in-Err.ensures.1)

pub loop-i-preserved : goal.loop-i-preserved
loop-i-preserved c =
    let e = values_good c.loop-i.arguments c.loop-i.number c.args.kinds.now c.loop-i.i kind.Name c.loop-i.rest.now c.argument.result.0.now c.argument.result.1.now (value_of c.in-Ok.argument) c.loop-i-test.true (search rules) (grind (arith, common_steps, c.argument.ensures.text)) (grind (arith, common_steps, c.argument.ensures.rest)) c.in-Ok.ensures in
    record { read = rw c.push.ensures (e ∙ c.loop-i.invariant.read); number = omega arith; count = rw c.push.ensures (grind (arith, common_steps)) }
