use Rattle.std.proofs.Common.{length, refl, ◌<◌, ◌≤◌}
use Rattle.std.proofs.lemmas.Result.{err_from_is_err_and}
use Rattle.gate_replay.specs.inner.Parsing.{parsed_from}
use Rattle.gate_replay.proofs.ScriptSteps.{value_at, parsed_length, open_more, open_end, open_fault_is}
use Rattle.gate_replay.proofs.script.read_steps.Goals as goal

pub returns-in_err-step-clause-first_faulty : goal.returns-in_err-step-clause-first_faulty
returns-in_err-step-clause-first_faulty c =
    let p = err_from_is_err_and c.from_residual.result c.from_residual.ensures.1 in
    let inside : c.loop-index.index < length (parsed_from c.args.lines.now) = rw (parsed_length c.args.lines.now) c.loop-index-test.true in
    let is = value_at c.args.lines.now c.loop-index.index _ _ c.loop-index-test.true refl in
    rw (p.1, p.2) (open_fault_is (parsed_from c.args.lines.now) c.loop-index.index c.args.setup c.loop-index.steps.items _ c.in_err-step.field-0.0 inside is c.loop-index.invariant c.in_err-step.ensures.faulty)

pub loop-index-preserved : goal.loop-index-preserved
loop-index-preserved c =
    let inside : c.loop-index.index < length (parsed_from c.args.lines.now) = rw (parsed_length c.args.lines.now) c.loop-index-test.true in
    let is = value_at c.args.lines.now c.loop-index.index _ _ c.loop-index-test.true refl in
    rw c.in_ok-push.ensures.items (open_more (parsed_from c.args.lines.now) c.loop-index.index c.args.setup c.loop-index.steps.items _ c.in_ok-step.step inside is c.loop-index.invariant c.in_ok-step.ensures.good c.in_ok-step.ensures.step)

pub returns-clause-script : goal.returns-clause-script
returns-clause-script c =
    let over : length (parsed_from c.args.lines.now) ≤ c.loop-index.index = rw (parsed_length c.args.lines.now) c.loop-index-test.false in
    open_end (parsed_from c.args.lines.now) c.loop-index.index (record { setup = c.args.setup; steps = c.loop-index.steps }) over c.loop-index.invariant
