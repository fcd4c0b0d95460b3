use Rattle.std.proofs.Common.{◌+◌, ◌++◌, take, get_or, refl, sym, ap, ◌∙◌, arith}
use Rattle.std.proofs.lemmas.List.{take_rest}
use Rattle.std.proofs.lemmas.Grind.{common_steps}
use Rattle.gate_model.specs.Escaping.{escape_of, escaped}
use Rattle.gate_model.proofs.EscapeSteps.{run-escaped}
use Rattle.gate_streams.proofs.Outputs.{writes_on}
use Rattle.gate_printing.proofs.Steps.{put_wrote, prints_on, put_prints, last_run}
use Rattle.gate_printing.proofs.escaping.put_escaped.Goals as goal

pub loop-run-preserved : goal.loop-run-preserved
loop-run-preserved g c =
    let state = g.W.Sink.state in
    let done = c.loop-run.invariant.0 in
    let rest = c.loop-run.rest.now in
    let run = c.in-Some.run' in
    let wrote = put_wrote (state c.loop-run.output) (state c.put.new.self) _ c.in_ok-put.ensures.bytes c.in_ok-put.ensures.tally in
    let one = writes_on (state c.args.output.now) (state c.loop-run.output) (state c.put.new.self) done _ c.loop-run.invariant.1 wrote in
    let all = writes_on (state c.args.output.now) (state c.put.new.self) (state c.put_escape.new.output) _ (escape_of (get_or rest run 0)) one c.in_ok-put_escape.ensures.ok in (
      _,
      all,
      ap (λ text. done ++ take run rest ++ escape_of (get_or rest run 0) ++ escaped text) (c.after-rest.ensures ∙ sym (take_rest rest (run + 1)))
          ∙ run-escaped done _ _ rest run (sym c.first_escaped.ensures.first ∙ c.in-Some.is) c.in-Some.ensures.within (grind (arith, common_steps)) refl
          ∙ c.loop-run.invariant.2,
    )

pub returns-clause-ok : goal.returns-clause-ok
returns-clause-ok g c =
    let state = g.W.Sink.state in
    let done = c.loop-run.invariant.0 in
    let rest = c.loop-run.rest.now in
    (prints_on (state c.args.output.now) (state c.loop-run.output) (state c.put-2.new.self) done rest _ c.put-2.result c.loop-run.invariant.1
    (put_prints (state c.loop-run.output) (state c.put-2.new.self) rest c.put-2.result c.put-2.ensures.bytes c.put-2.ensures.tally)
    (last_run done rest _ (sym c.first_escaped.ensures.first ∙ c.in_default.is) c.loop-run.invariant.2)).ok
