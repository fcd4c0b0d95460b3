use Rattle.std.proofs.Common.{sym, ◌∙◌, arith}
use Rattle.std.proofs.lemmas.Grind.{common_steps}
use Rattle.gate_model.proofs.EscapeSteps.{run-escaped, rest-escaped, starts-more}
use Rattle.gate_model.proofs.writing.push_escaped.Goals as goal

pub loop-run-preserved : goal.loop-run-preserved
loop-run-preserved c = (
  run-escaped c.loop-run.out.items c.extend_from_slice.new.self.items c.push_escape.new.out.items c.loop-run.rest.now c.in-Some.run'
      (sym c.first_escaped.ensures.first ∙ c.in-Some.is)
      c.in-Some.ensures.within
      (grind (arith, common_steps, c.in_ok-extend_from_slice.ensures.items))
      c.in_ok-push_escape.ensures.ok
      ∙ c.loop-run.invariant.0,
  rw (c.in_ok-push_escape.ensures.ok, c.in_ok-extend_from_slice.ensures.items) (starts-more _ _ _ (starts-more _ _ _ c.loop-run.invariant.1)),
)

pub returns-clause-ok : goal.returns-clause-ok
returns-clause-ok c =
    rest-escaped c.extend_from_slice-2.result c.loop-run.out.items c.extend_from_slice-2.new.self.items c.loop-run.rest.now _
    (sym c.first_escaped.ensures.first ∙ c.in_default.is)
    c.extend_from_slice-2.ensures.items
    c.loop-run.invariant.0
