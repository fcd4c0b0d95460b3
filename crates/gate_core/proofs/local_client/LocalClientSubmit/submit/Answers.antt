use Rattle.std.proofs.Common.{ℕ, Result, Err, sym, subst}
use Rattle.gate_core.specs.declared.submit.Refused.{Refused}
use Rattle.gate_core.specs.LocalClient.{LocalState, local, AddsSubmission}
use Rattle.gate_core.proofs.Submissions.{adds_queued, adds_refused, queued_if, kept_if}
use Rattle.gate_core.proofs.local_client.LocalClientSubmit.submit.Goals as goal
use Rattle.gate_core.proofs.local_client.LocalClientSubmit.submit.Goals.{in-Ok, in-Err}

pub returns-clause-answers : goal.returns-clause-answers
returns-clause-answers c =
    subst (λ (s : LocalState). AddsSubmission s c.args.body c.match-push.result (local c.push.new.self c.self.inside.number)) c.self.view_is
    (let old : LocalState = local c.self.inside.world c.self.inside.number in
    elim c.match-push.branch [
      | in-Ok w ↦ subst (λ (r : Result ℕ Refused). AddsSubmission old c.args.body r (local c.push.new.self c.self.inside.number)) (sym w.result-is)
          (adds_queued old c.look.new.self c.push.new.self c.args.body w.in-Ok.number c.in_default.ensures.limits c.push.ensures.limits c.in_default.ensures.stands w.in-Ok.ensures.stands)
      | in-Err w ↦ subst (λ (r : Result ℕ Refused). AddsSubmission old c.args.body r (local c.push.new.self c.self.inside.number)) (sym w.result-is)
          (subst (λ (f : Refused). AddsSubmission old c.args.body (Err f) (local c.push.new.self c.self.inside.number)) (sym w.refused_by.ensures)
          (adds_refused old c.look.new.self c.push.new.self c.args.body w.in-Err.fault c.in_default.ensures.limits c.push.ensures.limits c.in_default.ensures.stands w.in-Err.ensures.stands))
    ])

pub returns-clause-queued : goal.returns-clause-queued
returns-clause-queued c = queued_if c.args.self.now (local c.push.new.self c.self.inside.number) c.args.body c.match-push.result (returns-clause-answers c)

pub returns-clause-kept : goal.returns-clause-kept
returns-clause-kept c = kept_if c.args.self.now (local c.push.new.self c.self.inside.number) c.args.body c.match-push.result (returns-clause-answers c)
