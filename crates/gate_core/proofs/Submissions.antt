-- What a local client's submissions add to the run of its World.
use Rattle.std.proofs.Common.{◌≡◌, ℕ, ◌+◌, List, [], ◌∷◌, ◌++◌, length, Result, Ok, Err, refl, sym, ap, ◌∙◌}
use Rattle.std.specs.Prelude.{IfOk, OnErr}
use Rattle.gate_model.specs.declared.submission.Body.{Body}
use Rattle.gate_model.specs.declared.submission.Numbered.{Numbered}
use Rattle.gate_core.specs.declared.event.Event.TheVariants.{Look, Push}
use Rattle.gate_core.specs.declared.event.Reply.TheVariants.{Open, Queued}
use Rattle.gate_core.specs.declared.event.PushFault.{PushFault}
use Rattle.gate_core.specs.declared.event.PushFault.TheVariants as push
use Rattle.gate_core.specs.declared.submit.Refused.{Refused}
use Rattle.gate_core.specs.declared.submit.Refused.TheVariants.{Closing, Spent, Full}
use Rattle.gate_core.specs.Merge.{numbered}
use Rattle.gate_core.specs.Legal.{queued}
use Rattle.gate_core.specs.State.{WorldState, StandsAfter, Extends}
use Rattle.gate_core.specs.inner.Calls.{reply_of_push, refused_of_push}
use Rattle.gate_core.specs.LocalClient.{LocalState, local, StandsFor, AddsSubmission, submitted}
use Rattle.gate_core.proofs.Runs.{was_queued, queued-own}

-- a look answered Open and a push, one after the other
pub adds_queued : (old : LocalState) (mid after : WorldState) (body : Body) (number : ℕ) → mid.limits ≡ old.world.limits → after.limits ≡ mid.limits → Extends old.world (Look old.number) Open mid
    → Extends mid (Push old.number body) (Queued number) after → AddsSubmission old body (Ok number) (local after old.number)
adds_queued old mid after body number look_limits push_limits looked pushed = record {
  same = record { number = refl; limits = push_limits ∙ look_limits };
  stands = λ run h. pushed ((Look old.number, Open) ∷ run) (looked run h);
}

pub adds_refused : (old : LocalState) (mid after : WorldState) (body : Body) (fault : PushFault) → mid.limits ≡ old.world.limits → after.limits ≡ mid.limits → Extends old.world (Look old.number) Open mid
    → Extends mid (Push old.number body) (reply_of_push (Err fault)) after → AddsSubmission old body (Err (refused_of_push fault)) (local after old.number)
adds_refused old mid after body (push.Spent returned) look_limits push_limits looked pushed = record {
  same = record { number = refl; limits = push_limits ∙ look_limits };
  stands = λ run h. pushed ((Look old.number, Open) ∷ run) (looked run h);
}
adds_refused old mid after body (push.Full returned) look_limits push_limits looked pushed = record {
  same = record { number = refl; limits = push_limits ∙ look_limits };
  stands = λ run h. pushed ((Look old.number, Open) ∷ run) (looked run h);
}

-- the client's list grows by the item that it was answered is queued
pub queued_if : (old new : LocalState) (body : Body) (result : Result ℕ Refused) → AddsSubmission old body result new
    → IfOk result (λ number. (items : List Numbered) → StandsFor old items → (number ≡ length items + 1) × StandsFor new (items ++ numbered old.number number body ∷ []))
queued_if old new body (Ok number) adds = λ items h.
    let after : StandsAfter new.world ((Push old.number body, Queued number) ∷ (Look old.number, Open) ∷ h.run) = adds.stands h.run h.stands in
    let was = was_queued new.world.limits old.number number body ((Look old.number, Open) ∷ h.run) after.legal.0 in (
      was.number_is ∙ ap (λ (l : List Numbered). length l + 1) (sym h.items_are),
      record {
        run = (Push old.number body, Queued number) ∷ (Look old.number, Open) ∷ h.run;
        stands = after;
        items_are = ap (λ (l : List Numbered). l ++ numbered old.number number body ∷ []) h.items_are
            ∙ sym (queued-own old.number number body ((Look old.number, Open) ∷ h.run))
            ∙ ap (λ c. queued c ((Push old.number body, Queued number) ∷ (Look old.number, Open) ∷ h.run)) (sym adds.same.number);
      },
    )
queued_if old new body (Err refused) adds = tt

kept : (old new : LocalState) (body : Body) (refused : Refused) → AddsSubmission old body (Err refused) new → (items : List Numbered) → StandsFor old items → StandsFor new items
kept old new body (Closing first returned) adds items h = record {
  run = submitted old.number body (Err (Closing first returned)) ++ h.run;
  stands = adds.stands h.run h.stands;
  items_are = h.items_are ∙ ap (λ c. queued c h.run) (sym adds.same.number);
}
kept old new body (Spent returned) adds items h = record {
  run = submitted old.number body (Err (Spent returned)) ++ h.run;
  stands = adds.stands h.run h.stands;
  items_are = h.items_are ∙ ap (λ c. queued c h.run) (sym adds.same.number);
}
kept old new body (Full returned) adds items h = record {
  run = submitted old.number body (Err (Full returned)) ++ h.run;
  stands = adds.stands h.run h.stands;
  items_are = h.items_are ∙ ap (λ c. queued c h.run) (sym adds.same.number);
}

-- a refusal leaves the client's list
pub kept_if : (old new : LocalState) (body : Body) (result : Result ℕ Refused) → AddsSubmission old body result new
    → OnErr result ((items : List Numbered) → StandsFor old items → StandsFor new items)
kept_if old new body (Ok number) adds = tt
kept_if old new body (Err refused) adds = kept old new body refused adds
