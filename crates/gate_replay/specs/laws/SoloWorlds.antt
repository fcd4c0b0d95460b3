-- Only proofs use this: a queue over a World stands after each run that its calls add to.
use Rattle.std.proofs.Common.{◌≡◌, ℕ, ◌≤◌, ◌∷◌, ◌++◌, Option, Result, Ok, Err, true, false, not, ◌&&◌, sym, ap, ◌∙◌, subst}
use Rattle.gate_model.specs.declared.record.Moment.{Moment}
use Rattle.gate_model.specs.declared.submission.Body.{Body}
use Rattle.gate_core.specs.declared.event.Event.TheVariants.{Look}
use Rattle.gate_core.specs.declared.submit.Refused.{Refused}
use Rattle.gate_core.specs.declared.submit.Refused.TheVariants.{Closing, Spent, Full}
use Rattle.gate_core.specs.declared.submit.CloseFault.{CloseFault}
use Rattle.gate_core.specs.declared.submit.CloseFault.TheVariants.{AlreadyClosing, OutOfMemory}
use Rattle.gate_core.specs.Limits.{Limits}
use Rattle.gate_core.specs.Merge.{IsClient}
use Rattle.gate_core.specs.Legal.{Run, has_ended, is_open, look_reply}
use Rattle.gate_core.specs.State.{StandsAfter}
use Rattle.gate_core.specs.LocalClient.{LocalState, IsSameClient, AddsSubmission, AddsLook, AddsClose, submitted, closed_by}
use Rattle.gate_core.proofs.Standing.{among}
use Rattle.gate_replay.specs.SoloWorld.{IsAfter}

-- one of two clients that hasn't ended is open
pub open_at : (limits : Limits) (client : ℕ) (run : Run) → limits.clients ≡ 2 → IsClient 2 client → has_ended client run ≡ false → is_open limits client run ≡ true
open_at limits client run two i unended =
    let here : client ≤ limits.clients = subst (λ n. client ≤ n) (sym two) i.1 in
    ap (λ b. b && not (has_ended client run)) (among limits.clients client (i.0, here)) ∙ ap not unended

-- after a submission and after a close nobody has ended who hadn't before
unended_submitted : (client : ℕ) (body : Body) (result : Result ℕ Refused) (run : Run) (c : ℕ) → has_ended c run ≡ false → has_ended c (submitted client body result ++ run) ≡ false
unended_submitted client body (Ok number) run c h = h
unended_submitted client body (Err (Closing first returned)) run c h = h
unended_submitted client body (Err (Spent returned)) run c h = h
unended_submitted client body (Err (Full returned)) run c h = h

unended_closed : (moment : Moment) (result : Result Moment CloseFault) (run : Run) (c : ℕ) → has_ended c run ≡ false → has_ended c (closed_by moment result ++ run) ≡ false
unended_closed moment (Ok first) run c h = h
unended_closed moment (Err (AlreadyClosing first)) run c h = h
unended_closed moment (Err OutOfMemory) run c h = h

-- the same client of a World that stands after a longer run
same_client : (old new : LocalState) (run more : Run) → IsSameClient old new → IsAfter old run → StandsAfter new.world more → ((c : ℕ) → has_ended c more ≡ false) → IsAfter new more
same_client old new run more same h stands unended = record {
  stands = stands;
  nobody_ended = unended;
  two_clients = ap (λ (l : Limits). l.clients) same.limits ∙ h.two_clients;
  number_is = subst (λ n. IsClient 2 n) (sym same.number) h.number_is;
}

pub after_submit : (old new : LocalState) (body : Body) (result : Result ℕ Refused) (run : Run) → AddsSubmission old body result new → IsAfter old run → IsAfter new (submitted old.number body result ++ run)
after_submit old new body result run a h =
    same_client old new run (submitted old.number body result ++ run) a.same h (a.stands run h.stands) (λ c. unended_submitted old.number body result run c (h.nobody_ended c))

pub after_look : (old new : LocalState) (result : Option Moment) (run : Run) → AddsLook old result new → IsAfter old run → IsAfter new ((Look old.number, look_reply result) ∷ run)
after_look old new result run a h = same_client old new run ((Look old.number, look_reply result) ∷ run) a.same h (a.stands run h.stands) (λ c. h.nobody_ended c)

pub after_close : (old new : LocalState) (moment : Moment) (result : Result Moment CloseFault) (run : Run) → AddsClose old moment result new → IsAfter old run → IsAfter new (closed_by moment result ++ run)
after_close old new moment result run a h =
    same_client old new run (closed_by moment result ++ run) a.same h (a.stands run h.stands) (λ c. unended_closed moment result run c (h.nobody_ended c))
