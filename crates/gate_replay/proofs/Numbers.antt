-- What a client queued in an allowed run.
use Rattle.std.proofs.Common.{◌≡◌, ◌≢◌, ℕ, ◌+◌, ◌<◌, ◌≤◌, List, [], ◌∷◌, ◌++◌, length, sym, ap, ◌∙◌, subst, arith, length-append}
use Rattle.std.proofs.lemmas.List.{append-nil}
use mathlib.Core.Logic.{dite}
use native.Mathlib.Decide.{ℕ_discrete}
use Rattle.gate_model.specs.declared.submission.Body.{Body}
use Rattle.gate_model.specs.declared.submission.Numbered.{Numbered}
use Rattle.gate_core.specs.declared.event.Event.TheVariants.{Look, Push, Take, Close, End, TakeIn}
use Rattle.gate_core.specs.declared.event.Reply.{Reply}
use Rattle.gate_core.specs.declared.event.Reply.TheVariants as reply
use Rattle.gate_core.specs.Limits.{Limits}
use Rattle.gate_core.specs.Merge.{IsNumbered, numbered}
use Rattle.gate_core.specs.Legal.{Run, all_queued, queued}
use Rattle.gate_core.proofs.Merges.{IsNumbered-snoc, of_client-append, of_client_other}
use Rattle.gate_core.proofs.Runs.{queued-own}
use Rattle.gate_replay.specs.Allowed.{AllowsPush, IsAllowed}

-- a client's list is well numbered, and within the quota
record IsSent (limits : Limits) (run : Run) (client : ℕ) : Type 0 where
  numbers : IsNumbered client (queued client run)
  within : length (queued client run) ≤ limits.quota

sent_push : (limits : Limits) (pushing number : ℕ) (body : Body) (run : Run) (client : ℕ) → length (queued pushing run) < limits.quota → number ≡ length (queued pushing run) + 1 → IsSent limits run client
    → IsSent limits ((Push pushing body, reply.Queued number) ∷ run) client
sent_push limits pushing number body run client room is h = dite (ℕ_discrete pushing client) (λ own. mine own) (λ ne. other ne)
  where
    mine : pushing ≡ client → IsSent limits ((Push pushing body, reply.Queued number) ∷ run) client
    mine own =
        let list : queued pushing ((Push pushing body, reply.Queued number) ∷ run) ≡ queued pushing run ++ numbered pushing (length (queued pushing run) + 1) body ∷ [] =
        queued-own pushing number body run ∙ ap (λ k. queued pushing run ++ numbered pushing k body ∷ []) is in
        let before : IsSent limits run pushing = subst (λ d. IsSent limits run d) (sym own) h in
        subst (λ d. IsSent limits ((Push pushing body, reply.Queued number) ∷ run) d) own (record {
          numbers = subst (λ (l : List Numbered). IsNumbered pushing l) (sym list) (IsNumbered-snoc pushing (queued pushing run) body before.numbers);
          within = omega (arith, ap length list, length-append (queued pushing run) (numbered pushing (length (queued pushing run) + 1) body ∷ []));
        })

    other : pushing ≢ client → IsSent limits ((Push pushing body, reply.Queued number) ∷ run) client
    other ne =
        let list : queued client ((Push pushing body, reply.Queued number) ∷ run) ≡ queued client run =
        of_client-append client (all_queued run) (numbered pushing number body ∷ []) ∙ ap (λ (l : List Numbered). queued client run ++ l) (of_client_other client (numbered pushing number body) ne) ∙ append-nil (queued client run) in
        record {
          numbers = subst (λ (l : List Numbered). IsNumbered client l) (sym list) h.numbers;
          within = subst (λ (l : List Numbered). length l ≤ limits.quota) (sym list) h.within;
        }

sent_on_push : (limits : Limits) (pushing : ℕ) (body : Body) (r : Reply) (run : Run) (client : ℕ) → AllowsPush limits run pushing body r → IsSent limits run client → IsSent limits ((Push pushing body, r) ∷ run) client
sent_on_push limits pushing body (reply.Queued number) run client a h = sent_push limits pushing number body run client a.1 a.2 h
sent_on_push limits pushing body r run client a h = record { numbers = h.numbers; within = h.within }

sent : (limits : Limits) (run : Run) (client : ℕ) → IsAllowed limits run → IsSent limits run client
sent limits [] client h = record { numbers = λ k x e. absurd (cc); within = omega arith }
sent limits ((Push pushing body, r) ∷ run) client h = sent_on_push limits pushing body r run client h.0 (sent limits run client h.2)
sent limits ((Take, r) ∷ run) client h = let below = sent limits run client h.2 in record { numbers = below.numbers; within = below.within }
sent limits ((Look looking, r) ∷ run) client h = let below = sent limits run client h.2 in record { numbers = below.numbers; within = below.within }
sent limits ((Close moment, r) ∷ run) client h = let below = sent limits run client h.2 in record { numbers = below.numbers; within = below.within }
sent limits ((End ending, r) ∷ run) client h = let below = sent limits run client h.2 in record { numbers = below.numbers; within = below.within }
sent limits ((TakeIn joining, r) ∷ run) client h = let below = sent limits run client h.2 in record { numbers = below.numbers; within = below.within }

pub allowed_numbers : (limits : Limits) (run : Run) (client : ℕ) → IsAllowed limits run → IsNumbered client (queued client run) × (length (queued client run) ≤ limits.quota)
allowed_numbers limits run client h = let s = sent limits run client h in (s.numbers, s.within)
