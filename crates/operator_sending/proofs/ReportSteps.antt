-- The reports of commands, one after another.
use Rattle.std.proofs.Common.{◌≡◌, ◌≢◌, ℕ, ◌+◌, ◌<◌, ◌≤◌, Bool, true, false, List, [], ◌∷◌, ◌++◌, length, drop, get_or, map, append_assoc, append-nil, Option, Some, None, refl, sym, ap, subst, ◌∙◌, inl, inr}
use Rattle.std.specs.Prelude.{Ok, Err}
use Rattle.std.proofs.lemmas.List.{drop_all}
use Rattle.gate_model.specs.declared.record.Moment.{Moment}
use Rattle.gate_model.specs.Act.{act_of}
use Rattle.gate_grammar.specs.declared.commands.Command.{Command}
use Rattle.status_reading.specs.Rows.{PageView}
use Rattle.page_changes.specs.declared.effects.Effect.{Effect}
use Rattle.operator_commands.specs.declared.request.Request.{Request as Asked}
use Rattle.operator_lines.specs.declared.asking.AskFault.{AskFault}
use Rattle.operator_lines.specs.declared.replies.Reply.{Reply}
use Rattle.operator_lines.proofs.SendingSteps.{left_at}
use Rattle.operator_effects.specs.declared.commands.PlanFault.{PlanFault}
use Rattle.operator_effects.specs.declared.commands.PlanFault.TheVariants.{Request, NoObject, OutOfMemory}
use Rattle.operator_effects.specs.declared.ending.Ending.{Ending}
use Rattle.operator_effects.specs.declared.ending.Ending.TheVariants.{NoAnswer}
use Rattle.operator_effects.specs.Commands.{first_fault}
use Rattle.operator_effects.specs.Endings.{ending_of}
use Rattle.operator_ports.specs.declared.next.Next.{Next}
use Rattle.operator_ports.specs.Steps.{Step, Sent, Read, IsSent}
use Rattle.operator_ports.specs.Watching.{IsWatched}
use Rattle.operator_sending.specs.Ended.{is_watched, IsSeen, IsEnd}
use Rattle.operator_sending.specs.Faults.{fault_of, IsFaultOn}
use Rattle.operator_sending.specs.Reports.{Sinks, AreReported, IsReportedEnd}

-- ---- one command

-- since these steps others were made for the command, and it ended so
abbrev pub IsEndSince : Command → PageView → List Step → List Step → Ending → Type 0
IsEndSince command before old new ending = (steps : List Step) × (new ≡ old ++ steps) × IsEnd command before steps ending

-- no page is read after this answer
pub unwatched : (command : Command) (before : PageView) (old new : List Step) (reply : Reply) (ending : Ending)
    → IsSent command (Ok reply) old new → is_watched (act_of command.body) reply ≡ false
    → ending ≡ ending_of command.body reply None → IsEndSince command before old new ending
unwatched command before old new reply ending (inr unsent) none is = absurd unsent.0
unwatched command before old new reply ending (inl more) none is = (
  Sent command (Ok reply) ∷ [],
  more,
  inl (record {
    reply = reply;
    reads = [];
    seen = None;
    done = refl;
    is_seen = subst (λ watched. IsSeen watched command.body before [] None) (sym none) (refl, refl);
    ends = is;
  }),
)

-- these pages are read after it
pub watched : (command : Command) (before : PageView) (old now new : List Step) (reply : Reply) (reads : List Next)
    (seen : Option Effect) (ending : Ending) → IsSent command (Ok reply) old now → is_watched (act_of command.body) reply ≡ true
    → new ≡ now ++ map Read reads → IsWatched command.body before reads seen
    → ending ≡ ending_of command.body reply seen → IsEndSince command before old new ending
watched command before old now new reply reads seen ending (inr unsent) some more shown is = absurd unsent.0
watched command before old now new reply reads seen ending (inl one) some more shown is = (
  Sent command (Ok reply) ∷ map Read reads,
  more ∙ ap (λ steps. steps ++ map Read reads) one ∙ append_assoc old (Sent command (Ok reply) ∷ []) (map Read reads),
  inl (record {
    reply = reply;
    reads = reads;
    seen = seen;
    done = refl;
    is_seen = subst (λ watched. IsSeen watched command.body before reads seen) (sym some) shown;
    ends = is;
  }),
)

-- there is no answer
pub unanswered : (command : Command) (before : PageView) (old new : List Step) (fault : AskFault)
    → IsSent command (Err fault) old new → IsEndSince command before old new (NoAnswer fault)
unanswered command before old new fault (inl more) =
    (Sent command (Err fault) ∷ [], more, inr (record { fault = fault; done = inl refl; ends = refl }))
unanswered command before old new fault (inr same) =
    ([], same.1 ∙ sym (append-nil old), inr (record { fault = fault; done = inr (same.0, refl); ends = refl }))

-- ---- several commands

-- since the first steps these were made, and whatever is done and reported for the commands from this index on, that is
-- what is for all of them
pub record GoesOn (json : Bool) (page : PageView) (commands : List Command) (index : ℕ) (old now : List Step) (before between : Sinks)
    : Type 0 where
  pub steps : List Step
  pub done : now ≡ old ++ steps
  pub goes : (rest : List Step) (status : ℕ) (after : Sinks)
      → AreReported json page (drop index commands) rest status between after
      → AreReported json page commands (steps ++ rest) status before after

-- since the first steps all commands were carried out and reported
abbrev pub AreReportedSince : Bool → PageView → List Command → List Step → List Step → ℕ → Sinks → Sinks → Type 0
AreReportedSince json page commands old new status before after =
    (steps : List Step) × (new ≡ old ++ steps) × AreReported json page commands steps status before after

pub begun : (json : Bool) (page : PageView) (commands : List Command) (old : List Step) (before : Sinks)
    → GoesOn json page commands 0 old old before before
begun json page commands old before = record {
  steps = [];
  done = sym (append-nil old);
  goes = λ rest status after all. all;
}

-- one more is carried out, and ended well
pub goes_on : (json : Bool) (page : PageView) (commands : List Command) (index : ℕ) (old now new own : List Step)
    (before between next : Sinks) (command : Command) (one : ℕ) → index < length commands
    → command ≡ get_or commands index command → GoesOn json page commands index old now before between → new ≡ now ++ own
    → IsReportedEnd json page command own one between next → one ≡ 0
    → GoesOn json page commands (index + 1) old new before next
goes_on json page commands index old now new own before between next command one within is so more reported well = record {
  steps = so.steps ++ own;
  done = more ∙ ap (λ steps. steps ++ own) so.done ∙ append_assoc old so.steps own;
  goes = λ rest status after all.
      subst (λ steps. AreReported json page commands steps status before after) (sym (append_assoc so.steps own rest))
      (so.goes (own ++ rest) status after
      (subst (λ (left : List Command). AreReported json page left (own ++ rest) status between after)
      (sym (left_at commands index command within is)) (own, rest, refl, one, next, reported, inl (well, all))));
}

-- one more is carried out, and did not end well
pub stops : (json : Bool) (page : PageView) (commands : List Command) (index : ℕ) (old now new own : List Step)
    (before between next : Sinks) (command : Command) (one : ℕ) → index < length commands
    → command ≡ get_or commands index command → GoesOn json page commands index old now before between → new ≡ now ++ own
    → IsReportedEnd json page command own one between next → one ≢ 0
    → AreReportedSince json page commands old new one before next
stops json page commands index old now new own before between next command one within is so more reported ill = (
  so.steps ++ (own ++ []),
  more ∙ ap (λ steps. steps ++ own) so.done ∙ append_assoc old so.steps own
      ∙ ap (λ last. old ++ (so.steps ++ last)) (sym (append-nil own)),
  so.goes (own ++ []) one next
      (subst (λ (left : List Command). AreReported json page left (own ++ []) one between next)
      (sym (left_at commands index command within is)) (own, [], refl, one, next, reported, inr (ill, refl, refl, refl))),
)

-- all ended well
pub ends : (json : Bool) (page : PageView) (commands : List Command) (index : ℕ) (old now : List Step) (before between : Sinks)
    → length commands ≤ index → GoesOn json page commands index old now before between
    → AreReportedSince json page commands old now 0 before between
ends json page commands index old now before between end so = (
  so.steps ++ [],
  so.done ∙ ap (λ steps. old ++ steps) (sym (append-nil so.steps)),
  so.goes [] 0 between
      (subst (λ (left : List Command). AreReported json page left [] 0 between between) (sym (drop_all index commands end))
      (refl, refl, refl)),
)

-- ---- faults

-- the fault of words that are no commands, as it is reported
pub fault_on : (entered : Moment) (user : List ℕ) (request : Asked) (fault : PlanFault)
    → (fault ≢ OutOfMemory → first_fault entered user request ≡ Some fault) → IsFaultOn request (fault_of fault)
fault_on entered user request (Request fault) first = (entered, user, first (λ same. absurd (cc)))
fault_on entered user request NoObject first = (entered, user, first (λ same. absurd (cc)))
fault_on entered user request OutOfMemory first = tt
