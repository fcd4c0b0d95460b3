-- A push of an allowed run that was answered Queued follows a look of its client that stands before every close.
use Rattle.std.proofs.Common.{◌≡◌, ℕ, [], ◌∷◌, ◌++◌, Some, None, Bool, true, false, ◌&&◌, ◌||◌, cond, eqb, refl, ap, ◌∙◌}
use Rattle.std.specs.List.{list_any}
use Rattle.std.proofs.lemmas.Bool.{eqb-true}
use Rattle.gate_model.specs.declared.record.Moment.{Moment}
use Rattle.gate_model.specs.declared.submission.Body.{Body}
use Rattle.gate_core.specs.declared.event.Event.{Event}
use Rattle.gate_core.specs.declared.event.Event.TheVariants.{Look, Push, Take, Close, End, TakeIn}
use Rattle.gate_core.specs.declared.event.Reply.{Reply}
use Rattle.gate_core.specs.declared.event.Reply.TheVariants as reply
use Rattle.gate_core.specs.Limits.{Limits}
use Rattle.gate_core.specs.Legal.{Run, first_close, is_open, is_own, last_own, is_open_look, has_looked}
use Rattle.gate_core.specs.Law.{FollowsOpenLook}
use Rattle.gate_replay.specs.Allowed.{shown_close, AllowsLook, AllowsClose, IsAllowed}

-- ---- where no close is shown, there was none

look_unshown : (client : ℕ) (r : Reply) (run : Run) → shown_close ((Look client, r) ∷ run) ≡ None → shown_close run ≡ None
look_unshown client (reply.Closing first) run e = absurd (cc)
look_unshown client r run e = e

close_is_shown : (moment : Moment) (r : Reply) (run : Run) → AllowsClose (shown_close run) r → shown_close ((Close moment, r) ∷ run) ≡ None → ⊥
close_is_shown moment reply.Begun run a e = absurd (cc)
close_is_shown moment (reply.AlreadyClosing first) run a e = absurd (cc)
close_is_shown moment r run a e = a

unclosed : (limits : Limits) (run : Run) → IsAllowed limits run → shown_close run ≡ None → first_close run ≡ None
unclosed limits [] h e = refl
unclosed limits ((Look client, r) ∷ run) h e = unclosed limits run h.2 (look_unshown client r run e)
unclosed limits ((Push client body, r) ∷ run) h e = unclosed limits run h.2 e
unclosed limits ((Take, r) ∷ run) h e = unclosed limits run h.2 e
unclosed limits ((Close moment, r) ∷ run) h e = absurd (close_is_shown moment r run h.0 e)
unclosed limits ((End client, r) ∷ run) h e = unclosed limits run h.2 e
unclosed limits ((TakeIn client, r) ∷ run) h e = unclosed limits run h.2 e

-- ---- a look before a push

-- the pair is not the client's own, so the look still serves
looked_earlier : (client : ℕ) (pair : Event × Reply) (run : Run) → is_own client pair.0 ≡ false → FollowsOpenLook client run → FollowsOpenLook client (pair ∷ run)
looked_earlier client pair run other h = record {
  since = pair ∷ h.since;
  before = h.before;
  run_is = ap (λ (r : Run). pair ∷ r) h.run_is;
  no_close_before = h.no_close_before;
  no_own_event_since = ap (λ b. b || list_any (λ (p : Event × Reply). is_own client p.0) h.since) other ∙ h.no_own_event_since;
}

here : (client looking : ℕ) (run : Run) → looking ≡ client → first_close run ≡ None → FollowsOpenLook client ((Look looking, reply.Open) ∷ run)
here client looking run same none = record {
  since = [];
  before = run;
  run_is = ap (λ (c : ℕ). (Look c, reply.Open) ∷ run) same;
  no_close_before = none;
  no_own_event_since = refl;
}

looked_on_look : (limits : Limits) (client looking : ℕ) (r : Reply) (run : Run) → AllowsLook (is_open limits looking run) (shown_close run) r → IsAllowed limits run → (has_looked client run ≡ true → FollowsOpenLook client run) → (b : Bool) → eqb looking client ≡ b → is_open_look (cond b (Some (Look looking, r)) (last_own client run)) ≡ true → FollowsOpenLook client ((Look looking, r) ∷ run)
looked_on_look limits client looking reply.Open run a h below true own looked = here client looking run (eqb-true looking client own) (unclosed limits run h a.1)
looked_on_look limits client looking r run a h below true own looked = absurd (cc)
looked_on_look limits client looking r run a h below false own looked = looked_earlier client (Look looking, r) run own (below looked)

-- an own event that is no look
looked_on_other : (client : ℕ) (pair : Event × Reply) (run : Run) → is_open_look (Some pair) ≡ false → (has_looked client run ≡ true → FollowsOpenLook client run) → (b : Bool) → is_own client pair.0 ≡ b → is_open_look (cond b (Some pair) (last_own client run)) ≡ true → FollowsOpenLook client (pair ∷ run)
looked_on_other client pair run unlooked below true own looked = absurd (cc)
looked_on_other client pair run unlooked below false own looked = looked_earlier client pair run own (below looked)

looked_before : (limits : Limits) (client : ℕ) (run : Run) → IsAllowed limits run → has_looked client run ≡ true → FollowsOpenLook client run
looked_before limits client [] h looked = absurd (cc)
looked_before limits client ((Look looking, r) ∷ run) h looked = looked_on_look limits client looking r run h.0 h.2 (looked_before limits client run h.2) (eqb looking client) refl looked
looked_before limits client ((Push pushing body, r) ∷ run) h looked = looked_on_other client (Push pushing body, r) run refl (looked_before limits client run h.2) (eqb pushing client) refl looked
looked_before limits client ((Take, r) ∷ run) h looked = looked_earlier client (Take, r) run refl (looked_before limits client run h.2 looked)
looked_before limits client ((Close moment, r) ∷ run) h looked = looked_earlier client (Close moment, r) run refl (looked_before limits client run h.2 looked)
looked_before limits client ((End ending, r) ∷ run) h looked = looked_on_other client (End ending, r) run refl (looked_before limits client run h.2) (eqb ending client) refl looked
looked_before limits client ((TakeIn joining, r) ∷ run) h looked = looked_earlier client (TakeIn joining, r) run refl (looked_before limits client run h.2 looked)

-- what came before in an allowed run is allowed
allowed_before : (limits : Limits) (later run : Run) → IsAllowed limits (later ++ run) → IsAllowed limits run
allowed_before limits [] run h = h
allowed_before limits ((event, r) ∷ later) run h = allowed_before limits later run h.2

right_of : (a b : Bool) → (a && b) ≡ true → b ≡ true
right_of true b e = e
right_of false b e = absurd (cc)

pub queued_after_look : (limits : Limits) (later run : Run) (client number : ℕ) (body : Body) → IsAllowed limits (later ++ (Push client body, reply.Queued number) ∷ run) → FollowsOpenLook client run
queued_after_look limits later run client number body h =
    let last : IsAllowed limits ((Push client body, reply.Queued number) ∷ run) = allowed_before limits later ((Push client body, reply.Queued number) ∷ run) h in
    looked_before limits client run last.2 (right_of (is_open limits client run) (has_looked client run) last.0.0)
