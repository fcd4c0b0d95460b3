-- What the records of a log page come to: those since a moment (`since`), those with an outcome (`with_outcome`), and
-- those that were refused, by their reason and their host (`refusals`). Own rules.
use Rattle.std.specs.Prelude.{ℕ, ◌==◌, Bool, true, false, nat_le, if◌then◌else◌, List, [], ◌∷◌, map, filter}
use Rattle.std.specs.List.{flat_map, before_first, after_first}
use Rattle.std.specs.Str.{bytes_eq}
use Rattle.indexmap.specs.IndexSet.{insert_all}
use Rattle.gate_model.specs.declared.record.Outcome.{Outcome}
use Rattle.gate_model.specs.declared.record.Outcome.TheVariants.{NoSuchHost, NoSuchService, PassiveDisabled, NoServices, NoSuchComment, NoSuchDowntime, WrongKind, NoProblem, NotAcknowledged, BadWindow, WindowPast, NoSuchTrigger}
use Rattle.gate_model.specs.declared.record.Outcome.TheVariants as outcome
use Rattle.gate_lines.specs.LogPage.{outcome_name}
use Rattle.log_reading.specs.declared.logged.Logged.{Logged}
use Rattle.log_reading.specs.declared.logged.Logged.TheVariants.{Accepted, Refused}

-- when a record was applied, in seconds since 1970
abbrev pub moment_of : Logged → ℕ
moment_of (Accepted applied) = applied.moment.0
moment_of (Refused one) = one.moment.0

-- the records of this moment and later ones
abbrev pub since : ℕ → List Logged → List Logged
since moment log = filter (λ one. nat_le moment (moment_of one)) log

-- ---- outcomes

-- what came of a record
abbrev pub outcome_of : Logged → Outcome
outcome_of (Accepted applied) = outcome.Accepted
outcome_of (Refused one) = one.outcome

-- a record has this outcome
abbrev pub has_outcome : Outcome → Logged → Bool
has_outcome given one = bytes_eq (outcome_name (outcome_of one)) (outcome_name given)

-- the records with this outcome
abbrev pub with_outcome : List Logged → Outcome → List Logged
with_outcome log given = filter (has_outcome given) log

-- why a record is refused
abbrev pub reasons : List Outcome
reasons =
    NoSuchHost ∷ NoSuchService ∷ PassiveDisabled ∷ NoServices ∷ NoSuchComment ∷ NoSuchDowntime ∷ WrongKind ∷ NoProblem
    ∷ NotAcknowledged ∷ BadWindow ∷ WindowPast ∷ NoSuchTrigger ∷ []

-- ---- hosts

-- the first argument of a command
abbrev pub first_argument : List ℕ → List ℕ
first_argument command = before_first (λ byte. byte == 59) (after_first (λ byte. byte == 59) command)

-- a command that is refused so names a comment or a downtime entry by its id, and no host
abbrev pub is_of_id : Outcome → Bool
is_of_id NoSuchComment = true
is_of_id NoSuchDowntime = true
is_of_id WrongKind = true
is_of_id other = false

-- the host of a record that was refused; no bytes where there is none
abbrev pub host_of : Logged → List ℕ
host_of (Accepted applied) = []
host_of (Refused one) = if is_of_id one.outcome then [] else first_argument one.command

-- each text once, in the order of the first ones
abbrev pub each_once : List (List ℕ) → List (List ℕ)
each_once texts = insert_all bytes_eq [] texts

-- the records of a host
abbrev pub of_host : List Logged → List ℕ → List Logged
of_host log host = filter (λ one. bytes_eq (host_of one) host) log

-- the records of each host, the hosts in the order of their first ones
abbrev pub by_host : List Logged → List (List Logged)
by_host log = map (of_host log) (each_once (map host_of log))

-- the records that were refused: those of each reason, of each host
abbrev pub refusals : List Logged → List (List Logged)
refusals log = flat_map (λ reason. by_host (with_outcome log reason)) reasons
