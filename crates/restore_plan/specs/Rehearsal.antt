-- What a gateway makes of commands of one client that it applies all at one moment: `records_from`, `first_refusal`,
-- `IsUnrehearsed`, and which ids it gives to downtime entries: `AreNumbered`.
use Rattle.std.specs.Prelude.{◌≡◌, ◌<◌, ℕ, ◌+◌, not, List, [], ◌∷◌, length, take, Option, Some}
use Rattle.std.specs.List.{position_from, sum_by}
use Rattle.gate_model.specs.declared.record.Moment.{Moment}
use Rattle.gate_model.specs.declared.record.Record.{Record}
use Rattle.gate_model.specs.declared.record.Outcome.{Outcome}
use Rattle.gate_model.specs.declared.object.ObjectLine.{ObjectLine}
use Rattle.gate_model.specs.declared.submission.Body.{Body}
use Rattle.gate_model.specs.declared.act.Deed.TheVariants.{Schedule}
use Rattle.gate_model.specs.declared.act.Act.{Act}
use Rattle.gate_model.specs.declared.act.Act.TheVariants.{On, ScheduleServices}
use Rattle.gate_model.specs.Act.{act_of}
use Rattle.gate_model.specs.Record.{is_accepted}
use Rattle.gate_model.specs.Table.{services_of}
use Rattle.gate_model.specs.Meaning.{outcomes_of, history_of, next_entry}
use Rattle.restore_plan.specs.declared.rehearsal.RehearsalFault.{RehearsalFault}
use Rattle.restore_plan.specs.declared.rehearsal.RehearsalFault.TheVariants.{TooMany, Refused, OutOfMemory}

-- the records of these commands, of which the first has this number
abbrev pub records_from : Moment → ℕ → List Body → List Record
records_from now number [] = []
records_from now number (body ∷ bodies) =
    record { moment = now; item = record { client = 1; number = number; body = body } }
    ∷ records_from now (number + 1) bodies

-- the index of the first outcome that is a refusal
abbrev pub first_among : List Outcome → Option ℕ
first_among outcomes = position_from (λ (outcome : Outcome). not (is_accepted outcome)) 0 outcomes

-- the index of the first of these commands that a gateway over these objects refuses, if it refuses one
abbrev pub first_refusal : List ObjectLine → Moment → List Body → Option ℕ
first_refusal fresh now commands = first_among (outcomes_of fresh (records_from now 1 commands))

-- why these commands aren't rehearsed with success: no log holds so many, or one is the first that is refused; memory may
-- run out at any
abbrev pub IsUnrehearsed : List ObjectLine → Moment → List Body → RehearsalFault → Type 0
IsUnrehearsed fresh now commands TooMany = 1000000 < length commands
IsUnrehearsed fresh now commands (Refused index) = first_refusal fresh now commands ≡ Some index
IsUnrehearsed fresh now commands OutOfMemory = Unit {0}

-- how many downtime entries an act schedules, where it is accepted
abbrev pub entry_count : List ObjectLine → Act → ℕ
entry_count fresh (On host service (Schedule span)) = 1
entry_count fresh (ScheduleServices host span) = length (services_of fresh host)
entry_count fresh _ = 0

-- after the first of these commands, however many, the id of the next downtime entry is one more than the number of entries
-- that they schedule
abbrev pub AreNumbered : List ObjectLine → Moment → List Body → Type 0
AreNumbered fresh now commands =
    (count : ℕ) → next_entry fresh (history_of fresh (records_from now 1 (take count commands)))
    ≡ 1 + sum_by (λ (body : Body). entry_count fresh (act_of body)) (take count commands)
