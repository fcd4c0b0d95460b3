-- What a body asks for, and of what: `act_of`; and what else it has: `words_of`, `output_of`. The commands of the External Command List come to five forms: a deed
-- on one object, downtime for each service of a host, a comment or a downtime entry that is deleted, and the shutdown.
-- Own rules: any number but 0 means persistent, any but 2 not sticky, and any but 1 flexible.
use Rattle.std.specs.Prelude.{ℕ, ◌==◌, Bool, not, List, Option, Some, None}
use Rattle.gate_model.specs.declared.record.Moment.{Moment}
use Rattle.gate_model.specs.declared.submission.Body.{Body}
use Rattle.gate_model.specs.declared.submission.Body.TheVariants as bodies
use Rattle.gate_model.specs.declared.act.Span.{Span}
use Rattle.gate_model.specs.declared.act.Deed.TheVariants as deeds
use Rattle.gate_model.specs.declared.act.Act.{Act}
use Rattle.gate_model.specs.declared.act.Act.TheVariants as acts

-- `persistent` of a command: any number but 0
abbrev pub is_persistent : ℕ → Bool
is_persistent number = not (number == 0)

-- `sticky` of a command: 2 alone
abbrev pub is_sticky : ℕ → Bool
is_sticky number = number == 2

-- `fixed` of a command: 1 alone
abbrev pub is_fixed : ℕ → Bool
is_fixed number = number == 1

-- the downtime that a command with these arguments asks for
abbrev pub span_of : Moment → Moment → ℕ → ℕ → ℕ → Span
span_of starts ends fixed trigger lasts =
    record { starts = starts; ends = ends; fixed = is_fixed fixed; trigger = trigger; lasts = lasts }

-- what a body asks for
abbrev pub act_of : Body → Act
act_of (bodies.Result host service code output) = acts.On host service (deeds.Result code)
act_of (bodies.AddComment host service persistent author text) =
    acts.On host service (deeds.AddComment (is_persistent persistent))
act_of (bodies.DelComment kind id) = acts.DelComment kind id
act_of (bodies.DelAllComments host service) = acts.On host service deeds.DelAllComments
act_of (bodies.Acknowledge host service sticky notify persistent author text) =
    acts.On host service (deeds.Acknowledge (is_sticky sticky) (is_persistent persistent))
act_of (bodies.RemoveAck host service) = acts.On host service deeds.RemoveAck
act_of (bodies.Schedule host service starts ends fixed trigger lasts author text) =
    acts.On host service (deeds.Schedule (span_of starts ends fixed trigger lasts))
act_of (bodies.DelDowntime kind id) = acts.DelDowntime kind id
act_of (bodies.Passive host service on) = acts.On host service (deeds.Passive on)
act_of (bodies.ScheduleServices host starts ends fixed trigger lasts author text) =
    acts.ScheduleServices host (span_of starts ends fixed trigger lasts)
act_of bodies.Shutdown = acts.Shutdown

-- ---- what else a body has

-- the author and the text of a comment, an acknowledgement or a downtime
abbrev pub words_of : Body → Option (List ℕ × List ℕ)
words_of (bodies.AddComment host service persistent author text) = Some (author, text)
words_of (bodies.Acknowledge host service sticky notify persistent author text) = Some (author, text)
words_of (bodies.Schedule host service starts ends fixed trigger lasts author text) = Some (author, text)
words_of (bodies.ScheduleServices host starts ends fixed trigger lasts author text) = Some (author, text)
words_of _ = None

-- the output of a check result
abbrev pub output_of : Body → Option (List ℕ)
output_of (bodies.Result host service code output) = Some output
output_of _ = None
