-- The commands that a request is, on a status page (External Command List): `commands_of`. None stands for a command
-- that there is not, since its words are faulty; `first_fault` is the first fault of the words. Own rule: the faults.
use Rattle.std.specs.Prelude.{ℕ, ◌==◌, Bool, true, false, List, [], ◌∷◌, length, map, Option, Some, None, option_map, is_none, Ok, Err, if◌then◌else◌}
use Rattle.std.specs.List.{list_any}
use Rattle.std.specs.Result.{result_err, result_ok}
use Rattle.gate_model.specs.declared.object.Kind.{Kind}
use Rattle.gate_model.specs.declared.object.Kind.TheVariants.{Host, Service}
use Rattle.gate_model.specs.declared.record.Moment.{Moment}
use Rattle.gate_model.specs.declared.submission.Body.{Body}
use Rattle.gate_model.specs.declared.submission.Body.TheVariants as bodies
use Rattle.gate_grammar.specs.Numbers.{number_of}
use Rattle.status_reading.specs.Rows.{PageView}
use Rattle.page_changes.specs.Foreseen.{comment_field, downtime_field}
use Rattle.operator_commands.specs.declared.request.Object.{Object}
use Rattle.operator_commands.specs.declared.request.Remark.{Remark}
use Rattle.operator_commands.specs.declared.request.Window.{Window}
use Rattle.operator_commands.specs.declared.request.Request.{Request}
use Rattle.operator_commands.specs.declared.request.Request.TheVariants as request
use Rattle.operator_commands.specs.declared.bodies.RequestFault.{RequestFault}
use Rattle.operator_commands.specs.declared.bodies.RequestFault.TheVariants.{BadId}
use Rattle.operator_commands.specs.Bodies.{body_for, schedule}
use Rattle.operator_commands.specs.Times.{times_of}
use Rattle.operator_effects.specs.declared.commands.Deleted.{Deleted}
use Rattle.operator_effects.specs.declared.commands.Deleted.TheVariants.{Comment, Downtime}
use Rattle.operator_effects.specs.declared.commands.PlanFault.{PlanFault}
use Rattle.operator_effects.specs.declared.commands.PlanFault.TheVariants as fault

-- the kind of the object whose row has this field of the service; a host's is empty, and where there is no row it is one
abbrev pub kind_of : Option (List ℕ) → Kind
kind_of None = Host
kind_of (Some field) = if length field == 0 then Host else Service

-- the deletion of the comment or the downtime entry of this id, as one of a host or of a service, as the page has it
abbrev pub deletion_of : Deleted → PageView → ℕ → Body
deletion_of Comment page id = bodies.DelComment (kind_of (comment_field id page.comments)) id
deletion_of Downtime page id = bodies.DelDowntime (kind_of (downtime_field id page.downtimes)) id

-- the deletion of the one of the id that a word is
abbrev pub deletion : Deleted → PageView → List ℕ → Option Body
deletion deleted page word = option_map (deletion_of deleted page) (number_of word)

-- the deletion of all comments of the object that one word or two are
abbrev pub comments_deletion : List (List ℕ) → Option Body
comments_deletion (host ∷ []) = Some (bodies.DelAllComments host None)
comments_deletion (host ∷ service ∷ []) = Some (bodies.DelAllComments host (Some service))
comments_deletion words = None

-- downtime of a window that is asked for now
abbrev pub downtime : List ℕ → Moment → Object → Remark → Window → Bool → Option Body
downtime user now object remark window services =
    elim (times_of now window) [ Ok times ↦ result_ok (schedule user object remark times services) | Err fault ↦ None ]

-- the commands of a request, in the order of its words
abbrev pub commands_of : PageView → Moment → List ℕ → Request → List (Option Body)
commands_of page now user (request.Uncomment words true) = comments_deletion words ∷ []
commands_of page now user (request.Uncomment words false) = map (deletion Comment page) words
commands_of page now user (request.Cancel ids) = map (deletion Downtime page) ids
commands_of page now user (request.Downtime object remark window services) =
    downtime user now object remark window services ∷ []
commands_of page now user other = result_ok (body_for user other) ∷ []

-- ---- the first fault of the words

-- one of the words is no number
abbrev pub ids_fault : List (List ℕ) → Option PlanFault
ids_fault words = if list_any (λ word. is_none (number_of word)) words then Some (fault.Request BadId) else None

-- there is neither one word, a host, nor two, a host and a service
abbrev pub object_fault : List (List ℕ) → Option PlanFault
object_fault (host ∷ []) = None
object_fault (host ∷ service ∷ []) = None
object_fault words = Some fault.NoObject

-- what is wrong with downtime of a window that is asked for now
abbrev pub downtime_fault : List ℕ → Moment → Object → Remark → Window → Bool → Option RequestFault
downtime_fault user now object remark window services =
    elim (times_of now window) [
      | Ok times ↦ result_err (schedule user object remark times services)
      | Err cause ↦ Some cause
    ]

-- the first fault of a request that is asked for now by this user
abbrev pub first_fault : Moment → List ℕ → Request → Option PlanFault
first_fault now user (request.Uncomment words true) = object_fault words
first_fault now user (request.Uncomment words false) = ids_fault words
first_fault now user (request.Cancel ids) = ids_fault ids
first_fault now user (request.Downtime object remark window services) =
    option_map fault.Request (downtime_fault user now object remark window services)
first_fault now user other = option_map fault.Request (result_err (body_for user other))
