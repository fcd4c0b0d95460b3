-- The command of a form: `IsCommandOf`.
use Rattle.std.specs.Prelude.{◌≡◌, [], ◌∷◌, Some}
use Rattle.gate_model.specs.declared.record.Moment.{Moment}
use Rattle.gate_model.specs.declared.submission.Body.{Body}
use Rattle.status_reading.specs.Rows.{PageView}
use Rattle.operator_commands.specs.declared.request.Request.{Request}
use Rattle.operator_effects.specs.Commands.{commands_of}
use Rattle.desk_forms.specs.Sender.{Sender}
use Rattle.desk_forms.specs.Requests.{request_of}

-- this is the one command of the form's request, that its user asks for now
pub record IsCommandOf (page : PageView) (now : Moment) (form : Sender) (body : Body) : Type 0 where
  pub asked : Request
  pub is_asked : request_of page form.fields ≡ Some asked
  pub command : commands_of page now form.user asked ≡ Some body ∷ []
