-- An order with its label: `LabelledView`. Own rules.
use Rattle.std.specs.Prelude.{◌≡◌, ℕ, List, [], unwrap_or, codes}
use Rattle.gate_model.specs.declared.record.Moment.{Moment}
use Rattle.gate_grammar.specs.declared.commands.Command.{Command}
use Rattle.status_reading.specs.Rows.{PageView}
use Rattle.desk_forms.specs.declared.fields.Field.{Field}
use Rattle.desk_forms.specs.Fields.{given}
use Rattle.desk_forms.specs.Sender.{Sender}
use Rattle.desk_sending.specs.Orders.{IsOrder}
use Rattle.desk_outbox.specs.declared.labels.Label.{Label}

-- the names of the object that fields have
abbrev pub host_in : List Field → List ℕ
host_in fields = unwrap_or (given (codes "host") fields) []

abbrev pub service_in : List Field → List ℕ
service_in fields = unwrap_or (given (codes "service") fields) []

-- the label of a form's order at a moment
abbrev pub label_of : Moment → Sender → Label
label_of now form =
    record { user = form.user; host = host_in form.fields; service = service_in form.fields; at = now.0 }

pub record LabelledView : Type 0 where
  pub label : Label
  pub command : Command

-- the order is the form's on this page at this moment, and so is its label
pub record IsLabelledOf (page : PageView) (now : Moment) (form : Sender) (order : LabelledView) : Type 0 where
  pub ordered : IsOrder page now form order.command
  pub labelled : order.label ≡ label_of now form

-- the same of some page, moment and form
abbrev pub IsOfForm : LabelledView → Type 0
IsOfForm order = (page : PageView) × (now : Moment) × (form : Sender) × IsLabelledOf page now form order
