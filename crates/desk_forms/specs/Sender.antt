-- What is kept of a request that is admitted: its user, and the fields of its form.
use Rattle.std.specs.Prelude.{ℕ, List}
use Rattle.desk_forms.specs.declared.fields.Field.{Field}

pub record Sender : Type 0 where
  pub user : List ℕ
  pub fields : List Field
