-- Why a comment isn't deleted.
use Rattle.std.specs.Prelude.{ℕ, List, Option, Some, None, Result, Ok, Err, if◌then◌else◌, find}
use Rattle.gate_model.specs.declared.object.Kind.{Kind}
use Rattle.gate_model.specs.declared.comments.Comment.{Comment}
use Rattle.gate_model.specs.Meaning.{is_same_kind}
use Rattle.gate_comments.specs.declared.faults.DeleteFault.{DeleteFault}
use Rattle.gate_comments.specs.declared.faults.DeleteFault.TheVariants.{NoSuchComment, WrongKind}
use Rattle.gate_comments.specs.Search.{has_id}

-- the answer to a deletion of this comment, or of none, by a command for objects of this kind
abbrev pub deletion_of : Kind → Option Comment → Result (Unit {0}) DeleteFault
deletion_of kind None = Err NoSuchComment
deletion_of kind (Some comment) = if is_same_kind kind comment.object.kind then Ok tt else Err WrongKind

-- the answer to a deletion of the comment of this id
abbrev pub deletion_by_id : Kind → ℕ → List Comment → Result (Unit {0}) DeleteFault
deletion_by_id kind id comments = deletion_of kind (find (has_id id) comments)
