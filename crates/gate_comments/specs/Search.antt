-- What a search by id finds among comments.
use Rattle.std.specs.Prelude.{ℕ, ◌==◌, Bool, List, Option}
use Rattle.gate_model.specs.declared.comments.Comment.{Comment}
use Rattle.gate_model.specs.Search.{index_by, AreAscendingBy}

-- the comment has this id
abbrev pub has_id : ℕ → Comment → Bool
has_id id comment = comment.id == id

-- the index of the comment of this id
abbrev pub index_of_id : ℕ → List Comment → Option ℕ
index_of_id id comments = index_by (λ (comment : Comment). comment.id) id comments

-- the ids ascend
abbrev pub IsAscending : List Comment → Type 0
IsAscending comments = AreAscendingBy (λ (comment : Comment). comment.id) comments
