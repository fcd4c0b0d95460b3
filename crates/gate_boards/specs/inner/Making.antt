-- Only private functions use this: the page of a board.
use Rattle.std.specs.Prelude.{◌≡◌, ℕ, Bool, is_some, Result, IfOk, Vec}
use Rattle.std.specs.Arc.{arc_value}
use Rattle.std.specs.declared.sync.Arc.{Arc}
use Rattle.std.specs.declared.alloc.AllocError.{AllocError}
use Rattle.gate_pages.specs.StatusPage.{BoardView, status_text}

-- a page that readers share, if there was memory for it, and whether it is the last one, are those of some board
pub record IsMadeOf {Allocator Owner : Type 0} (page : Result (Arc (Vec ℕ Allocator) Owner) AllocError) (is_last : Bool) : Type 0 where
  pub board : BoardView
  pub text : IfOk page (λ shared. (arc_value shared).items ≡ status_text board)
  pub last : is_last ≡ is_some board.closing
