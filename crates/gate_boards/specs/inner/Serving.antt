-- Only private functions use this: a server of pages, and what becomes of the pieces that it served.
use Rattle.std.specs.Prelude.{◌≡◌, ℕ, List, map, Option}
use Rattle.gate_environment.specs.declared.connections.PieceEnd.{PieceEnd}
use Rattle.gate_environment.specs.declared.connections.PieceEnd.TheVariants.{Over}
use Rattle.gate_environment.specs.Parting.{parting_all}
use Rattle.gate_boards.specs.declared.pages.PagesEnd.{PagesEnd}
use Rattle.gate_boards.specs.Showing.{IsShowing}

-- a server of pages served readers and ended so, and the connection of each of them was over after its piece
pub record ServesOnce (streams : Option (List (List ℕ))) (end : PagesEnd) (before after : Option (List PieceEnd)) : Type 0 where
  pub shows : IsShowing streams end
  pub parted : after ≡ parting_all (map (λ reader. Over) shows.readers) before
