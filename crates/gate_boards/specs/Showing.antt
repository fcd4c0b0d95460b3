-- What the reader of a page gets, `ShowsBoard`, and what a server of pages does, `IsShowing`. Own rules.
use Rattle.std.specs.Prelude.{◌≡◌, ◌⊎◌, ℕ, List, [], ◌∷◌, ◌++◌, map, Bool, true, false, Option, is_some}
use Rattle.std.specs.List.{AllByRecursion}
use Rattle.gate_environment.specs.Streams.{SendFirst, AreSent}
use Rattle.gate_pages.specs.StatusPage.{BoardView, status_text}
use Rattle.gate_streams.specs.Sink.{SinkState, Delivers, FailsOnce}
use Rattle.gate_boards.specs.declared.pages.PagesEnd.{PagesEnd}
use Rattle.gate_boards.specs.declared.pages.PagesEnd.TheVariants.{Closed, NoMoreReaders}

-- the status page of a board was written and delivered, or a call of the output failed, or nothing was written, since
-- there was no memory for it; it is the last page exactly where that board is marked closing
pub record ShowsBoard (before after : SinkState) (is_last : Bool) : Type 0 where
  pub board : BoardView
  pub page : Delivers before after (status_text board) ⊎ FailsOnce before after ⊎ (after ≡ before)
  pub last : is_last ≡ is_some board.closing

-- a reader who was served: what it sent, where that is known, its output before and after, and whether its page was the
-- last one
pub record ServedReader : Type 0 where
  pub sent : Option (List ℕ)
  pub before : SinkState
  pub after : SinkState
  pub is_last : Bool

-- each of them was shown a board
abbrev pub EachShown : List ServedReader → Type 0
EachShown readers = AllByRecursion (λ reader. ShowsBoard reader.before reader.after reader.is_last) readers

-- none of them was shown a closing board
abbrev pub NoneIsLast : List ServedReader → Type 0
NoneIsLast readers = AllByRecursion (λ reader. reader.is_last ≡ false) readers

-- the pages ended so: at the first reader who was shown a closing board, or where none was and no more came
abbrev pub EndsShowing : PagesEnd → List ServedReader → Option (List (List ℕ)) → Type 0
EndsShowing Closed readers left =
    (others : List ServedReader) × (last : ServedReader) × (readers ≡ others ++ last ∷ [])
    × NoneIsLast others × (last.is_last ≡ true)
EndsShowing NoMoreReaders readers left = NoneIsLast readers × AreSent left

-- a server of pages served connections that sent the first of these streams, each with a board, and ended so
pub record IsShowing (streams : Option (List (List ℕ))) (end : PagesEnd) : Type 0 where
  pub readers : List ServedReader
  pub left : Option (List (List ℕ))
  pub sent : SendFirst streams (map (λ reader. reader.sent) readers) left
  pub each : EachShown readers
  pub ends : EndsShowing end readers left
