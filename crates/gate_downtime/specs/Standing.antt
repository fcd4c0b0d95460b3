-- When a book of downtime stands after a history, at a moment: all that it shows is the meaning of that history. The
-- main definitions are `IsStanding`, `HoldsAfter`, `AddsEvent` and `StandsLater`.
use Rattle.std.specs.Prelude.{◌≡◌, ℕ, List, ◌∷◌}
use Rattle.gate_model.specs.declared.record.Moment.{Moment}
use Rattle.gate_model.specs.declared.downtime.Scheduled.{Scheduled}
use Rattle.gate_model.specs.declared.downtime.DowntimeEvent.{DowntimeEvent}
use Rattle.gate_model.specs.Record.{later}
use Rattle.gate_model.specs.Downtime.{entries_of}
use Rattle.gate_downtime.specs.Book.{DowntimeView, live_entries}

-- the book has the entries of this history, the first of all having the id `first`, and is at this moment
pub record IsStanding (first : ℕ) (book : DowntimeView) (history : List DowntimeEvent) (moment : Moment) : Type 0 where
  pub entries_are : book.entries ≡ entries_of first history
  pub moment_is : book.moment ≡ moment
  pub first_id_is : book.first_id ≡ first

-- this is so of every history after which the book stands, with its first id and its moment
abbrev pub HoldsAfter : DowntimeView → (ℕ → List DowntimeEvent → Moment → Type 0) → Type 0
HoldsAfter book holds =
    (first : ℕ) (history : List DowntimeEvent) (moment : Moment)
    → IsStanding first book history moment → holds first history moment

-- after whichever history the old book stands, the new one stands at the later of its moment and this one
abbrev pub StandsLater : Moment → DowntimeView → DowntimeView → Type 0
StandsLater to old new = HoldsAfter old (λ first history moment. IsStanding first new history (later moment to))

-- after whichever history the old book stands, the new one stands after it with the event of its moment added
abbrev pub AddsEvent : (Moment → DowntimeEvent) → DowntimeView → DowntimeView → Type 0
AddsEvent event old new =
    HoldsAfter old (λ first history moment. IsStanding first new (event moment ∷ history) moment)

-- the entries that are live at this moment, after this history, ids ascending
abbrev pub live_of : ℕ → List DowntimeEvent → Moment → List Scheduled
live_of first history moment = live_entries (entries_of first history) moment
