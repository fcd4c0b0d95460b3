-- Only proofs and private functions use this: an applier without an item, and the board that was tried last.
use Rattle.std.specs.Prelude.{◌≡◌, ℕ, length}
use Rattle.gate_model.specs.declared.record.Moment.{Moment}
use Rattle.gate_model.specs.Record.{later}
use Rattle.gate_environment.specs.Clock.{ClockState, Shows}
use Rattle.gate_applier.specs.Applier.{ApplierView}
use Rattle.gate_boards.specs.Boards.{rest_after}
use Rattle.gate_boards.specs.declared.boards.LastBoard.{LastBoard}

-- the clock was read, and the applier's moment is the later of its own and that reading
abbrev pub GoesOn : ClockState → ClockState → Moment → Moment → Type 0
GoesOn before after old new = (now : Moment) × Shows before after now × (new ≡ later old now)

-- it is of all of the applier's records, at its moment; and it rests for nine times as long as it took, from 50 ms to 5 s
pub record IsTried (applier : ApplierView) (board : LastBoard) : Type 0 where
  pub records : board.records ≡ length applier.records
  pub moment : board.moment ≡ applier.moment
  pub rest : (took : ℕ) × (board.rest_millis ≡ rest_after took)
