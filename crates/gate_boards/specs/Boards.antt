-- When the applier publishes a board: is_due. Own rules, by the times of the daemon: moments are whole seconds, and all other
-- times are in milliseconds.
use Rattle.std.specs.Prelude.{ℕ, ◌-◌, ◌*◌, ◌%◌, ◌/◌, if◌then◌else◌, pred, min, max, is_some, Option, Some, None, Bool, true, false, not, ◌&&◌, ◌==◌, nat_lt, nat_le}
use Rattle.std.specs.declared.time.Duration.{Duration}
use Rattle.std.specs.Duration.{as_nanos}
use Rattle.gate_model.specs.declared.record.Moment.{Moment}
use Rattle.gate_boards.specs.declared.boards.Found.{Found}
use Rattle.gate_boards.specs.declared.boards.Found.TheVariants.{Item, Nothing}
use Rattle.gate_boards.specs.declared.boards.LastBoard.{LastBoard}

-- the board was published, and shows so many records and this moment
abbrev pub shows_all : LastBoard → ℕ → Moment → Bool
shows_all board records now = is_some board.published && ((board.records == records) && nat_le now.0 board.moment.0)

-- for how long no other board is made after one that took so long: nine times as long, from 50 ms to 5 s
abbrev pub rest_after : ℕ → ℕ
rest_after took = max 50 (min 5000 (9 * took))

-- Once so long a time has passed since the last board that it has rested: after an item, where the second of the last board is
-- over; where none was found, once it was quiet for long enough and the last board doesn't show all.
abbrev pub is_due : Found → LastBoard → ℕ → Moment → ℕ → Bool
is_due Item board records now passed = nat_lt board.moment.0 now.0 && nat_le board.rest_millis passed
is_due Nothing board records now passed =
    (board.quiet_pauses == 0) && (not (shows_all board records now) && nat_le board.rest_millis passed)

-- how many turns without an item come before a board: three after an item, and otherwise one less than before
abbrev pub quiet_after : Found → ℕ → ℕ
quiet_after Item pauses = 3
quiet_after Nothing pauses = pred pauses

-- how long the applier sleeps where a board isn't due yet: until the last one has rested, and 2 ms at least; 2 ms until it was
-- quiet for long enough
abbrev pub sleep_before : LastBoard → ℕ → ℕ
sleep_before board passed = if board.quiet_pauses == 0 then max 2 (board.rest_millis - passed) else 2

-- how many milliseconds of a clock's second are left, 1 to 1,000, by the time since the epoch that it shows; 1,000 where it shows none
abbrev pub millis_left : Option Duration → ℕ
millis_left None = 1000
millis_left (Some since) = 1000 - as_nanos since % 1000000000 / 1000000
