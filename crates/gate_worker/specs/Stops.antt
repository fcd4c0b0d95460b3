-- When a worker ends. Own rules.
use Rattle.std.specs.Prelude.{◌≡◌, ℕ, ◌<◌, ◌≤◌, Option, None, IsSome}
use Rattle.gate_model.specs.declared.record.Moment.{Moment}
use Rattle.gate_worker.specs.declared.worker.Cause.{Cause}
use Rattle.gate_worker.specs.declared.worker.Cause.TheVariants.{Closing, TooManySessions, OutOfMemory, NoMoreConnections}

-- a worker that may serve so many connections ended for this cause after those that it served, with what its client
-- then knows of the close: it never serves more; only where its client knows of none does it end for another cause;
-- only at that number are they too many, and only below it do they end or is there no memory for one more
abbrev pub StopsAt : ℕ → Cause → ℕ → Option Moment → Type 0
StopsAt sessions Closing served known_close = (served ≤ sessions) × IsSome known_close
StopsAt sessions TooManySessions served known_close = (served ≡ sessions) × (known_close ≡ None)
StopsAt sessions OutOfMemory served known_close = (served < sessions) × (known_close ≡ None)
StopsAt sessions NoMoreConnections served known_close = (served < sessions) × (known_close ≡ None)
