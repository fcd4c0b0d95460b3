-- When it is said that nobody reads a log page, and what is said. Own rules.
use Rattle.std.specs.Prelude.{◌≡◌, ◌⊎◌, ℕ, ◌+◌, ◌-◌, ◌^◌, ◌==◌, min, if◌then◌else◌, codes}
use Rattle.gate_streams.specs.Sink.{SinkState, IsReported}

-- for how many milliseconds no line was printed, so many after it was for so many: lines are the ones printed before and now
abbrev pub still_after : (before still now later : ℕ) → ℕ
still_after before still now later = if now == before then min (still + later) (2 ^ 64 - 1) else 0

-- nothing was said, or once that nobody reads the log page
abbrev pub IsNoticed : SinkState → SinkState → Type 0
IsNoticed before after = (after ≡ before) ⊎ IsReported (codes "nscagate: nobody reads the log page\n") before after
