-- Only proofs and private functions use this: live downtime entries with their beginnings.
use Rattle.std.specs.Prelude.{List, map}
use Rattle.gate_model.specs.declared.downtime.Scheduled.{Scheduled}
use Rattle.gate_model.specs.Downtime.{begin_in}
use Rattle.gate_model.specs.Meaning.{LiveEntry}
use Rattle.gate_downtime.specs.Book.{DowntimeView}

-- these entries of a book, each with its beginning
abbrev pub with_begins : DowntimeView → List Scheduled → List LiveEntry
with_begins book scheduled =
    map (λ (one : Scheduled). record { scheduled = one; begin = begin_in book.entries one.id }) scheduled
