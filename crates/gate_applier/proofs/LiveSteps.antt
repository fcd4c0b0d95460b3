-- Live downtime entries with their beginnings.
use Rattle.std.proofs.Common.{◌≡◌, ℕ, List, [], ◌∷◌, map, reverse, refl, ap, ◌∙◌}
use Rattle.std.specs.Prelude.{filter}
use Rattle.gate_model.specs.declared.record.Moment.{Moment}
use Rattle.gate_model.specs.declared.downtime.Scheduled.{Scheduled}
use Rattle.gate_model.specs.declared.downtime.Entry.{Entry}
use Rattle.gate_model.specs.declared.downtime.DowntimeEvent.{DowntimeEvent}
use Rattle.gate_model.specs.Downtime.{entries_of, begin_in, is_live_in}
use Rattle.gate_model.specs.declared.object.ObjectLine.{ObjectLine}
use Rattle.gate_model.specs.declared.record.Record.{Record}
use Rattle.gate_model.specs.Meaning.{LiveEntry, history_of, downtime_events, downtimes_at}
use Rattle.gate_downtime.specs.Book.{DowntimeView, live_entries}
use Rattle.gate_downtime.specs.Standing.{IsStanding}
use Rattle.gate_applier.specs.inner.Downtimes.{with_begins}

begins-each : (begin : ℕ → _) (entries : List Entry)
    → map (λ (one : Scheduled). let live : LiveEntry = record { scheduled = one; begin = begin one.id } in live) (map (λ (entry : Entry). entry.scheduled) entries)
    ≡ map (λ (entry : Entry). let live : LiveEntry = record { scheduled = entry.scheduled; begin = begin entry.scheduled.id } in live) entries
begins-each begin [] = refl
begins-each begin (entry ∷ entries) = ap (λ rest. (let live : LiveEntry = record { scheduled = entry.scheduled; begin = begin entry.scheduled.id } in live) ∷ rest) (begins-each begin entries)

abbrev live_with_begins : List Entry → Moment → List LiveEntry
live_with_begins entries moment =
    map (λ (entry : Entry). let live : LiveEntry = record { scheduled = entry.scheduled; begin = begin_in entries entry.scheduled.id } in live)
    (filter (λ (entry : Entry). is_live_in entries moment.0 entry.scheduled.id) (reverse entries))

-- the live entries of a book that stands after a history are those of the history, with their beginnings
pub live-begins : (book : DowntimeView) (history : List DowntimeEvent) (moment : Moment) → IsStanding 1 book history moment
    → with_begins book (live_entries book.entries book.moment) ≡ live_with_begins (entries_of 1 history) moment
live-begins book history moment stands =
    begins-each (begin_in book.entries) (filter (λ (entry : Entry). is_live_in book.entries book.moment.0 entry.scheduled.id) (reverse book.entries))
    ∙ ap (λ (entries : List Entry). live_with_begins entries book.moment) stands.entries_are
    ∙ ap (λ (at : Moment). live_with_begins (entries_of 1 history) at) stands.moment_is

pub live-at : (book : DowntimeView) (table : List ObjectLine) (records : List Record) (moment : Moment) → IsStanding 1 book (downtime_events table (history_of table records)) moment
    → with_begins book (live_entries book.entries book.moment) ≡ downtimes_at table records moment
live-at book table records moment stands = live-begins book (downtime_events table (history_of table records)) moment stands
