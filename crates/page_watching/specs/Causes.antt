-- Why a gateway shows no new page, in the words of its alarm: `cause_of`; and why its page is old: `old_cause`. Own
-- words.
use Rattle.std.specs.Prelude.{ℕ, List, ◌++◌, Option, Some, None, codes}
use Rattle.std.specs.Fmt.{decimal}
use Rattle.status_reading.specs.declared.page.ReadFault.{ReadFault}
use Rattle.status_reading.specs.declared.page.ReadFault.TheVariants as text
use Rattle.status_reading.specs.RowFaults.{row_fault_words}
use Rattle.page_fetching.specs.declared.fetching.FetchFault.{FetchFault}
use Rattle.page_fetching.specs.declared.fetching.FetchFault.TheVariants.{Unreachable, TooSlow, TooLong, Broken, OutOfMemory}
use Rattle.status_memory.specs.declared.alarm.Alarm.{Alarm}
use Rattle.status_memory.specs.declared.alarm.Alarm.TheVariants as alarm
use Rattle.page_watching.specs.declared.causes.NoPage.{NoPage}
use Rattle.page_watching.specs.declared.causes.NoPage.TheVariants.{Fetch, Read}

-- the words of a fetch's fault
abbrev pub fetch_cause : FetchFault → List ℕ
fetch_cause Unreachable = codes "it can't be reached"
fetch_cause TooSlow = codes "its page takes too long"
fetch_cause TooLong = codes "its page is too long"
fetch_cause Broken = codes "its page can't be read"
fetch_cause OutOfMemory = codes "out of memory"

-- the words of a text's fault, with the number of its first bad line
abbrev pub read_cause : ReadFault → List ℕ
read_cause text.NoStatus = codes "it does not show a status page"
read_cause (text.BadLine number) = codes "its page is damaged or cut off at line " ++ decimal number
read_cause (text.BadRow number fault) =
    codes "its page is damaged or cut off at line " ++ decimal number ++ codes ": " ++ row_fault_words fault
read_cause text.OutOfMemory = codes "out of memory"

-- the words of the last fetch's fault; there is none before the first fetch ends, and where the next is late
abbrev pub cause_of : Option NoPage → List ℕ
cause_of None = codes "its page was not fetched in time"
cause_of (Some (Fetch fault)) = fetch_cause fault
cause_of (Some (Read fault)) = read_cause fault

-- the words why a page is old, by the alarm that says so
abbrev pub old_cause : Alarm → Option NoPage → List ℕ
old_cause (alarm.StandsStill age) fault = codes "it stands still"
old_cause (alarm.ClockAhead seconds) fault = codes "its clock is ahead"
old_cause other fault = cause_of fault
