-- What is kept of a gateway: `IsKeptOf`, `IsNotKept`.
use Rattle.std.specs.Prelude.{◌≡◌, Some, None}
use Rattle.status_reading.specs.Rows.{PageView}
use Rattle.status_reading.specs.Text.{IsTextOf}
use Rattle.status_memory.specs.declared.memory.Kept.{Kept}
use Rattle.page_watching.specs.declared.watching.Seen.{Seen}
use Rattle.page_watching.specs.Watching.{Shared, bytes_of}

-- this page is kept of a gateway
abbrev pub IsKeptOf : Seen → PageView → Type 0
IsKeptOf seen page =
    (kept : Kept Shared) × (seen.memory.last ≡ Some kept) × IsTextOf (bytes_of kept.page.text) page

-- no page is kept of it
abbrev pub IsNotKept : Seen → Type 0
IsNotKept seen = seen.memory.last ≡ None
