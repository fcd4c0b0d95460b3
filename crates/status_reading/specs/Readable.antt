-- The rows whose page can be read: no field holds an LF, none but the last of a line a semicolon, and the numbers have
-- 32 bits. `IsReadable` is the main definition.
use Rattle.std.specs.Prelude.{◌≡◌, ℕ, ◌<◌, ◌^◌, List, false, IfSome, Option}
use Rattle.std.specs.List.{AllByRecursion}
use Rattle.gate_grammar.specs.Spelling.{joined, holds, IsSplit}
use Rattle.status_reading.specs.Rows.{ObjectView, CommentView, DowntimeView, PageView}
use Rattle.status_reading.specs.Page.{object_fields, comment_fields, downtime_fields}

-- no field holds an LF, and none but the last a semicolon
pub record AreApart (fields : List (List ℕ)) : Type 0 where
  pub split : IsSplit fields
  pub one_line : holds 10 (joined fields) ≡ false

-- a number of 32 bits
abbrev pub Fits : ℕ → Type 0
Fits number = number < 2 ^ 32

-- no number, or one of 32 bits
abbrev pub MayFit : Option ℕ → Type 0
MayFit number = IfSome number Fits

-- an object's row
pub record IsReadableObject (row : ObjectView) : Type 0 where
  pub apart : AreApart (object_fields row)
  pub last : MayFit row.last
  pub depth : Fits row.depth

-- a comment's row
pub record IsReadableComment (row : CommentView) : Type 0 where
  pub apart : AreApart (comment_fields row)
  pub id : Fits row.id
  pub moment : Fits row.moment

-- a downtime entry's row
pub record IsReadableDowntime (row : DowntimeView) : Type 0 where
  pub apart : AreApart (downtime_fields row)
  pub id : Fits row.id
  pub trigger : Fits row.trigger
  pub start : Fits row.start
  pub end : Fits row.end
  pub duration : Fits row.duration
  pub begin : MayFit row.begin

-- all rows of a page
pub record IsReadable (page : PageView) : Type 0 where
  pub moment : Fits page.moment
  pub objects : AllByRecursion IsReadableObject page.objects
  pub comments : AllByRecursion IsReadableComment page.comments
  pub downtimes : AllByRecursion IsReadableDowntime page.downtimes
  pub closing : MayFit page.closing
