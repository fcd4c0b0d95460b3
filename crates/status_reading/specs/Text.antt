-- When a text is that of a page: `IsTextOf`.
use Rattle.std.specs.Prelude.{◌≡◌, ℕ, List}
use Rattle.status_reading.specs.Rows.{PageView}
use Rattle.status_reading.specs.Page.{page_text}
use Rattle.status_reading.specs.Readable.{IsReadable}
use Rattle.status_reading.specs.RowFaults.{IsSound}

-- the text is that of this page, whose fields can be read and no row of which has a fault
pub record IsTextOf (text : List ℕ) (page : PageView) : Type 0 where
  pub written : text ≡ page_text page
  pub readable : IsReadable page
  pub sound : IsSound page

-- it is that of a page
abbrev pub IsRead : List ℕ → Type 0
IsRead text = (page : PageView) × IsTextOf text page
