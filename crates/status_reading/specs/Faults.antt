-- When a text is no status page: `IsFaultOf`.
use Rattle.std.specs.Prelude.{◌≡◌, ℕ, ◌+◌, ◌<◌, ◌⊎◌, List, ◌∷◌, ◌++◌, length, false, Option, Some, None}
use Rattle.gate_grammar.specs.Spelling.{holds}
use Rattle.status_reading.specs.declared.page.ReadFault.{ReadFault}
use Rattle.status_reading.specs.declared.page.ReadFault.TheVariants.{NoStatus, BadLine, BadRow, OutOfMemory}
use Rattle.status_reading.specs.Rows.{PageView}
use Rattle.status_reading.specs.Page.{status_line, page_text}
use Rattle.status_reading.specs.Readable.{Fits, IsReadable}
use Rattle.status_reading.specs.RowFaults.{IsUnsound}

-- how many lines the close takes
abbrev pub closing_lines : Option ℕ → ℕ
closing_lines None = 0
closing_lines (Some moment) = 1

-- how many lines a page has
abbrev pub line_count : PageView → ℕ
line_count page =
    1 + length page.objects + length page.comments + length page.downtimes + closing_lines page.closing

-- after these lines the text ends in one without LF
pub record IsCutOff (text before : List ℕ) : Type 0 where
  pub line : List ℕ
  pub whole : text ≡ before ++ line
  pub some : 0 < length line
  pub one_line : holds 10 line ≡ false

-- after these lines the text has one that no page has there
pub record IsForeign (text before : List ℕ) : Type 0 where
  pub line : List ℕ
  pub rest : List ℕ
  pub whole : text ≡ before ++ (line ++ 10 ∷ rest)
  pub one_line : holds 10 line ≡ false
  pub none : (page : PageView) (more : List ℕ) → IsReadable page → page_text page ≡ before ++ (line ++ 10 ∷ more) → ⊥

-- the line of this number, from 1, is the first bad one: the lines before it are a page
pub record IsFirstBad (text : List ℕ) (number : ℕ) : Type 0 where
  pub before : PageView
  pub readable : IsReadable before
  pub after : number ≡ line_count before + 1
  pub bad : IsCutOff text (page_text before) ⊎ IsForeign text (page_text before)

-- each line of the text is one of a page, and a row of this page has this fault
pub record IsPageWith (text : List ℕ) (fault : ReadFault) : Type 0 where
  pub page : PageView
  pub readable : IsReadable page
  pub whole : text ≡ page_text page
  pub unsound : IsUnsound page fault

-- why this text can't be read; memory may run out at any
abbrev pub IsFaultOf : List ℕ → ReadFault → Type 0
IsFaultOf text NoStatus = (moment : ℕ) (rest : List ℕ) → Fits moment → text ≡ status_line moment ++ rest → ⊥
IsFaultOf text (BadLine number) = IsFirstBad text number
IsFaultOf text (BadRow line fault) = IsPageWith text (BadRow line fault)
IsFaultOf text OutOfMemory = Unit {0}
