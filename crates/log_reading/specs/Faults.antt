-- When a text is no log page: `IsFaultOf`. Line 1 has the number of records; the record at index i, from 0, has line
-- i + 2.
use Rattle.std.specs.Prelude.{◌≡◌, ℕ, ◌+◌, ◌<◌, List, ◌∷◌, ◌++◌, length, codes, false}
use Rattle.std.specs.List.{flat_map}
use Rattle.std.specs.Fmt.{decimal}
use Rattle.gate_grammar.specs.Spelling.{holds}
use Rattle.status_reading.specs.Readable.{Fits}
use Rattle.log_reading.specs.declared.logged.Logged.{Logged}
use Rattle.log_reading.specs.declared.page.LogFault.{LogFault}
use Rattle.log_reading.specs.declared.page.LogFault.TheVariants.{NoLog, CutOff, BadLine, ExtraLine, OutOfMemory}
use Rattle.log_reading.specs.Log.{logged_line, IsReadable}

-- `log COUNT`
abbrev pub first_line : ℕ → List ℕ
first_line count = codes "log " ++ decimal count ++ codes "\n"

-- the text begins with the first line of a log of so many records and the lines of these, and goes on with this
pub record GoesOn (text : List ℕ) (count : ℕ) (before : List Logged) (rest : List ℕ) : Type 0 where
  pub fits : Fits count
  pub whole : text ≡ first_line count ++ flat_map logged_line before ++ rest

-- the page ends before this line, or within it
pub record IsCutOff (text : List ℕ) (number : ℕ) : Type 0 where
  pub count : ℕ
  pub before : List Logged
  pub line : List ℕ
  pub so_far : GoesOn text count before line
  pub one_line : holds 10 line ≡ false
  pub wanted : length before < count
  pub after : number ≡ length before + 2

-- this line is that of no record
pub record IsBadLine (text : List ℕ) (number : ℕ) : Type 0 where
  pub count : ℕ
  pub before : List Logged
  pub line : List ℕ
  pub rest : List ℕ
  pub so_far : GoesOn text count before (line ++ 10 ∷ rest)
  pub one_line : holds 10 line ≡ false
  pub wanted : length before < count
  pub none : (one : Logged) → IsReadable one → line ++ codes "\n" ≡ logged_line one → ⊥
  pub after : number ≡ length before + 2

-- this line stands after the last record
pub record IsExtraLine (text : List ℕ) (number : ℕ) : Type 0 where
  pub before : List Logged
  pub rest : List ℕ
  pub so_far : GoesOn text (length before) before rest
  pub some : 0 < length rest
  pub after : number ≡ length before + 2

-- why this text is no log page; memory may run out at any
abbrev pub IsFaultOf : List ℕ → LogFault → Type 0
IsFaultOf text NoLog = (count : ℕ) (rest : List ℕ) → Fits count → text ≡ first_line count ++ rest → ⊥
IsFaultOf text (CutOff number) = IsCutOff text number
IsFaultOf text (BadLine number) = IsBadLine text number
IsFaultOf text (ExtraLine number) = IsExtraLine text number
IsFaultOf text OutOfMemory = Unit {0}
