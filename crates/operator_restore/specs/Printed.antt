-- The log page in what daemons printed, one run after another: `IsLastPage`; and that it is whole, `is_whole`. Own rules.
use Rattle.std.specs.Prelude.{◌≡◌, ◌⊎◌, ℕ, ◌-◌, ◌==◌, ◌&&◌, nat_eq, Bool, List, [], ◌∷◌, ◌++◌, count_by, codes}
use Rattle.std.specs.List.{ends_with, starts_with}
use Rattle.log_reading.specs.Faults.{first_line}

-- the rest begins with a line of the text: it is the text, or stands after an LF of it
abbrev pub BeginsAtLine : List ℕ → List ℕ → Type 0
BeginsAtLine text rest = (rest ≡ text) ⊎ ((front : List ℕ) × (text ≡ front ++ 10 ∷ rest))

-- its first line is that of a log page: it begins with `log` and a space
abbrev pub BeginsPage : List ℕ → Type 0
BeginsPage rest = (after : List ℕ) × (rest ≡ codes "log " ++ after)

-- no line of the text begins a log page
abbrev pub HasNoPage : List ℕ → Type 0
HasNoPage printed = (rest : List ℕ) → BeginsAtLine printed rest → BeginsPage rest → ⊥

-- this is the text from the last of its lines on that begins a log page
pub record IsLastPage (printed page : List ℕ) : Type 0 where
  pub line : BeginsAtLine printed page
  pub begins : BeginsPage page
  pub last : (later : List ℕ) → BeginsAtLine page later → BeginsPage later → later ≡ page

-- how many lines end in a text
abbrev pub lines_in : List ℕ → ℕ
lines_in text = count_by (λ byte. byte == 10) text

-- a log page has as many records as its first line counts, and its last line ends
abbrev pub is_whole : List ℕ → Bool
is_whole page =
    starts_with nat_eq page (first_line (lines_in page - 1)) && ends_with nat_eq page (codes "\n")
