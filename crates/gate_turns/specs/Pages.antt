-- The readers of pages: how long each has for its page, who of them is slow (`is_slow`), and how much is kept for all of them
-- (`kept`). Own rules; times are in milliseconds.
use Rattle.std.specs.Prelude.{ℕ, ◌+◌, ◌-◌, ◌*◌, ◌/◌, max, Bool, true, false, not, ◌&&◌, ◌==◌, nat_lt, if◌then◌else◌, List, [], ◌∷◌, Option, Some, None}
use Rattle.std.specs.List.{list_any}
use Rattle.gate_turns.specs.declared.standing.Stage.{Stage}
use Rattle.gate_turns.specs.declared.standing.Stage.TheVariants.{Open, Last, Parting}
use Rattle.gate_turns.specs.declared.standing.Standing.{Standing}

-- in what time a reader takes a page of so many bytes: 10 seconds, and one more for each MB where that is more
abbrev pub page_time : ℕ → ℕ
page_time bytes = max 10000 (bytes / 1000)

-- a reader has not taken all of its page
abbrev pub takes_page : Standing → Bool
takes_page standing = nat_lt standing.page.taken standing.page.bytes

-- ---- who is slow

-- it has not taken all of its page, and took less of it than 1 MB for each second since it was served
abbrev pub is_slow : ℕ → Standing → Bool
is_slow now standing = takes_page standing && nat_lt standing.page.taken (1000 * (now - standing.since))

-- the time at which a reader that takes 1 MB a second would have come as far, in thousandths of a millisecond
abbrev pub pace : Standing → ℕ
pace standing = 1000 * standing.since + standing.page.taken

-- it is further behind such a reader
abbrev pub is_behind : Standing → Standing → Bool
is_behind peer other = nat_lt (pace peer) (pace other)

-- it has all, and only ends its side
abbrev pub parts : Stage → Bool
parts Open = false
parts Last = false
parts Parting = true

abbrev pub is_parting : Standing → Bool
is_parting standing = parts standing.stage

-- ---- how much is kept

-- there is a reader who has not taken all of this text
abbrev pub takes_text : ℕ → Option Standing → Bool
takes_text text None = false
takes_text text (Some standing) = takes_page standing && (standing.page.text == text)

-- the bytes of a reader's text, unless one of the others takes it too
abbrev pub kept_for : Option Standing → List (Option Standing) → ℕ
kept_for None others = 0
kept_for (Some standing) others =
    if takes_page standing && not (list_any (takes_text standing.page.text) others) then standing.page.bytes else 0

-- how many bytes are kept for the readers: a text that several of them take counts once
abbrev pub kept : List (Option Standing) → ℕ
kept [] = 0
kept (peer ∷ others) = kept_for peer others + kept others
