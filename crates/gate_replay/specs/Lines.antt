-- The lines of a text. Own rule: LF alone ends a line, and the last line may end with the text.
use Rattle.std.specs.Prelude.{ℕ, ◌-◌, ◌==◌, Bool, List, [], length, take, slice_index, if◌then◌else◌}
use Rattle.std.specs.List.{slice_split}

-- the byte is LF
abbrev pub is_line_end : ℕ → Bool
is_line_end byte = byte == 10

-- the text without an LF that ends it
abbrev pub unended : List ℕ → List ℕ
unended text = if is_line_end (slice_index text (length text - 1)) then take (length text - 1) text else text

-- the lines, each without the LF that ends it
abbrev pub lines_of : List ℕ → List (List ℕ)
lines_of text = if length text == 0 then [] else slice_split is_line_end (unended text)
