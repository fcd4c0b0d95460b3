-- What no gateway writes on a page: `is_escaped_text`. Own rule: texts have a page's escapes and no others, and hold no NUL.
use Rattle.std.specs.Prelude.{ℕ, ◌==◌, ◌&&◌, not, Bool, List}
use Rattle.std.specs.List.{list_all, list_any, slice_split}
use Rattle.std.specs.Str.{bytes_eq}
use Rattle.gate_model.specs.Escaping.{escaped}
use Rattle.status_reading.specs.Plain.{plain_bytes}

-- the line shows texts without NUL, each with the escapes of a page
abbrev pub is_escaped_line : List ℕ → Bool
is_escaped_line line = bytes_eq (escaped (plain_bytes line)) line && not (list_any (λ byte. byte == 0) (plain_bytes line))

-- so do all lines of the text
abbrev pub is_escaped_text : List ℕ → Bool
is_escaped_text text = list_all is_escaped_line (slice_split (λ byte. byte == 10) text)
