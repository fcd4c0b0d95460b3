-- The folder of the runs' logs: LOGS_DIRECTORY of systemd.exec(5) has absolute paths with colons between them.
use Rattle.std.specs.Prelude.{◌≡◌, ℕ, Bool, ◌==◌, List, Option, Some, None, slice_get, take}
use Rattle.std.specs.List.{position}

-- what stands before a place of a list, or all of it
abbrev pub before_place : Option ℕ → List ℕ → List ℕ
before_place (Some place) bytes = take place bytes
before_place None bytes = bytes

abbrev pub is_colon : ℕ → Bool
is_colon byte = byte == 58

-- what stands before the first colon, if there is one
abbrev pub first_folder : List ℕ → List ℕ
first_folder folders = before_place (position is_colon folders) folders

-- the path begins with a slash
abbrev pub IsAbsolute : List ℕ → Type 0
IsAbsolute path = slice_get path 0 ≡ Some 47
