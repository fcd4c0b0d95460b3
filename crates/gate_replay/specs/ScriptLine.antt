-- The lines of a replay script: which forms a line may have, and what is parsed from it. The main definition is
-- `parsed_script_line`. Own rules: the script is this project's, and so are its greatest numbers: an age of 900
-- seconds, a queue of 65,536 items and a log of 1,000,000 records.
use Rattle.std.specs.Prelude.{◌≡◌, ℕ, ℤ, ◌+◌, Bool, true, ◌&&◌, ◌==◌, nat_lt, nat_le, List, take, drop, codes, bytes_eq, Option, Some, None, if◌then◌else◌}
use Rattle.std.specs.Option.{option_map, option_copied}
use Rattle.std.specs.List.{position}
use Rattle.gate_grammar.specs.Numbers.{number_of, code_of}
use Rattle.gate_replay.specs.declared.script_line.PacketForm.{PacketForm}
use Rattle.gate_replay.specs.declared.script_line.PacketForm.TheVariants.{Short, Long}
use Rattle.gate_replay.specs.declared.script_line.ScriptLine.{ScriptLine}
use Rattle.gate_replay.specs.declared.script_line.ScriptLine.TheVariants as line

-- what is parsed from a line: an object with its threshold, host and service; the moment, greatest
-- age, capacity and limit with which the script opens; a moment of the clock; a packet with its form,
-- timestamp, code, host, service and output; an operator's line; that a page is asked for
pub data ParsedScriptLine : Type 0 where
  Object : ℕ → List ℕ → Option (List ℕ) → ParsedScriptLine
  Open : ℕ → ℕ → ℕ → ℕ → ParsedScriptLine
  Clock : ℕ → ParsedScriptLine
  Packet : PacketForm → ℕ → ℤ → List ℕ → List ℕ → List ℕ → ParsedScriptLine
  Line : List ℕ → ParsedScriptLine
  Page : ParsedScriptLine

-- the parsed line, with its texts as lists
abbrev pub value_of : ScriptLine → ParsedScriptLine
value_of (line.Object threshold host service) = Object threshold host.now (option_copied service)
value_of (line.Open moment age capacity limit) = Open moment.0 age capacity limit
value_of (line.Clock moment) = Clock moment.0
value_of (line.Packet form timestamp code host service output) =
    Packet form timestamp.0 code host.now service.now output.now
value_of (line.Line text) = Line text.now
value_of line.Page = Page

infixl 10 ◌>>=◌
abbrev pub ◌>>=◌ : {A B : Type 0} → Option A → (A → Option B) → Option B
None >>= f = None
(Some x) >>= f = f x

-- the text before the first semicolon, and the text after it, with its own semicolons
unfoldable pub cut : List ℕ → Option (List ℕ × List ℕ)
cut text = option_map (λ offset. (take offset text, drop (offset + 1) text)) (position (λ byte. byte == 59) text)

-- a number before the first semicolon, and the text after that
unfoldable pub number_field : List ℕ → Option (ℕ × List ℕ)
number_field text = do
  field ← cut text
  number ← number_of field.0
  Some (number, field.1)

-- a code before the first semicolon, and the text after that
unfoldable pub code_field : List ℕ → Option (ℤ × List ℕ)
code_field text = do
  field ← cut text
  code ← code_of field.0
  Some (code, field.1)

-- an object by a host's name, or by the names of a host and its service
abbrev pub object_named : ℕ → List ℕ → Option (List ℕ × List ℕ) → ParsedScriptLine
object_named threshold names None = Object threshold names None
object_named threshold names (Some pair) = Object threshold pair.0 (Some pair.1)

-- `object;THRESHOLD;HOST` or `object;THRESHOLD;HOST;SERVICE`, from after its word
unfoldable pub parsed_object : List ℕ → Option ParsedScriptLine
parsed_object text = do
  field ← number_field text
  Some (object_named field.0 field.1 (cut field.1))

-- the numbers of a line that opens are in range
abbrev pub are_in_range : ℕ → ℕ → ℕ → Bool
are_in_range age capacity limit =
    nat_le age 900 && nat_lt 0 capacity && nat_le capacity 65536 && nat_lt 0 limit && nat_le limit 1000000

-- the numbers with which the line opens are in range, if it opens
abbrev pub IsInRange : ScriptLine → Type 0
IsInRange (line.Open moment age capacity limit) = are_in_range age capacity limit ≡ true
IsInRange (line.Object threshold host service) = Unit {0}
IsInRange (line.Clock moment) = Unit {0}
IsInRange (line.Packet form timestamp code host service output) = Unit {0}
IsInRange (line.Line text) = Unit {0}
IsInRange line.Page = Unit {0}

-- `open;MOMENT;AGE;CAPACITY;LIMIT`, from after its word
unfoldable pub parsed_open : List ℕ → Option ParsedScriptLine
parsed_open text = do
  moment ← number_field text
  age ← number_field moment.1
  capacity ← number_field age.1
  limit ← number_of capacity.1
  if are_in_range age.0 capacity.0 limit then Some (Open moment.0 age.0 capacity.0 limit) else None

-- `clock;MOMENT`, from after its word
unfoldable pub parsed_clock : List ℕ → Option ParsedScriptLine
parsed_clock text = option_map Clock (number_of text)

-- `packet;TIMESTAMP;CODE;HOST;SERVICE;OUTPUT`, or with the word `short`, from after its word, which is
-- the packet's form; the output is all the rest
unfoldable pub parsed_packet : PacketForm → List ℕ → Option ParsedScriptLine
parsed_packet form text = do
  timestamp ← number_field text
  code ← code_field timestamp.1
  host ← cut code.1
  service ← cut host.1
  Some (Packet form timestamp.0 code.0 host.0 service.0 service.1)

-- what is parsed from a line of this first word
unfoldable pub parsed_form : List ℕ → List ℕ → Option ParsedScriptLine
parsed_form word text =
    if bytes_eq word (codes "object") then parsed_object text
    else (if bytes_eq word (codes "open") then parsed_open text
    else (if bytes_eq word (codes "clock") then parsed_clock text
    else (if bytes_eq word (codes "packet") then parsed_packet Long text
    else (if bytes_eq word (codes "short") then parsed_packet Short text
    else (if bytes_eq word (codes "line") then Some (Line text)
    else None)))))

-- what is parsed from a line that has a first word and a semicolon after it
unfoldable pub parsed_with_word : List ℕ → Option ParsedScriptLine
parsed_with_word line = do
  word ← cut line
  parsed_form word.0 word.1

-- what is parsed from a line, without the LF that ends it; `page` stands alone
unfoldable pub parsed_script_line : List ℕ → Option ParsedScriptLine
parsed_script_line line = if bytes_eq line (codes "page") then Some Page else parsed_with_word line
