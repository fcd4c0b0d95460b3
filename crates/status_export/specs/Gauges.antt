-- Gauges in the text format of Prometheus, version 0.0.4: `gauge_text`. `read_value` is how a reader takes the value of
-- a label (the same format, "Line format").
use Rattle.std.specs.Prelude.{ℕ, Bool, true, false, ◌==◌, if◌then◌else◌, List, [], ◌∷◌, ◌++◌, Option, Some, None, codes}
use Rattle.std.specs.List.{flat_map}
use Rattle.std.specs.Fmt.{decimal}

-- a sample: its labels, each a name and a value, and its number
pub record Sample : Type 0 where
  pub labels : List (List ℕ × List ℕ)
  pub number : ℕ

-- a gauge: its name, what it measures, and its samples
pub record Gauge : Type 0 where
  pub name : List ℕ
  pub help : List ℕ
  pub samples : List Sample

-- a byte in a label's value: a backslash, a quote and an LF have a backslash before them
abbrev pub value_byte : ℕ → List ℕ
value_byte byte =
    if byte == 92 then codes "\\\\"
    else if byte == 34 then codes "\\\""
    else if byte == 10 then codes "\\n"
    else byte ∷ []

-- a label's value
abbrev pub value_text : List ℕ → List ℕ
value_text value = flat_map value_byte value

-- `NAME="VALUE"`
abbrev pub label_text : List ℕ × List ℕ → List ℕ
label_text label = label.0 ++ codes "=\"" ++ value_text label.1 ++ codes "\""

-- the labels in braces, with commas between them; nothing where there is none
abbrev pub labels_text : List (List ℕ × List ℕ) → List ℕ
labels_text [] = []
labels_text (first ∷ rest) =
    codes "{" ++ label_text first ++ flat_map (λ label. codes "," ++ label_text label) rest ++ codes "}"

-- the line of a sample: the gauge's name, the labels and the number
unfoldable pub sample_text : List ℕ → Sample → List ℕ
sample_text name sample = name ++ labels_text sample.labels ++ codes " " ++ decimal sample.number ++ codes "\n"

-- the two lines on what a gauge is
unfoldable pub head_text : List ℕ → List ℕ → List ℕ
head_text name help = codes "# HELP " ++ name ++ codes " " ++ help ++ codes "\n# TYPE " ++ name ++ codes " gauge\n"

-- what a gauge is, and a line for each sample
abbrev pub gauge_text : Gauge → List ℕ
gauge_text gauge = head_text gauge.name gauge.help ++ flat_map (sample_text gauge.name) gauge.samples

-- ---- reading

-- one byte more before what was read
abbrev pub with_byte : ℕ → Option (List ℕ × List ℕ) → Option (List ℕ × List ℕ)
with_byte byte None = None
with_byte byte (Some found) = Some (byte ∷ found.0, found.1)

-- the value of a label whose opening quote, or a backslash in it, stands before this text: the bytes up to the first
-- quote that no backslash escapes, and the text after that quote
abbrev pub read_value : Bool → List ℕ → Option (List ℕ × List ℕ)
read_value after_backslash [] = None
read_value true (byte ∷ rest) = with_byte (if byte == 110 then 10 else byte) (read_value false rest)
read_value false (byte ∷ rest) =
    if byte == 34 then Some ([], rest)
    else if byte == 92 then read_value true rest
    else with_byte byte (read_value false rest)
