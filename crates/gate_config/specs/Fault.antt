-- The text by which a program reports why a configuration is refused (`text_of`): one line, without an LF. Own rule.
use Rattle.std.specs.Prelude.{ℕ, List, ◌++◌, codes}
use Rattle.std.specs.Fmt.{decimal}
use Rattle.gate_table.specs.declared.table.TableFault.{TableFault}
use Rattle.gate_table.specs.declared.table.TableFault.TheVariants as table_fault
use Rattle.gate_model.specs.Escaping.{escaped}
use Rattle.gate_config.specs.declared.fault.ConfigFault.{ConfigFault}
use Rattle.gate_config.specs.declared.fault.ConfigFault.TheVariants.{TooLarge, NotToml, UnknownKey, BadValue, MissingName, Object, OutOfMemory}
use Rattle.gate_config.specs.Keys.{name_of}

-- a fault of the object's line of this number
abbrev pub line_text : ℕ → List ℕ → List ℕ
line_text number name = codes "Object " ++ decimal number ++ codes " " ++ name

-- the text of a fault of the object table
abbrev pub table_text : TableFault → List ℕ
table_text (table_fault.BadName number) = line_text number (codes "BadName")
table_text (table_fault.NoSuchHost number) = line_text number (codes "NoSuchHost")
table_text (table_fault.DuplicateHost number) = line_text number (codes "DuplicateHost")
table_text (table_fault.DuplicateService number) = line_text number (codes "DuplicateService")
table_text (table_fault.TooMany number) = line_text number (codes "TooMany")
table_text table_fault.OutOfMemory = codes "OutOfMemory"

-- the text of a configuration's fault
abbrev pub text_of : ConfigFault → List ℕ
text_of TooLarge = codes "TooLarge"
text_of NotToml = codes "NotToml"
text_of (UnknownKey key) = codes "UnknownKey " ++ escaped key
text_of (BadValue key) = codes "BadValue " ++ name_of key
text_of MissingName = codes "MissingName"
text_of (Object cause) = table_text cause
text_of OutOfMemory = codes "OutOfMemory"
