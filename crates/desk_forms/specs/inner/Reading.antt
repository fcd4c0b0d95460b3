-- Why the bytes of a name or a value, or an encoded pair of them, are refused.
use Rattle.std.specs.Prelude.{ℕ, List, ⊤, IsUtf8}
use Rattle.desk_forms.specs.declared.fields.FieldsFault.{FieldsFault}
use Rattle.desk_forms.specs.declared.fields.FieldsFault.TheVariants.{TooLong, NotUtf8, Twice, OutOfMemory}
use Rattle.desk_forms.specs.Fields.{IsText, field_of}

abbrev pub IsBadText : List ℕ → FieldsFault → Type 0
IsBadText bytes NotUtf8 = ¬ (IsUtf8 bytes)
IsBadText bytes OutOfMemory = ⊤
IsBadText bytes TooLong = ⊥
IsBadText bytes Twice = ⊥

abbrev pub IsBadPair : List ℕ × List ℕ → FieldsFault → Type 0
IsBadPair pair NotUtf8 = ¬ (IsText (field_of pair))
IsBadPair pair OutOfMemory = ⊤
IsBadPair pair TooLong = ⊥
IsBadPair pair Twice = ⊥
