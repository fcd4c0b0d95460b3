-- The fields of a form (`fields_of`; URL Standard, section 5), and which bodies are one (`IsForm`). Own rules: the limit,
-- that names and values are UTF-8, and that a name stands once.
use Rattle.std.specs.Prelude.{◌≡◌, ℕ, ◌<◌, ◌≤◌, Bool, true, not, ◌==◌, ◌&&◌, ⊤, List, ◌∷◌, ◌++◌, length, map, find, Option, option_map, IsUtf8}
use Rattle.std.specs.List.{AllByRecursion, IsDistinct, list_any}
use Rattle.std.specs.Str.{bytes_eq}
use Rattle.form_urlencoded.specs.Form.{raw_pairs, decode}
use Rattle.desk_forms.specs.declared.fields.Field.{Field}
use Rattle.desk_forms.specs.declared.fields.FieldsFault.{FieldsFault}
use Rattle.desk_forms.specs.declared.fields.FieldsFault.TheVariants.{TooLong, NotUtf8, Twice, OutOfMemory}

-- the field of an encoded name and value
abbrev pub field_of : List ℕ × List ℕ → Field
field_of pair = record { name = decode pair.0; value = decode pair.1 }

-- the fields of a body, in order
abbrev pub fields_of : List ℕ → List Field
fields_of body = map field_of (raw_pairs body)

-- the name and the value are UTF-8
pub record IsText (field : Field) : Type 0 where
  pub name : IsUtf8 field.name
  pub value : IsUtf8 field.value

abbrev pub names_of : List Field → List (List ℕ)
names_of fields = map (λ (field : Field). field.name) fields

-- the body is a form
pub record IsForm (body : List ℕ) : Type 0 where
  pub short : length body ≤ 16384
  pub text : AllByRecursion IsText (fields_of body)
  pub distinct : IsDistinct bytes_eq (names_of (fields_of body))

-- why a field can't stand after these: it is no text, or one of them has its name
abbrev pub IsFaultAfter : List Field → Field → FieldsFault → Type 0
IsFaultAfter known field NotUtf8 = ¬ (IsText field)
IsFaultAfter known field Twice = IsText field × (list_any (λ (one : Field). bytes_eq one.name field.name) known ≡ true)
IsFaultAfter known field fault = ⊥

-- the fault is that of the first field that can't stand after those before it
pub record IsFirstFault (body : List ℕ) (fault : FieldsFault) : Type 0 where
  pub known : List Field
  pub field : Field
  pub rest : List Field
  pub whole : fields_of body ≡ known ++ field ∷ rest
  pub text : AllByRecursion IsText known
  pub distinct : IsDistinct bytes_eq (names_of known)
  pub after : IsFaultAfter known field fault

-- why a body is no form
abbrev pub IsFaultOf : List ℕ → FieldsFault → Type 0
IsFaultOf body TooLong = 16384 < length body
IsFaultOf body OutOfMemory = ⊤
IsFaultOf body fault = (length body ≤ 16384) × IsFirstFault body fault

-- ---- a field by its name

-- the field has this name, and a value that is not empty
abbrev pub is_given : List ℕ → Field → Bool
is_given name field = bytes_eq field.name name && not (length field.value == 0)

-- the value of the first such field: a browser sends an empty value for what nobody filled in
abbrev pub given : List ℕ → List Field → Option (List ℕ)
given name fields = option_map (λ (field : Field). field.value) (find (is_given name) fields)
