-- The marks of a form (`marks_of`), each of which names an object as the page spells it, and the form for one of them
-- (`sender_for`). Own rules.
use Rattle.std.specs.Prelude.{◌≡◌, ℕ, ◌<◌, Bool, not, ◌==◌, ◌&&◌, List, [], ◌∷◌, length, take, map, filter, codes, ⊤}
use Rattle.std.specs.List.{before_first, after_first}
use Rattle.std.specs.Str.{bytes_eq}
use Rattle.desk_forms.specs.declared.fields.Field.{Field}
use Rattle.desk_forms.specs.declared.requests.FormFault.{FormFault}
use Rattle.desk_forms.specs.declared.requests.FormFault.TheVariants as fault
use Rattle.desk_forms.specs.Sender.{Sender}

-- the name of the field begins with `mark.`
abbrev pub is_mark : Field → Bool
is_mark field = bytes_eq (take 5 field.name) (codes "mark.")

-- the values of these fields, in their order
abbrev pub marks_of : List Field → List (List ℕ)
marks_of fields = map (λ (field : Field). field.value) (filter is_mark fields)

-- why a form has no marks that count
abbrev pub IsMarksFault : List Field → FormFault → Type 0
IsMarksFault fields fault.NoMarks = marks_of fields ≡ []
IsMarksFault fields fault.TooManyMarks = 256 < length (marks_of fields)
IsMarksFault fields fault.OutOfMemory = ⊤
IsMarksFault fields other = ⊥

-- ---- the form for one mark

-- a mark is a host, a semicolon (59), which no name on a page has, and a service, which a host has empty
abbrev pub host_of : List ℕ → List ℕ
host_of mark = before_first (λ byte. byte == 59) mark

abbrev pub service_of : List ℕ → List ℕ
service_of mark = after_first (λ byte. byte == 59) mark

-- the field is for each mark: it is none, and names no object and no entry
abbrev pub is_shared : Field → Bool
is_shared field =
    not (is_mark field)
    && not (bytes_eq field.name (codes "host"))
    && not (bytes_eq field.name (codes "service"))
    && not (bytes_eq field.name (codes "id"))

-- the fields of a form for the object of a mark
abbrev pub fields_for : List ℕ → List Field → List Field
fields_for mark fields =
    record { name = codes "host"; value = host_of mark }
    ∷ record { name = codes "service"; value = service_of mark }
    ∷ filter is_shared fields

-- the form for it, by the same user
abbrev pub sender_for : List ℕ → Sender → Sender
sender_for mark form = record { user = form.user; fields = fields_for mark form.fields }
