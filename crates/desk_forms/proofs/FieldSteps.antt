-- The fields of a form, one after another: that each is text, and that their names differ.
use Rattle.std.proofs.Common.{◌≡◌, ℕ, ◌≤◌, Bool, true, false, ◌||◌, List, [], ◌∷◌, ◌++◌, length, map, refl, ap, sym, ◌∙◌, subst, append_assoc}
use Rattle.std.proofs.lemmas.Bool.{false≢true}
use Rattle.std.proofs.lemmas.List.{map-append}
use Rattle.std.specs.List.{AllByRecursion, IsDistinct, list_any}
use Rattle.std.specs.Str.{bytes_eq}
use Rattle.desk_forms.specs.declared.fields.Field.{Field}
use Rattle.desk_forms.specs.declared.fields.FieldsFault.{FieldsFault}
use Rattle.desk_forms.specs.declared.fields.FieldsFault.TheVariants.{TooLong, NotUtf8, Twice, OutOfMemory}
use Rattle.desk_forms.specs.Fields.{IsText, field_of, fields_of, names_of, IsFaultAfter, IsFirstFault, IsFaultOf}
use Rattle.desk_forms.specs.inner.Reading.{IsBadPair}

-- ---- names that differ

or_split : (a b : Bool) → (a || b) ≡ false → (a ≡ false) × (b ≡ false)
or_split true b none = absurd (false≢true (sym none))
or_split false b none = (refl, none)

all_with : {X : Type 0} (P : X → Type 0) (items : List X) (item : X) → AllByRecursion P items → P item
    → AllByRecursion P (items ++ item ∷ [])
all_with P [] item all holds = (holds, tt)
all_with P (first ∷ items) item all holds = (all.0, all_with P items item all.1 holds)

distinct_with : (names : List (List ℕ)) (name : List ℕ) → IsDistinct bytes_eq names
    → list_any (λ known. bytes_eq known name) names ≡ false → IsDistinct bytes_eq (names ++ name ∷ [])
unfolding IsDistinct
distinct_with [] name distinct none = (tt, tt)
distinct_with (first ∷ names) name distinct none =
    let parts = or_split (bytes_eq first name) (list_any (λ known. bytes_eq known name) names) none in
    (all_with (λ other. bytes_eq first other ≡ false) names name distinct.0 parts.0, distinct_with names name distinct.1 parts.1)

named_among : (fields : List Field) (name : List ℕ)
    → list_any (λ (field : Field). bytes_eq field.name name) fields ≡ list_any (λ known. bytes_eq known name) (names_of fields)
named_among [] name = refl
named_among (field ∷ fields) name = ap (λ rest. bytes_eq field.name name || rest) (named_among fields name)

names_with : (known : List Field) (rest : List Field) → names_of (known ++ rest) ≡ names_of known ++ names_of rest
names_with known rest = map-append (λ (field : Field). field.name) known rest

-- ---- a field more

pub distinct_none : IsDistinct bytes_eq []
unfolding IsDistinct
distinct_none = tt

pub fields_step : (known : List Field) (field : Field) (pair : List ℕ × List ℕ) (left : List (List ℕ × List ℕ)) (all : List Field)
    → field ≡ field_of pair → known ++ map field_of (pair ∷ left) ≡ all → (known ++ field ∷ []) ++ map field_of left ≡ all
fields_step known field pair left all is joined =
    append_assoc known (field ∷ []) (map field_of left)
    ∙ ap (λ (first : Field). known ++ first ∷ map field_of left) is
    ∙ joined

pub text_step : (known : List Field) (field : Field) → AllByRecursion IsText known → IsText field
    → AllByRecursion IsText (known ++ field ∷ [])
text_step known field all text = all_with IsText known field all text

pub distinct_step : (known : List Field) (field : Field) → IsDistinct bytes_eq (names_of known)
    → false ≡ list_any (λ (one : Field). bytes_eq one.name field.name) known
    → IsDistinct bytes_eq (names_of (known ++ field ∷ []))
distinct_step known field distinct none =
    subst (IsDistinct bytes_eq) (sym (names_with known (field ∷ [])))
    (distinct_with (names_of known) field.name distinct (sym (named_among known field.name) ∙ sym none))

-- ---- why a body is no form

first_fault : (fault : FieldsFault) (body : List ℕ) (known : List Field) (pair : List ℕ × List ℕ)
    (left : List (List ℕ × List ℕ)) → known ++ map field_of (pair ∷ left) ≡ fields_of body → AllByRecursion IsText known
    → IsDistinct bytes_eq (names_of known) → IsFaultAfter known (field_of pair) fault → IsFirstFault body fault
first_fault fault body known pair left joined text distinct after = record {
  known = known;
  field = field_of pair;
  rest = map field_of left;
  whole = sym joined;
  text = text;
  distinct = distinct;
  after = after;
}

pub named_again : (body : List ℕ) (known : List Field) (field : Field) (pair : List ℕ × List ℕ) (left : List (List ℕ × List ℕ))
    → length body ≤ 16384 → known ++ map field_of (pair ∷ left) ≡ fields_of body → AllByRecursion IsText known
    → IsDistinct bytes_eq (names_of known) → field ≡ field_of pair → IsText (field_of pair)
    → true ≡ list_any (λ (one : Field). bytes_eq one.name field.name) known → IsFaultOf body Twice
named_again body known field pair left short joined text distinct is is_text found =
    let named = sym (subst (λ (one : Field). true ≡ list_any (λ (other : Field). bytes_eq other.name one.name) known) is found) in
    (short, first_fault Twice body known pair left joined text distinct (is_text, named))

pub fault_of : (fault : FieldsFault) (body : List ℕ) (known : List Field) (pair : List ℕ × List ℕ)
    (left : List (List ℕ × List ℕ)) → length body ≤ 16384 → known ++ map field_of (pair ∷ left) ≡ fields_of body
    → AllByRecursion IsText known → IsDistinct bytes_eq (names_of known) → IsBadPair pair fault → IsFaultOf body fault
fault_of NotUtf8 body known pair left short joined text distinct bad =
    (short, first_fault NotUtf8 body known pair left joined text distinct bad)
fault_of OutOfMemory body known pair left short joined text distinct bad = tt
fault_of TooLong body known pair left short joined text distinct bad = absurd bad
fault_of Twice body known pair left short joined text distinct bad = absurd bad
