-- How a text stands in HTML, in an element or in an attribute's value in double quotes (HTML, 13.1.2 and 13.1.4).
-- `html_text` is the main definition; `IsMarkupFree` says what it keeps out. HTML has no control characters but white
-- space in a text (3.2.5.2.5). Own rule: of control bytes LF and TAB stay, and each other one is written by the escape
-- that a status page has for it, as `\x1b`.
use Rattle.std.specs.Prelude.{◌≡◌, ℕ, Bool, true, false, not, ◌==◌, ◌||◌, ◌&&◌, nat_lt, if◌then◌else◌, List, [], ◌∷◌, codes}
use Rattle.std.specs.List.{flat_map, list_any}
use Rattle.gate_model.specs.Escaping.{escape_of}

-- `<`, `>`, `"` or `'`: a byte that begins or ends a tag or an attribute's value
abbrev pub is_markup : ℕ → Bool
is_markup byte = (byte == 60) || (byte == 62) || (byte == 34) || (byte == 39)

-- a byte that is written as a reference: one of markup, or `&`
abbrev pub is_referred : ℕ → Bool
is_referred byte = is_markup byte || (byte == 38)

-- the reference of such a byte
abbrev pub reference_of : ℕ → List ℕ
reference_of byte =
    if byte == 60 then codes "&lt;"
    else if byte == 62 then codes "&gt;"
    else if byte == 34 then codes "&quot;"
    else if byte == 39 then codes "&#39;"
    else codes "&amp;"

-- a control byte other than LF and TAB
abbrev pub is_control : ℕ → Bool
is_control byte = nat_lt byte 32 && not (byte == 10) && not (byte == 9) || (byte == 127)

-- a byte as it stands in HTML
abbrev pub html_byte : ℕ → List ℕ
html_byte byte =
    if is_referred byte then reference_of byte
    else if is_control byte then escape_of byte
    else byte ∷ []

-- a text as it stands in HTML
abbrev pub html_text : List ℕ → List ℕ
html_text text = flat_map html_byte text

-- ---- what no text brings into a document

-- the text begins with these bytes
abbrev pub begins : List ℕ → List ℕ → Bool
begins [] text = true
begins (first ∷ front) [] = false
begins (first ∷ front) (byte ∷ text) = (byte == first) && begins front text

-- the text begins with one of the five references
abbrev pub begins_reference : List ℕ → Bool
begins_reference text =
    begins (codes "&lt;") text || begins (codes "&gt;") text || begins (codes "&quot;") text
    || begins (codes "&#39;") text || begins (codes "&amp;") text

-- each `&` of the text begins one of the five references
abbrev pub is_referenced : List ℕ → Bool
is_referenced [] = true
is_referenced (byte ∷ rest) = (not (byte == 38) || begins_reference (byte ∷ rest)) && is_referenced rest

-- it has no byte of markup, each `&` begins a reference, and of control bytes it has LF and TAB alone
pub record IsMarkupFree (text : List ℕ) : Type 0 where
  pub markup : list_any is_markup text ≡ false
  pub references : is_referenced text ≡ true
  pub controls : list_any is_control text ≡ false
