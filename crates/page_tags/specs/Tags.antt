-- The tags of a document of HTML: `tags`. A browser's tokenizer finds them in the bytes by themselves, wherever those come
-- from (HTML, 13.2.5): the data state, that in a tag, and those in an attribute's value in double or single quotes.
-- `HasOwnTags` is what follows for a page: its texts neither begin nor end a tag, a value or an attribute.
use Rattle.std.specs.Prelude.{◌≡◌, ℕ, ◌==◌, if◌then◌else◌, List, [], ◌∷◌, ◌++◌}
use Rattle.status_view.specs.Layout.{Piece}
use Rattle.status_view.specs.Filling.{html_bytes, without_texts}

-- where the tokenizer stands: in a text, in a tag, or in a value between double or single quotes
pub data Place : Type 0 where
  InText : Place
  InTag : Place
  InDouble : Place
  InSingle : Place

-- where it stands after this byte: `<` begins a tag, `>` ends it, and a quote in a tag begins a value, which the same
-- quote ends
abbrev pub next : Place → ℕ → Place
next InText byte = if byte == 60 then InTag else InText
next InTag byte =
    if byte == 62 then InText
    else if byte == 34 then InDouble
    else if byte == 39 then InSingle
    else InTag
next InDouble byte = if byte == 34 then InTag else InDouble
next InSingle byte = if byte == 39 then InTag else InSingle

-- what the byte adds to the tags: all of a tag but the values in it
abbrev pub tag_byte : Place → ℕ → List ℕ
tag_byte InText byte = if byte == 60 then byte ∷ [] else []
tag_byte InTag byte = byte ∷ []
tag_byte InDouble byte = if byte == 34 then byte ∷ [] else []
tag_byte InSingle byte = if byte == 39 then byte ∷ [] else []

abbrev pub tags_from : Place → List ℕ → List ℕ
tags_from place [] = []
tags_from place (byte ∷ rest) = tag_byte place byte ++ tags_from (next place byte) rest

-- the tags of these bytes, one after another, each without the values of its attributes
abbrev pub tags : List ℕ → List ℕ
tags bytes = tags_from InText bytes

-- the bytes of these parts have the tags that they have without any text
abbrev pub HasOwnTags : List (Piece (List ℕ)) → Type 0
HasOwnTags parts = tags (html_bytes parts) ≡ tags (html_bytes (without_texts parts))
