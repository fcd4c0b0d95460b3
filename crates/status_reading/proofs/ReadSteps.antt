-- What is read from fields, and what is not.
use Rattle.std.proofs.Common.{◌≡◌, ℕ, zero, suc, ◌+◌, ◌<◌, false, List, [], ◌∷◌, ◌++◌, length, drop, get_or, Bor, Option, Some, None, refl, sym, ap, subst, ◌∙◌, arith, drop-cons}
use Rattle.std.specs.Prelude.{codes}
use Rattle.std.specs.Option.{option_map}
use Rattle.std.specs.Fmt.{decimal}
use Rattle.std.proofs.lemmas.List.{get_or-map, length-map, drop_all}
use Rattle.gate_grammar.specs.Spelling.{joined, holds, IsSplit}
use Rattle.status_reading.specs.Page.{object_fields, comment_fields, downtime_fields}
use Rattle.status_reading.specs.Readable.{AreApart}
use Rattle.status_reading.specs.inner.Reading.{AreFieldsOf, Reads, texts_of}
use Rattle.status_reading.specs.inner.Rows.{RowView, Object, Comment, Downtime, Closing, content, row_word, row_fields}
use Rattle.status_reading.proofs.CutSteps.{same_cut, tail}
use Rattle.status_reading.proofs.FieldSteps.{same_fields}

pub reads_none : {A B : Type 0} (readable : A → Type 0) (written : A → List ℕ) (text : List ℕ) (view : B → A) (found : Option B) → found ≡ None
    → ((x : A) → readable x → text ≡ written x → ⊥) → Reads readable written text (option_map view found)
reads_none readable written text view None is none = none
reads_none readable written text view (Some x) is none = cc

-- the fields that were cut are those of the row
pub fields_are : (cuts : List (Bor (List ℕ))) (text : List ℕ) (fields : List (List ℕ)) → length cuts ≡ length fields
    → AreFieldsOf (texts_of cuts) text → AreApart fields → 59 ∷ text ≡ joined fields → texts_of cuts ≡ fields
fields_are cuts text fields size found apart is =
    same_fields (texts_of cuts) fields (length-map cuts (λ (reference : Bor (List ℕ)). reference.now) ∙ size) found.1 apart.split (sym found.0 ∙ is)

-- one of them
pub field_at : (cuts : List (Bor (List ℕ))) (fields : List (List ℕ)) (index : ℕ) (none : Bor (List ℕ)) → index < length cuts → texts_of cuts ≡ fields
    → (get_or cuts index none).now ≡ get_or fields index []
field_at cuts fields index none within is =
    sym (get_or-map (λ (reference : Bor (List ℕ)). reference.now) cuts index none [] within) ∙ ap (λ texts. get_or texts index []) is

-- the texts from an index on
abbrev pub texts_from : ℕ → ℕ → List (Bor (List ℕ)) → Bor (List ℕ) → List (List ℕ)
texts_from index zero cuts none = []
texts_from index (suc count) cuts none = (get_or cuts index none).now ∷ texts_from (suc index) count cuts none

listed_from : (count index : ℕ) (cuts : List (Bor (List ℕ))) (none : Bor (List ℕ)) → length cuts ≡ index + count
    → texts_of (drop index cuts) ≡ texts_from index count cuts none
listed_from zero index cuts none size = ap texts_of (drop_all index cuts (omega arith))
listed_from (suc count) index cuts none size =
    ap texts_of (drop-cons cuts index none (omega arith))
    ∙ ap (λ texts. (get_or cuts index none).now ∷ texts) (listed_from count (suc index) cuts none (omega arith))

pub listed : (count : ℕ) (cuts : List (Bor (List ℕ))) (none : Bor (List ℕ)) → length cuts ≡ count → texts_of cuts ≡ texts_from 0 count cuts none
listed count cuts none size = listed_from count 0 cuts none (omega arith)

-- the fields of the row that was read
pub apart_of : (cuts : List (Bor (List ℕ))) (text : List ℕ) (fields : List (List ℕ)) → texts_of cuts ≡ fields
    → AreFieldsOf (texts_of cuts) text → holds 10 text ≡ false
    → (59 ∷ text ≡ joined fields) × AreApart fields
apart_of cuts text fields is found clean =
    let whole : 59 ∷ text ≡ joined fields = found.0 ∙ ap joined is in (
      whole,
      record { split = subst IsSplit is found.1; one_line = ap (holds 10) (sym whole) ∙ clean },
    )

pub same_some : (one other : ℕ) → ◌≡◌ {A = Option ℕ} (Some one) (Some other) → one ≡ other
same_some one other is = cc

pub not_none : (number : ℕ) → ◌≡◌ {A = Option ℕ} None (Some number) → ⊥
not_none number is = cc

-- ---- the word of a line

-- a line has a word and a semicolon
pub word_of : (row : RowView) (line word rest : List ℕ) → line ≡ word ++ 59 ∷ rest → holds 59 word ≡ false → line ≡ content row
    → (word ≡ row_word row) × (59 ∷ rest ≡ joined (row_fields row))
word_of (Object row) line word rest whole clean is =
    let both = same_cut 59 word rest (codes "object") (tail (joined (object_fields row))) clean refl (sym whole ∙ is) in (both.0, ap (λ text. 59 ∷ text) both.1)
word_of (Comment row) line word rest whole clean is =
    let both = same_cut 59 word rest (codes "comment") (tail (joined (comment_fields row))) clean refl (sym whole ∙ is) in (both.0, ap (λ text. 59 ∷ text) both.1)
word_of (Downtime row) line word rest whole clean is =
    let both = same_cut 59 word rest (codes "downtime") (tail (joined (downtime_fields row))) clean refl (sym whole ∙ is) in (both.0, ap (λ text. 59 ∷ text) both.1)
word_of (Closing moment) line word rest whole clean is =
    let both = same_cut 59 word rest (codes "closing") (tail (joined (decimal moment ∷ []))) clean refl (sym whole ∙ is) in (both.0, ap (λ text. 59 ∷ text) both.1)

pub no_word : (row : RowView) (word : List ℕ) → (word ≡ codes "object" → ⊥) → (word ≡ codes "comment" → ⊥) → (word ≡ codes "downtime" → ⊥)
    → (word ≡ codes "closing" → ⊥) → word ≡ row_word row → ⊥
no_word (Object row) word object comment downtime closing is = object is
no_word (Comment row) word object comment downtime closing is = comment is
no_word (Downtime row) word object comment downtime closing is = downtime is
no_word (Closing moment) word object comment downtime closing is = closing is
