-- Where the tokenizer stands after the parts of a page. A text and a number keep its place, in an element and in a value;
-- so parts whose markup leaves it there for each text have their own tags.
use Rattle.std.proofs.Common.{◌≡◌, ℕ, zero, suc, ◌<◌, ◌/◌, ◌%◌, ◌==◌, Bool, true, false, List, [], ◌∷◌, ◌++◌, map, Option, Some, None, refl, ap, sym, ◌∙◌, inl, inr, append_assoc, arith}
use Rattle.std.proofs.lemmas.Bool.{false≢true}
use Rattle.std.specs.Prelude.{if◌then◌else◌}
use Rattle.std.specs.List.{list_any, flat_map}
use Rattle.std.specs.Fmt.{decimal, digits, digits_onto, digit_glyph}
use Rattle.std.proofs.lemmas.Bool.{or_from, or_parts, cases_Bool, cond-true, cond-false}
use Rattle.std.proofs.lemmas.Grind.{common_steps}
use Rattle.html_text.specs.Escaping.{is_markup, html_text}
use Rattle.html_text.proofs.EscapingLaws.{free}
use Rattle.status_view.specs.declared.layout.Slot.{Slot}
use Rattle.status_view.specs.declared.view.View.{View}
use Rattle.status_view.specs.Layout.{Piece, Markup, Number, Text, NodeView}
use Rattle.status_view.specs.Filling.{with_text, html_bytes, without_texts, slot_text, filled}
use Rattle.page_tags.specs.Tags.{Place, InText, InTag, InDouble, InSingle, next, tag_byte, tags_from, HasOwnTags}

-- ---- bytes

abbrev pub place_after : Place → List ℕ → Place
place_after place [] = place
place_after place (byte ∷ rest) = place_after (next place byte) rest

tags_append : (place : Place) (front back : List ℕ) → tags_from place (front ++ back) ≡ tags_from place front ++ tags_from (place_after place front) back
tags_append place [] back = refl
tags_append place (byte ∷ front) back =
    ap (λ t. tag_byte place byte ++ t) (tags_append (next place byte) front back)
    ∙ sym (append_assoc (tag_byte place byte) (tags_from (next place byte) front) (tags_from (place_after (next place byte) front) back))

-- a byte that is no markup leaves the tokenizer where it stands
next_plain : (place : Place) (byte : ℕ) → is_markup byte ≡ false → next place byte ≡ place
next_plain InText byte is = grind (arith, common_steps)
next_plain InTag byte is = grind (arith, common_steps)
next_plain InDouble byte is = grind (arith, common_steps)
next_plain InSingle byte is = grind (arith, common_steps)

pub plain : (place : Place) (bytes : List ℕ) → list_any is_markup bytes ≡ false → place_after place bytes ≡ place
plain place [] is = refl
plain place (byte ∷ rest) is =
    let facts = or_parts (is_markup byte) (list_any is_markup rest) is in
    ap (λ p. place_after p rest) (next_plain place byte facts.0) ∙ plain place rest facts.1

abbrev is_open : Place → Bool
is_open InText = true
is_open InTag = false
is_open InDouble = true
is_open InSingle = true

byte_open : (place : Place) (byte : ℕ) → is_open place ≡ true → is_markup byte ≡ false → tag_byte place byte ≡ []
byte_open InText byte outside is = grind (arith, common_steps)
byte_open InTag byte outside is = absurd (false≢true outside)
byte_open InDouble byte outside is = grind (arith, common_steps)
byte_open InSingle byte outside is = grind (arith, common_steps)

-- outside of a tag such bytes add nothing
no_tags : (place : Place) (bytes : List ℕ) → is_open place ≡ true → list_any is_markup bytes ≡ false → tags_from place bytes ≡ []
no_tags place [] outside is = refl
no_tags place (byte ∷ rest) outside is =
    let facts = or_parts (is_markup byte) (list_any is_markup rest) is in
    ap (λ t. t ++ tags_from (next place byte) rest) (byte_open place byte outside facts.0)
    ∙ ap (λ p. tags_from p rest) (next_plain place byte facts.0)
    ∙ no_tags place rest outside facts.1

-- ---- numbers

glyph_plain : (digit : ℕ) → digit < 10 → is_markup (digit_glyph false digit) ≡ false
glyph_plain digit low = grind (arith, common_steps)

digits_plain : (fuel n : ℕ) (after : List ℕ) → list_any is_markup after ≡ false → list_any is_markup (digits_onto fuel 10 false n after) ≡ false
digits_plain zero n after is = is
digits_plain (suc fuel) n after is =
    let more = or_from (is_markup (digit_glyph false (n % 10))) (list_any is_markup after) (glyph_plain (n % 10) (omega arith)) is in
    elim (cases_Bool (n / 10 == 0)) [
      | inl last ↦ ap (list_any is_markup) (cond-true _ _ _ last) ∙ more
      | inr other ↦ ap (list_any is_markup) (cond-false _ _ _ other) ∙ digits_plain fuel (n / 10) (digit_glyph false (n % 10) ∷ after) more
    ]

decimal_plain : (n : ℕ) → list_any is_markup (decimal n) ≡ false
unfolding digits
decimal_plain n = digits_plain 64 n [] refl

-- ---- parts

-- where the tokenizer stands after these parts; nothing where a text stands in a tag
abbrev pub run : {T : Type 0} → Place → List (Piece T) → Option Place
run place [] = Some place
run place (Markup markup ∷ rest) = run (place_after place markup) rest
run place (Number number ∷ rest) = run place rest
run place (Text slot ∷ rest) = if is_open place then run place rest else None

none_isnt : (place : Place) → None ≡ Some place → ⊥
none_isnt place is = absurd (cc)

run_append : {T : Type 0} (place middle : Place) (front back : List (Piece T)) → run place front ≡ Some middle → run place (front ++ back) ≡ run middle back
run_append place middle [] back is = let same : place ≡ middle = cc in ap (λ p. run p back) same
run_append place middle (Markup markup ∷ front) back is = run_append (place_after place markup) middle front back is
run_append place middle (Number number ∷ front) back is = run_append place middle front back is
run_append InText middle (Text slot ∷ front) back is = run_append InText middle front back is
run_append InTag middle (Text slot ∷ front) back is = absurd (none_isnt middle is)
run_append InDouble middle (Text slot ∷ front) back is = run_append InDouble middle front back is
run_append InSingle middle (Text slot ∷ front) back is = run_append InSingle middle front back is

-- what follows where the tokenizer stands somewhere
abbrev pub and_then : {T : Type 0} → Option Place → List (Piece T) → Option Place
and_then (Some place) back = run place back
and_then None back = None

pub joined : {T : Type 0} (place : Place) (front back : List (Piece T)) → run place (front ++ back) ≡ and_then (run place front) back
joined place [] back = refl
joined place (Markup markup ∷ front) back = joined (place_after place markup) front back
joined place (Number number ∷ front) back = joined place front back
joined InText (Text slot ∷ front) back = joined InText front back
joined InTag (Text slot ∷ front) back = refl
joined InDouble (Text slot ∷ front) back = joined InDouble front back
joined InSingle (Text slot ∷ front) back = joined InSingle front back

pub run_if : {T : Type 0} (condition : Bool) (place : Place) (one other : List (Piece T))
    → run place (if condition then one else other) ≡ (if condition then run place one else run place other)
run_if true place one other = refl
run_if false place one other = refl

pub same : {X : Type 0} (condition : Bool) (x : X) → (if condition then x else x) ≡ x
same true x = refl
same false x = refl

pub each : {X T : Type 0} (parts : X → List (Piece T)) (place : Place) → ((item : X) → run place (parts item) ≡ Some place) → (items : List X) → run place (flat_map parts items) ≡ Some place
each parts place stays [] = refl
each parts place stays (item ∷ items) = joined place (parts item) (flat_map parts items) ∙ ap (λ found. and_then found (flat_map parts items)) (stays item) ∙ each parts place stays items

-- ---- the tags of parts

same_text : (place : Place) (text : List ℕ) (rest : List (Piece (List ℕ))) → is_open place ≡ true
    → tags_from place (html_bytes rest) ≡ tags_from place (html_bytes (without_texts rest))
    → tags_from place (html_text text ++ html_bytes rest) ≡ tags_from place (html_bytes (without_texts rest))
same_text place text rest outside same =
    let unmarked = (free text).markup in
    tags_append place (html_text text) (html_bytes rest)
    ∙ ap (λ t. t ++ tags_from (place_after place (html_text text)) (html_bytes rest)) (no_tags place (html_text text) outside unmarked)
    ∙ ap (λ p. tags_from p (html_bytes rest)) (plain place (html_text text) unmarked)
    ∙ same

pub same_tags : (place last : Place) (parts : List (Piece (List ℕ))) → run place parts ≡ Some last → tags_from place (html_bytes parts) ≡ tags_from place (html_bytes (without_texts parts))
same_tags place last [] is = refl
same_tags place last (Markup markup ∷ rest) is =
    tags_append place markup (html_bytes rest)
    ∙ ap (λ t. tags_from place markup ++ t) (same_tags (place_after place markup) last rest is)
    ∙ sym (tags_append place markup (html_bytes (without_texts rest)))
same_tags place last (Number number ∷ rest) is =
    let full = html_bytes rest in
    let bare = html_bytes (without_texts rest) in
    let stays = plain place (decimal number) (decimal_plain number) in
    tags_append place (decimal number) full
    ∙ ap (λ p. tags_from place (decimal number) ++ tags_from p full) stays
    ∙ ap (λ t. tags_from place (decimal number) ++ t) (same_tags place last rest is)
    ∙ sym (ap (λ p. tags_from place (decimal number) ++ tags_from p bare) stays)
    ∙ sym (tags_append place (decimal number) bare)
same_tags InText last (Text text ∷ rest) is = same_text InText text rest refl (same_tags InText last rest is)
same_tags InTag last (Text text ∷ rest) is = absurd (none_isnt last is)
same_tags InDouble last (Text text ∷ rest) is = same_text InDouble text rest refl (same_tags InDouble last rest is)
same_tags InSingle last (Text text ∷ rest) is = same_text InSingle text rest refl (same_tags InSingle last rest is)

-- texts have no part in where the tokenizer stands
run_filled : (text : Slot → List ℕ) (place : Place) (nodes : List NodeView) → run place (map (with_text text) nodes) ≡ run place nodes
run_filled text place [] = refl
run_filled text place (Markup markup ∷ rest) = run_filled text (place_after place markup) rest
run_filled text place (Number number ∷ rest) = run_filled text place rest
run_filled text place (Text slot ∷ rest) = ap (λ (found : Option Place). if is_open place then found else None) (run_filled text place rest)

pub own_tags : (nodes : List NodeView) → run InText nodes ≡ Some InText → (view : View) → HasOwnTags (filled view nodes)
own_tags nodes runs view = same_tags InText InText (filled view nodes) (run_filled (slot_text view) InText nodes ∙ runs)
