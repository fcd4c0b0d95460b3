-- What is written in steps: tokens of JSON, and bytes.
use Rattle.std.proofs.Common.{◌≡◌, ℕ, ◌+◌, ◌<◌, List, [], ◌∷◌, ◌++◌, length, get_or, drop, Result, Ok, Err, OnOk, refl, sym, ap, ◌∙◌, append_assoc, append-nil}
use Rattle.std.specs.List.{flat_map}
use Rattle.std.proofs.lemmas.List.{at_drop_more}
use Rattle.json.specs.Token.{Token}
use Rattle.json.specs.Json.{Json}
use Rattle.json.specs.Tree.{json_tokens, items_tokens}
use Rattle.json.specs.Written.{Written, Writes}
use Rattle.status_export.specs.Document.{items_of}
use Rattle.status_export.specs.inner.Writing.{Adds, Appends}

-- one token
pub one : {E : Type 0} (r : Result (Unit {0}) E) (a b : Written) (t : Token) → Writes r a b t → OnOk r (Adds a b (t ∷ []))
one (Ok u) a b t w = record { before = w.room.0; added = w.ok }
one (Err e) a b t w = tt

-- some tokens, and then others
pub more : (a b c : Written) (s t : List Token) → Adds a b s → Adds b c t → Adds a c (s ++ t)
more a b c s t first second = record {
  before = second.before ∙ first.before;
  added = second.added ∙ ap (λ x. x ++ t) first.added ∙ append_assoc a.tokens s t;
}

-- some tokens, and then those of a call
pub last : {E : Type 0} (r : Result (Unit {0}) E) (a b c : Written) (s t : List Token) → Adds a b s → OnOk r (Adds b c t) → OnOk r (Adds a c (s ++ t))
last (Ok u) a b c s t first second = more a b c s t first second
last (Err e) a b c s t first second = tt

-- the tokens of the items of two lists
pub items_append : (xs ys : List Json) → items_tokens (items_of (xs ++ ys)) ≡ flat_map json_tokens xs ++ items_tokens (items_of ys)
items_append [] ys = refl
items_append (x ∷ xs) ys = ap (λ t. json_tokens x ++ t) (items_append xs ys) ∙ sym (append_assoc (json_tokens x) (flat_map json_tokens xs) (items_tokens (items_of ys)))

-- one more thing of a list was written
pub next : {X : Type 0} (left : List X → List Token) (a b : Written) (items : List X) (i : ℕ) (x : X) (written whole : List Token) → i < length items → x ≡ get_or items i x → left (x ∷ drop (i + 1) items) ≡ written ++ left (drop (i + 1) items) → Adds a b written → a.tokens ++ left (drop i items) ≡ whole → b.tokens ++ left (drop (i + 1) items) ≡ whole
next left a b items i x written whole within is splits adds before =
    let rest = drop (i + 1) items in
    let here : left (drop i items) ≡ written ++ left rest = at_drop_more left items i x within ∙ ap (λ y. left (y ∷ rest)) (sym is) ∙ splits in
    ap (λ t. t ++ left rest) adds.added ∙ append_assoc a.tokens written (left rest) ∙ ap (λ t. a.tokens ++ t) (sym here) ∙ before

-- the tokens that are left, after the first ones
pub begun : (a b : Written) (s rest : List Token) → Adds a b s → b.tokens ++ rest ≡ a.tokens ++ (s ++ rest)
begun a b s rest adds = ap (λ t. t ++ rest) adds.added ∙ append_assoc a.tokens s rest

-- some bytes, and then others
pub more_bytes : (a b c s t : List ℕ) → Appends a b s → Appends b c t → Appends a c (s ++ t)
more_bytes a b c s t first second = record { added = second.added ∙ ap (λ x. x ++ t) first.added ∙ append_assoc a s t }

-- some bytes, and then those of a call
pub last_bytes : {E : Type 0} (r : Result (Unit {0}) E) (a b c s t : List ℕ) → Appends a b s → OnOk r (Appends b c t) → OnOk r (Appends a c (s ++ t))
last_bytes (Ok u) a b c s t first second = more_bytes a b c s t first second
last_bytes (Err e) a b c s t first second = tt

-- the bytes of the last thing of a list
pub end_bytes : {E : Type 0} (r : Result (Unit {0}) E) (b c t : List ℕ) → OnOk r (Appends b c t) → OnOk r (Appends b c (t ++ []))
end_bytes (Ok u) b c t second = record { added = second.added ∙ ap (λ x. b ++ x) (sym (append-nil t)) }
end_bytes (Err e) b c t second = tt

-- the bytes that are left, after the first ones
pub begun_bytes : (a b s rest : List ℕ) → Appends a b s → b ++ rest ≡ a ++ (s ++ rest)
begun_bytes a b s rest adds = ap (λ t. t ++ rest) adds.added ∙ append_assoc a s rest

-- the bytes of one more thing of a list were written
pub next_bytes : {X : Type 0} (left : List X → List ℕ) (a b : List ℕ) (items : List X) (i : ℕ) (x : X) (written whole : List ℕ) → i < length items → x ≡ get_or items i x → left (x ∷ drop (i + 1) items) ≡ written ++ left (drop (i + 1) items) → Appends a b written → a ++ left (drop i items) ≡ whole → b ++ left (drop (i + 1) items) ≡ whole
next_bytes left a b items i x written whole within is splits adds before =
    let rest = drop (i + 1) items in
    let here : left (drop i items) ≡ written ++ left rest = at_drop_more left items i x within ∙ ap (λ y. left (y ∷ rest)) (sym is) ∙ splits in
    ap (λ t. t ++ left rest) adds.added ∙ append_assoc a written (left rest) ∙ ap (λ t. a ++ t) (sym here) ∙ before
