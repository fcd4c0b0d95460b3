-- The key of two names finds the line of these names.
use Rattle.std.proofs.Common.{◌≡◌, ℕ, ◌+◌, ◌<◌, Bool, true, false, cond, List, [], ◌∷◌, ◌++◌, length, take, drop, map, Option, Some, None, refl, sym, ap, ◌∙◌, arith}
use Rattle.std.specs.Bool.{Decides, one_answer}
use Rattle.std.specs.Str.{bytes_eq}
use Rattle.std.specs.Cmp.Lexicographic.{bytes_decides}
use Rattle.std.specs.List.{position_from, list_all}
use Rattle.std.proofs.lemmas.Bool.{and_parts, and_from, leb-true, false_from_ne_true, true≢false}
use Rattle.std.proofs.Math.Seq.{take-append_seam, drop-append_seam}
use Rattle.gate_model.specs.declared.object.ObjectLine.{ObjectLine}
use Rattle.gate_table.specs.inner.Keys.{key_of, is_short, line_key, is_short_line}
use Rattle.gate_model.specs.Table.{is_same_service, is_line_of, place_of}

some : {A : Type 0} → A → Option A
some x = Some x

services_decide : (a b : Option (List ℕ)) → Decides (is_same_service a b) (a ≡ b)
services_decide None None = (λ e. refl, λ e. refl)
services_decide None (Some y) = (λ e. absurd cc, λ e. absurd cc)
services_decide (Some x) None = (λ e. absurd cc, λ e. absurd cc)
services_decide (Some x) (Some y) = (λ e. ap (λ (z : List ℕ). Some z) ((bytes_decides x y).0 e), λ e. (bytes_decides x y).1 cc)

-- the line is that of these names
abbrev pub IsLineOf : List ℕ → Option (List ℕ) → ObjectLine → Type 0
IsLineOf host service line = (line.host ≡ host) × (line.service ≡ service)

pub line_decides : (host : List ℕ) (service : Option (List ℕ)) (line : ObjectLine) → Decides (is_line_of host service line) (IsLineOf host service line)
line_decides host service line =
    let h = bytes_decides line.host host in
    let s = services_decide line.service service in (
      λ e. let both = and_parts (bytes_eq line.host host) (is_same_service line.service service) e in (h.0 both.0, s.0 both.1),
      λ e. and_from (bytes_eq line.host host) (is_same_service line.service service) (h.1 e.0) (s.1 e.1),
    )

-- two splits of one list, at one length
splits_agree : (a b x y : List ℕ) → length a ≡ length b → a ++ x ≡ b ++ y → (a ≡ b) × (x ≡ y)
splits_agree a b x y long e = (
  sym (take-append_seam a x) ∙ ap (take (length a)) e ∙ ap (λ (n : ℕ). take n (b ++ y)) long ∙ take-append_seam b y,
  sym (drop-append_seam a x) ∙ ap (drop (length a)) e ∙ ap (λ (n : ℕ). drop n (b ++ y)) long ∙ drop-append_seam b y,
)

heads : (m n : ℕ) (xs ys : List ℕ) → m ∷ xs ≡ n ∷ ys → (m ≡ n) × (xs ≡ ys)
heads m n xs ys e = (cc, cc)

-- short names of one key are the same names
same_key : (a b : List ℕ) (s t : Option (List ℕ)) → length a < 128 → length b < 128 → key_of a s ≡ key_of b t → (b ≡ a) × (t ≡ s)
same_key a b None None la lb e = (sym (heads _ _ _ _ e).1, refl)
same_key a b None (Some y) la lb e = let h = (heads _ _ _ _ e).0 in absurd (omega arith)
same_key a b (Some x) None la lb e = let h = (heads _ _ _ _ e).0 in absurd (omega arith)
same_key a b (Some x) (Some y) la lb e =
    let h = heads _ _ _ _ e in
    let long : length a ≡ length b = omega (arith, h.0) in
    let p = splits_agree a b x y long h.1 in
    (sym p.0, ap (λ (z : List ℕ). Some z) (sym p.1))

key_decides : (host : List ℕ) (service : Option (List ℕ)) (line : ObjectLine) → is_short host service ≡ true → is_short_line line ≡ true → Decides (bytes_eq (key_of host service) (line_key line)) (IsLineOf host service line)
key_decides host service line short shorter =
    let k = bytes_decides (key_of host service) (line_key line) in
    let la = leb-true (length host) 63 (and_parts _ _ short).0 in
    let lb = leb-true (length line.host) 63 (and_parts _ _ shorter).0 in (
      λ e. same_key host line.host service line.service (omega arith) (omega arith) (k.0 e),
      λ e. k.1 (sym (ap (λ (h : List ℕ). key_of h line.service) e.0 ∙ ap (key_of host) e.1)),
    )

same_line : (host : List ℕ) (service : Option (List ℕ)) (line : ObjectLine) → is_short host service ≡ true → is_short_line line ≡ true → bytes_eq (key_of host service) (line_key line) ≡ is_line_of host service line
same_line host service line short shorter = one_answer _ _ (key_decides host service line short shorter) (line_decides host service line)

position-keys : (host : List ℕ) (service : Option (List ℕ)) (i : ℕ) (lines : List ObjectLine) → is_short host service ≡ true → list_all is_short_line lines ≡ true
    → position_from (bytes_eq (key_of host service)) i (map line_key lines) ≡ position_from (is_line_of host service) i lines
position-keys host service i [] short all = refl
position-keys host service i (line ∷ lines) short all =
    let parts = and_parts (is_short_line line) (list_all is_short_line lines) all in
    let here = same_line host service line short parts.0 in
    let rest = position-keys host service (i + 1) lines short parts.1 in
    ap (λ (b : Bool). cond b (Some i) (position_from (bytes_eq (key_of host service)) (i + 1) (map line_key lines))) here ∙ ap (λ (r : Option ℕ). cond (is_line_of host service line) (Some i) r) rest

-- a key's place is that of its names
pub place_of-key : (host : List ℕ) (service : Option (List ℕ)) (lines : List ObjectLine) (keys : List (List ℕ)) → keys ≡ map line_key lines → is_short host service ≡ true → list_all is_short_line lines ≡ true
    → position_from (bytes_eq (key_of host service)) 0 keys ≡ place_of lines host service
place_of-key host service lines keys e short all = ap (position_from (bytes_eq (key_of host service)) 0) e ∙ position-keys host service 0 lines short all

other_line : (host : List ℕ) (service : Option (List ℕ)) (line : ObjectLine) → is_short host service ≡ false → is_short_line line ≡ true → is_line_of host service line ≡ false
other_line host service line long short =
    false_from_ne_true (is_line_of host service line) (λ e.
    let named = (line_decides host service line).0 e in
    let again : is_short host service ≡ true = sym (ap (λ (h : List ℕ). is_short h line.service) named.0 ∙ ap (is_short host) named.1) ∙ short in
    true≢false (sym again ∙ long))

place-long : (host : List ℕ) (service : Option (List ℕ)) (i : ℕ) (lines : List ObjectLine) → is_short host service ≡ false → list_all is_short_line lines ≡ true → position_from (is_line_of host service) i lines ≡ None
place-long host service i [] long all = refl
place-long host service i (line ∷ lines) long all =
    let parts = and_parts (is_short_line line) (list_all is_short_line lines) all in
    ap (λ (b : Bool). cond b (Some i) (position_from (is_line_of host service) (i + 1) lines)) (other_line host service line long parts.0) ∙ place-long host service (i + 1) lines long parts.1

-- names that are too long have no place
pub place_of-long : (host : List ℕ) (service : Option (List ℕ)) (lines : List ObjectLine) → is_short host service ≡ false → list_all is_short_line lines ≡ true → place_of lines host service ≡ None
place_of-long host service lines long all = place-long host service 0 lines long all
