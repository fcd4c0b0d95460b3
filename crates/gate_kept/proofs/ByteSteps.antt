-- Bytes that are read a few at a time.
use Rattle.std.proofs.Common.{◌≡◌, ◌≤◌, ◌<◌, ℕ, zero, suc, ◌+◌, min, List, [], ◌∷◌, ◌++◌, length, take, drop, ◌-◌, inl, inr, refl, sym, subst, ap, ◌∙◌, arith}
use Rattle.std.proofs.lemmas.List.{take-append-drop, take_at, length-drop}
use Rattle.std.proofs.Math.ListN.{drop_of_length-le}
use Rattle.std.proofs.lemmas.Bool.{cases_lt}

drop_none : (count : ℕ) → drop {A = ℕ} count [] ≡ []
drop_none zero = refl
drop_none (suc count) = refl

one_more : (count more : ℕ) → suc count + more ≡ suc (count + more)
one_more count more = omega arith

drop_twice : (count more : ℕ) (bytes : List ℕ) → drop more (drop count bytes) ≡ drop (count + more) bytes
drop_twice zero more bytes = let none : 0 + more ≡ more = omega arith in ap (λ n. drop n bytes) (sym none)
drop_twice (suc count) more [] = drop_none more ∙ sym (drop_none (suc count + more))
drop_twice (suc count) more (byte ∷ bytes) = drop_twice count more bytes ∙ ap (λ n. drop n (byte ∷ bytes)) (sym (one_more count more))

-- where the bytes that are left begin
begins_at : (read size count kept : ℕ) → kept ≡ size - read → kept ≤ size → count ≤ kept → read ≤ size → size - (kept - count) ≡ read + count
begins_at read size count kept is within few low = omega arith

past : (bytes : List ℕ) (read : ℕ) → length bytes ≤ read → drop read bytes ≡ []
past bytes read high = drop_of_length-le bytes high

none_left : (kept count size read : ℕ) → kept ≡ size - read → size ≤ read → count ≤ kept → size ≤ size - (kept - count)
none_left kept count size read is high few = omega arith

pub left_after : (bytes : List ℕ) (read count : ℕ) → count ≤ length (drop read bytes)
    → drop (length bytes - (length (drop read bytes) - count)) bytes ≡ drop count (drop read bytes)
left_after bytes read count few = elim (cases_lt (length bytes) read) [
  | inr low ↦ ap (λ n. drop n bytes) (begins_at read (length bytes) count (length (drop read bytes)) (length-drop read bytes) (let is = length-drop read bytes in omega (arith, is)) few low)
      ∙ sym (drop_twice read count bytes)
  | inl high ↦ past bytes _ (none_left (length (drop read bytes)) count (length bytes) read (length-drop read bytes) (omega arith) few)
      ∙ sym (ap (drop count) (past bytes read (omega arith)) ∙ drop_none count)
]

read_from : (bytes left copied rest : List ℕ) (read count : ℕ) → left ≡ drop read bytes → copied ≡ take count left → length copied ≡ count → count ≤ length left
    → drop read bytes ≡ take count (copied ++ rest) ++ drop (length bytes - (length left - count)) bytes
read_from bytes left copied rest read count is same long few =
    sym is ∙ sym (take-append-drop count left)
    ∙ ap (λ l. l ++ drop count left) (sym same ∙ sym (take_at copied rest count long))
    ∙ ap (λ l. take count (copied ++ rest) ++ l)
    (subst (λ l. drop count l ≡ drop (length bytes - (length l - count)) bytes) (sym is)
    (sym (left_after bytes read count (subst (λ l. count ≤ length l) is few))))

none_from : (bytes left : List ℕ) (read count room : ℕ) → left ≡ drop read bytes → count ≡ min (length left) room → count ≡ 0 → 0 < room
    → drop (length bytes - (length left - count)) bytes ≡ []
none_from bytes left read count room is least none some =
    let empty : length left ≤ 0 = omega (arith, least, none, some) in
    subst (λ l. drop (length bytes - (length l - count)) bytes ≡ drop count l) (sym is) (left_after bytes read count (let low : count ≤ length (drop read bytes) = omega (arith, none) in low))
    ∙ drop_of_length-le left (let low : length left ≤ count = omega (arith, empty) in low)

pub read_some : (bytes whole left copied rest : List ℕ) (read count : ℕ) → whole ≡ bytes → left ≡ drop read bytes → copied ≡ take count left → length copied ≡ count → count ≤ length left
    → drop read bytes ≡ take count (copied ++ rest) ++ drop (length whole - (length left - count)) bytes
read_some bytes whole left copied rest read count same is taken long few =
    subst (λ l. drop read bytes ≡ take count (copied ++ rest) ++ drop (length l - (length left - count)) bytes) (sym same)
    (read_from bytes left copied rest read count is taken long few)

pub nothing_left : (bytes whole left : List ℕ) (read count room : ℕ) → whole ≡ bytes → left ≡ drop read bytes → count ≡ min (length left) room → count ≡ 0 → 0 < room
    → drop (length whole - (length left - count)) bytes ≡ []
nothing_left bytes whole left read count room same is least none some =
    subst (λ l. drop (length l - (length left - count)) bytes ≡ []) (sym same) (none_from bytes left read count room is least none some)
