-- Cuts of a line: what stands before a byte, and the blanks at the end.
use Rattle.std.proofs.Common.{◌≡◌, ℕ, zero, suc, ◌+◌, ◌-◌, ◌<◌, ◌⊎◌, inl, inr, Bool, true, false, List, [], ◌∷◌, ◌++◌, length, get_or, ◌==◌, ◌||◌, refl, sym, ap, ◌∙◌, arith}
use Rattle.std.specs.List.{list_all, position_or_len, suffix_len}
use Rattle.std.proofs.lemmas.Bool.{cases_Bool, eqb-true, eq-eqb, or_parts, and_from, and_parts}
use Rattle.std.proofs.lemmas.List.{take-append-drop, take_at, drop_at, length-append, get_or-append_right}
use Rattle.std.proofs.lemmas.List.Sums.{suffix_len_is}
use Rattle.std.proofs.Math.ListN.{get_or-append}
use Rattle.bstr.specs.Bytes.{is_in}
use Rattle.gate_grammar.specs.Spelling.{is_blank, holds, ends_in_blank}
use Rattle.gate_grammar.specs.Faults.{Begins}
use Rattle.gate_grammar.specs.Parsing.{text_before, text_from, without_blanks}

-- ---- up to a byte

one_more : (count : ℕ) → 1 + count ≡ suc count
one_more count = omega arith

pub before_from : (mark : ℕ) (text : List ℕ) → text_before mark text ++ text_from mark text ≡ text
before_from mark text = take-append-drop (position_or_len (λ byte. byte == mark) text) text

before_clean_step : (mark byte : ℕ) (text : List ℕ) → holds mark (text_before mark text) ≡ false → ((byte == mark) ≡ true) ⊎ ((byte == mark) ≡ false) → holds mark (text_before mark (byte ∷ text)) ≡ false
before_clean_step mark byte text rest (inl is) = rw is refl
before_clean_step mark byte text rest (inr is) = rw (is, one_more (position_or_len (λ x. x == mark) text), is) rest

-- what stands before the mark doesn't hold it
pub before_clean : (mark : ℕ) (text : List ℕ) → holds mark (text_before mark text) ≡ false
before_clean mark [] = refl
before_clean mark (byte ∷ text) = before_clean_step mark byte text (before_clean mark text) (cases_Bool (byte == mark))

from_begins_step : (mark byte : ℕ) (text : List ℕ) → Begins mark (text_from mark text) → ((byte == mark) ≡ true) ⊎ ((byte == mark) ≡ false) → Begins mark (text_from mark (byte ∷ text))
from_begins_step mark byte text rest (inl is) = rw is (eqb-true byte mark is)
from_begins_step mark byte text rest (inr is) = rw (is, one_more (position_or_len (λ x. x == mark) text)) rest

pub from_begins : (mark : ℕ) (text : List ℕ) → Begins mark (text_from mark text)
from_begins mark [] = tt
from_begins mark (byte ∷ text) = from_begins_step mark byte text (from_begins mark text) (cases_Bool (byte == mark))

-- the mark is found after a text that doesn't hold it
mark_offset : (mark : ℕ) (text rest : List ℕ) → holds mark text ≡ false → Begins mark rest → position_or_len (λ byte. byte == mark) (text ++ rest) ≡ length text
mark_offset mark [] [] clean begins = refl
mark_offset mark [] (byte ∷ rest) clean begins = rw (eq-eqb byte mark begins) refl
mark_offset mark (byte ∷ text) rest clean begins =
    let facts = or_parts (byte == mark) (holds mark text) clean in
    rw (facts.0, one_more (position_or_len (λ x. x == mark) (text ++ rest))) (ap suc (mark_offset mark text rest facts.1 begins))

pub before_again : (mark : ℕ) (text rest : List ℕ) → holds mark text ≡ false → Begins mark rest → text_before mark (text ++ rest) ≡ text
before_again mark text rest clean begins = take_at text rest _ (sym (mark_offset mark text rest clean begins))

pub from_again : (mark : ℕ) (text rest : List ℕ) → holds mark text ≡ false → Begins mark rest → text_from mark (text ++ rest) ≡ rest
from_again mark text rest clean begins = drop_at text rest _ (sym (mark_offset mark text rest clean begins))

-- ---- the blanks at the end

pub ends_append : (front : List ℕ) (byte : ℕ) (rest : List ℕ) → ends_in_blank (front ++ byte ∷ rest) ≡ ends_in_blank (byte ∷ rest)
ends_append [] byte rest = refl
ends_append (first ∷ []) byte rest = refl
ends_append (first ∷ next ∷ front) byte rest = ends_append (next ∷ front) byte rest

last_step : (byte : ℕ) (text : List ℕ) → 0 < length text → get_or (byte ∷ text) (length (byte ∷ text) - 1) 0 ≡ get_or text (length text - 1) 0
last_step byte text some = let at : length (byte ∷ text) - 1 ≡ suc (length text - 1) = omega arith in ap (λ i. get_or (byte ∷ text) i 0) at

pub ends_in_blank_last : (text : List ℕ) → 0 < length text → ends_in_blank text ≡ is_blank (get_or text (length text - 1) 0)
ends_in_blank_last [] some = absurd (omega arith)
ends_in_blank_last (byte ∷ []) some = refl
ends_in_blank_last (byte ∷ next ∷ text) some = ends_in_blank_last (next ∷ text) (omega arith) ∙ ap is_blank (sym (last_step byte (next ∷ text) (omega arith)))

all_at : (test : ℕ → Bool) (text : List ℕ) (i : ℕ) → i < length text → list_all test text ≡ true → test (get_or text i 0) ≡ true
all_at test [] i low all = absurd (omega arith)
all_at test (byte ∷ text) zero low all = (and_parts (test byte) (list_all test text) all).0
all_at test (byte ∷ text) (suc i) low all = all_at test text i (omega arith) (and_parts (test byte) (list_all test text) all).1

-- the blanks after a text that ends in none are counted
blanks_counted : (front blanks : List ℕ) → ends_in_blank front ≡ false → list_all is_blank blanks ≡ true → suffix_len is_blank (front ++ blanks) ≡ length (front ++ blanks) - length front
blanks_counted front blanks tight blank =
    let size = length-append front blanks in
    suffix_len_is is_blank (front ++ blanks) (length front) 0 (omega arith)
    (λ k low high. ap is_blank (get_or-append_right front blanks (length front) k 0 refl low) ∙ all_at is_blank blanks (k - length front) (omega arith) blank)
    (λ some. ap is_blank (get_or-append front blanks 0 (length front - 1) (omega arith)) ∙ (sym (ends_in_blank_last front some) ∙ tight))

pub without_blanks_again : (front blanks : List ℕ) → ends_in_blank front ≡ false → list_all is_blank blanks ≡ true → without_blanks (front ++ blanks) ≡ front
without_blanks_again front blanks tight blank =
    let counted = blanks_counted front blanks tight blank in
    let size = length-append front blanks in
    take_at front blanks _ (omega arith)

-- a line is a text that ends in no blank, and blanks
pub record Padded (line : List ℕ) : Type 0 where
  pub front : List ℕ
  pub blanks : List ℕ
  pub whole : line ≡ front ++ blanks
  pub tight : ends_in_blank front ≡ false
  pub blank : list_all is_blank blanks ≡ true

padded_first : (byte : ℕ) (line : List ℕ) → list_all is_blank line ≡ true → (is_blank byte ≡ true) ⊎ (is_blank byte ≡ false) → Padded (byte ∷ line)
padded_first byte line blank (inl is) = record { front = []; blanks = byte ∷ line; whole = refl; tight = refl; blank = and_from (is_blank byte) (list_all is_blank line) is blank }
padded_first byte line blank (inr is) = record { front = byte ∷ []; blanks = line; whole = refl; tight = is; blank = blank }

padded_more : (byte : ℕ) (line front blanks : List ℕ) → line ≡ front ++ blanks → ends_in_blank front ≡ false → list_all is_blank blanks ≡ true → Padded (byte ∷ line)
padded_more byte line [] blanks whole tight blank = padded_first byte line (ap (list_all is_blank) whole ∙ blank) (cases_Bool (is_blank byte))
padded_more byte line (first ∷ front) blanks whole tight blank = record { front = byte ∷ first ∷ front; blanks = blanks; whole = ap (λ rest. byte ∷ rest) whole; tight = tight; blank = blank }

pub padded : (line : List ℕ) → Padded line
padded [] = record { front = []; blanks = []; whole = refl; tight = refl; blank = refl }
padded (byte ∷ line) = let rest = padded line in padded_more byte line rest.front rest.blanks rest.whole rest.tight rest.blank

-- ---- the set of blanks, as a search takes it

or_grouped : (x y z : Bool) → (x || (y || (z || false))) ≡ ((x || y) || z)
or_grouped true y z = refl
or_grouped false true z = refl
or_grouped false false true = refl
or_grouped false false false = refl

pub in_blanks : (byte : ℕ) → is_in (32 ∷ 9 ∷ 13 ∷ []) byte ≡ is_blank byte
unfolding is_in
in_blanks byte = or_grouped (byte == 32) (byte == 9) (byte == 13)
