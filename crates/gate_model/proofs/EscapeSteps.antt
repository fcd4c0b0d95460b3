-- A text that is escaped run by run.
use Rattle.std.proofs.Common.{◌≡◌, ℕ, suc, ◌+◌, ◌-◌, ◌<◌, ◌≤◌, Bool, true, false, cond, not, List, [], ◌∷◌, ◌++◌, length, take, drop, get_or, Some, None, Result, Ok, Err, refl, sym, ap, ◌∙◌, arith, append-nil, append_assoc, add-one, one-add, drop-cons}
use Rattle.std.specs.Prelude.{nat_lt, if◌then◌else◌, is_ok, OnOk}
use Rattle.std.specs.Io.{StartsWith}
use Rattle.std.specs.List.{position, position_or_len, flat_map}
use Rattle.std.proofs.lemmas.List.{take_all, drop_all, take_rest, take-append-le, length-take}
use Rattle.std.proofs.lemmas.List.Sums.{passes_at_first}
use Rattle.std.proofs.lemmas.Bool.{ltb-false}
use Rattle.gate_model.specs.Escaping.{is_escaped, escape_of, escaped}

-- the bytes that pass are replaced
abbrev replaced : (ℕ → Bool) → (ℕ → List ℕ) → List ℕ → List ℕ
replaced test by text = flat_map (λ byte. cond (test byte) (by byte) (byte ∷ [])) text

some-at : (found : Bool) (at run : ℕ) → cond found (Some at) None ≡ Some run → (found ≡ true) × (at ≡ run)
some-at true at run is = (refl, cc)
some-at false at run is = cc

none-at : (found : Bool) (at : ℕ) → cond found (Some at) None ≡ None → found ≡ false
none-at true at is = cc
none-at false at is = refl

run-stays-at : (test : ℕ → Bool) (by : ℕ → List ℕ) (byte : ℕ) (text : List ℕ) (passes : Bool) → test byte ≡ passes
    → replaced test by text ≡ take (position_or_len test text) text ++ replaced test by (drop (position_or_len test text) text)
    → let run = cond (not passes) (1 + position_or_len test text) 0 in
    replaced test by (byte ∷ text) ≡ take run (byte ∷ text) ++ replaced test by (drop run (byte ∷ text))
run-stays-at test by byte text true is more = refl
run-stays-at test by byte text false is more =
    rw one-add
    (ap (λ passes. cond passes (by byte) (byte ∷ []) ++ replaced test by text) is ∙ ap (λ rest. byte ∷ rest) more)

-- what stands before the first byte that passes stays
run-stays : (test : ℕ → Bool) (by : ℕ → List ℕ) (text : List ℕ)
    → replaced test by text ≡ take (position_or_len test text) text ++ replaced test by (drop (position_or_len test text) text)
run-stays test by [] = refl
run-stays test by (byte ∷ text) = run-stays-at test by byte text (test byte) refl (run-stays test by text)

-- the first byte that passes is replaced
first-replaced : (test : ℕ → Bool) (by : ℕ → List ℕ) (text : List ℕ) (run : ℕ) → position_or_len test text ≡ run → run < length text
    → replaced test by text ≡ take run text ++ (by (get_or text run 0) ++ replaced test by (drop (run + 1) text))
first-replaced test by text run at within =
    let passes : test (get_or text run 0) ≡ true =
    ap (λ index. test (get_or text index 0)) (sym at) ∙ passes_at_first test text 0 (omega (arith, at, within))
    in
    run-stays test by text
    ∙ ap (λ index. take index text ++ replaced test by (drop index text)) at
    ∙ ap (λ rest. take run text ++ replaced test by rest) (drop-cons text run 0 within)
    ∙ ap (λ known. take run text ++ (cond known (by (get_or text run 0)) (get_or text run 0 ∷ []) ++ replaced test by (drop (suc run) text))) passes
    ∙ ap (λ from. take run text ++ (by (get_or text run 0) ++ replaced test by (drop from text))) (sym (add-one run))

-- a text without a byte that passes stays
none-replaced : (test : ℕ → Bool) (by : ℕ → List ℕ) (text : List ℕ) → length text ≤ position_or_len test text → replaced test by text ≡ text
none-replaced test by text none =
    run-stays test by text
    ∙ ap (λ front. front ++ replaced test by (drop (position_or_len test text) text)) (take_all (position_or_len test text) text none)
    ∙ ap (λ rest. text ++ replaced test by rest) (drop_all (position_or_len test text) text none)
    ∙ append-nil text

-- one run, and the escape after it
pub run-escaped : (front middle back rest : List ℕ) (run : ℕ)
    → position is_escaped rest ≡ Some run
    → run < length rest
    → middle ≡ front ++ take run rest
    → back ≡ middle ++ escape_of (get_or rest run 0)
    → back ++ escaped (take (length rest - (run + 1)) (drop (run + 1) rest)) ≡ front ++ escaped rest
run-escaped front middle back rest run first within one other =
    let at = some-at (nat_lt (position_or_len is_escaped rest) (length rest)) (position_or_len is_escaped rest) run first in
    rw (take_rest rest (run + 1), other, one)
    (append_assoc (front ++ take run rest) (escape_of (get_or rest run 0)) (escaped (drop (run + 1) rest))
    ∙ append_assoc front (take run rest) (escape_of (get_or rest run 0) ++ escaped (drop (run + 1) rest))
    ∙ ap (λ text. front ++ text) (sym (first-replaced is_escaped escape_of rest run at.1 within)))

rest-stays : (rest : List ℕ) → position is_escaped rest ≡ None → escaped rest ≡ rest
rest-stays rest none =
    none-replaced is_escaped escape_of rest
    (ltb-false (position_or_len is_escaped rest) (length rest) (none-at (nat_lt (position_or_len is_escaped rest) (length rest)) (position_or_len is_escaped rest) none))

-- the last run
pub rest-escaped : {E : Type 0} (result : Result (Unit {0}) E) (front back rest whole : List ℕ)
    → position is_escaped rest ≡ None
    → back ≡ (if is_ok result then front ++ rest else front)
    → front ++ escaped rest ≡ whole
    → OnOk result (back ≡ whole)
rest-escaped (Ok done) front back rest whole none is all = is ∙ ap (λ text. front ++ text) (sym (rest-stays rest none)) ∙ all
rest-escaped (Err fault) front back rest whole none is all = tt

-- what is appended leaves the beginning
pub starts-more : (front text more : List ℕ) → StartsWith text front → StartsWith (text ++ more) front
starts-more front text more starts = take-append-le (length front) text more (omega (arith, ap length starts, length-take (length front) text)) ∙ starts
