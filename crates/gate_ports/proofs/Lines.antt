-- Lines that are cut, and how many of them end in bytes.
use Rattle.std.proofs.Common.{◌≡◌, ℕ, suc, ◌+◌, ◌-◌, ◌<◌, ◌≤◌, true, List, [], ◌∷◌, ◌++◌, length, take, drop, get_or, ◌==◌, refl, sym, ap, ◌∙◌, subst, arith, inl, inr, add-one, drop-cons, append-nil, append_assoc}
use Rattle.std.specs.Prelude.{filter}
use Rattle.std.specs.List.{list_any}
use Rattle.std.proofs.lemmas.Bool.{cond-true, cond-false, lt-ltb, or_parts, or_from, false_from_ne_true, eqb-true}
use Rattle.std.proofs.lemmas.List.Elements.{filter-append}
use Rattle.std.proofs.lemmas.List.{take-append-drop, take-append-le, drop-append-le, take_all, length-append, length-drop, length-take-le, get_or-take, get_or-drop}
use Rattle.std.proofs.Math.Seq.{take-add}
use Rattle.gate_ports.specs.Held.{HasNoEnd, kept_after, kept_lines, held_with, AreLines, AreWholeLines, line_ends}
use Rattle.gate_ports.proofs.Begun.{after_end, no_bytes}
use Rattle.gate_ports.proofs.Whole.{either}
use Rattle.gate_ports.proofs.Handing.{take_front}

-- ---- where a line ends

none_at : (bytes : List ℕ) → ((k : ℕ) → k < length bytes → (get_or bytes k 0 == 10) ≡ true → ⊥) → HasNoEnd bytes
none_at [] none = refl
none_at (byte ∷ bytes) none =
    or_from (byte == 10) (list_any (λ b. b == 10) bytes) (false_from_ne_true _ (none 0 (omega arith))) (none_at bytes (λ k low is. none (suc k) (omega arith) is))

-- nowhere is there an LF
pub no_end : (bytes : List ℕ) → ((k : ℕ) → 0 ≤ k → k < length bytes → (get_or bytes k 0 == 10) ≡ true → ⊥) → HasNoEnd bytes
no_end bytes none = none_at bytes (λ k low is. none k (omega arith) low is)

-- there is none before this index
pub no_end_before : (bytes : List ℕ) (index : ℕ) → index < length bytes → ((k : ℕ) → 0 ≤ k → k < index → (get_or bytes k 0 == 10) ≡ true → ⊥) → HasNoEnd (take index bytes)
no_end_before bytes index within none =
    let long : length (take index bytes) ≡ index = length-take-le index bytes (omega arith) in
    none_at (take index bytes)
    (λ k low is. let less : k < index = omega (arith, low, long) in
    none k (omega arith) less (ap (λ byte. byte == 10) (sym (get_or-take index bytes k 0 less)) ∙ is))

-- there is none after it
pub no_end_after : (bytes : List ℕ) (index : ℕ) → ((k : ℕ) → index + 1 ≤ k → k < length bytes → (get_or bytes k 0 == 10) ≡ true → ⊥) → HasNoEnd (drop (index + 1) bytes)
no_end_after bytes index none =
    none_at (drop (index + 1) bytes)
    (λ k low is. none (index + 1 + k) (omega arith) (omega (arith, low, length-drop (index + 1) bytes))
    (ap (λ byte. byte == 10) (sym (get_or-drop (index + 1) bytes k 0)) ∙ is))

-- the bytes are cut at an LF
pub cut_at : (bytes : List ℕ) (index : ℕ) → index < length bytes → (get_or bytes index 0 == 10) ≡ true → bytes ≡ take index bytes ++ 10 ∷ drop (index + 1) bytes
cut_at bytes index within is =
    sym (take-append-drop index bytes)
    ∙ ap (λ rest. take index bytes ++ rest)
    (drop-cons bytes index 0 within
    ∙ ap (λ byte. byte ∷ drop (suc index) bytes) (eqb-true (get_or bytes index 0) 10 is)
    ∙ ap (λ n. 10 ∷ drop n bytes) (sym (add-one index)))

-- what stands up to an LF
pub up_to : (bytes : List ℕ) (index : ℕ) → index < length bytes → (get_or bytes index 0 == 10) ≡ true → take (index + 1) bytes ≡ take index bytes ++ 10 ∷ []
up_to bytes index within is =
    let front = take index bytes ++ 10 ∷ [] in
    let long : length (take index bytes) ≡ index = length-take-le index bytes (omega arith) in
    let size : length front ≡ index + 1 = omega (arith, long, length-append (take index bytes) (10 ∷ [])) in
    ap (take (index + 1)) (cut_at bytes index within is ∙ sym (append_assoc (take index bytes) (10 ∷ []) (drop (index + 1) bytes)))
    ∙ take-append-le (index + 1) front (drop (index + 1) bytes) (omega (arith, size))
    ∙ take_all (index + 1) front (omega (arith, size))

-- ---- how many lines end

pub ends_together : (front rest : List ℕ) → line_ends (front ++ rest) ≡ line_ends front + line_ends rest
ends_together front rest =
    ap length (filter-append (λ byte. byte == 10) front rest) ∙ length-append (filter (λ byte. byte == 10) front) (filter (λ byte. byte == 10) rest)

pub none_ends : (bytes : List ℕ) → HasNoEnd bytes → line_ends bytes ≡ 0
none_ends [] none = refl
none_ends (byte ∷ bytes) none =
    let parts = or_parts (byte == 10) (list_any (λ b. b == 10) bytes) none in
    ap length (cond-false _ _ _ parts.0) ∙ none_ends bytes parts.1

-- ---- what is kept

-- bytes up to an LF, no more than are kept of one line
kept_short : (count : ℕ) (front rest : List ℕ) → count + length front ≤ 8193 → kept_after count (front ++ 10 ∷ rest) ≡ front ++ 10 ∷ kept_lines rest
kept_short count [] rest short = refl
kept_short count (byte ∷ front) rest short = elim (either (byte == 10)) [
  | inl e ↦ cond-true _ _ _ e ∙ ap (λ l. byte ∷ l) (kept_short 0 front rest (omega (arith, short)))
  | inr e ↦ cond-false _ _ _ e ∙ cond-true _ _ _ (lt-ltb count 8193 (omega (arith, short))) ∙ ap (λ l. byte ∷ l) (kept_short (count + 1) front rest (omega (arith, short)))
]

-- the beginning of a line, of which no more came than is kept
kept_begun : (count : ℕ) (begun more : List ℕ) → HasNoEnd begun → count + length begun ≤ 8193 → kept_after count (begun ++ more) ≡ begun ++ kept_after (count + length begun) more
kept_begun count [] more none short = ap (λ n. kept_after n more) (let same : count ≡ count + 0 = omega arith in same)
kept_begun count (byte ∷ begun) more none short =
    let parts = or_parts (byte == 10) (list_any (λ b. b == 10) begun) none in
    let same : count + 1 + length begun ≡ count + suc (length begun) = omega arith in
    cond-false _ _ _ parts.0 ∙ cond-true _ _ _ (lt-ltb count 8193 (omega (arith, short)))
    ∙ ap (λ l. byte ∷ l) (kept_begun (count + 1) begun more parts.1 (omega (arith, short)) ∙ ap (λ n. begun ++ kept_after n more) same)

-- what is dropped of a line that is too long
kept_dropped : (dropped rest : List ℕ) → HasNoEnd dropped → kept_after 8193 (dropped ++ 10 ∷ rest) ≡ 10 ∷ kept_lines rest
kept_dropped [] rest none = refl
kept_dropped (byte ∷ dropped) rest none =
    let parts = or_parts (byte == 10) (list_any (λ b. b == 10) dropped) none in
    cond-false _ _ _ parts.0 ∙ kept_dropped dropped rest parts.1

kept_no_more : (dropped : List ℕ) → HasNoEnd dropped → kept_after 8193 dropped ≡ []
kept_no_more [] none = refl
kept_no_more (byte ∷ dropped) none =
    let parts = or_parts (byte == 10) (list_any (λ b. b == 10) dropped) none in
    cond-false _ _ _ parts.0 ∙ kept_no_more dropped parts.1

-- ---- what is held

-- nothing more came
nothing_more : (whole : ℕ) (bytes : List ℕ) → HasNoEnd (drop whole bytes) → length (drop whole bytes) ≤ 8193 → held_with whole bytes [] ≡ bytes
nothing_more whole bytes none short =
    ap (λ l. take whole bytes ++ l) (kept_begun 0 (drop whole bytes) [] none (omega (arith, short)) ∙ append-nil (drop whole bytes))
    ∙ take-append-drop whole bytes

-- all of it is whole
all_whole : (whole : ℕ) (bytes rest : List ℕ) → whole ≡ length bytes → held_with whole bytes rest ≡ bytes ++ kept_lines rest
all_whole whole bytes rest all =
    ap (λ n. held_with n bytes rest) all
    ∙ ap (λ front. front ++ kept_lines (drop (length bytes) bytes ++ rest)) (take_all (length bytes) bytes (omega arith))
    ∙ ap (λ begun. bytes ++ kept_lines (begun ++ rest)) (after_end bytes (length bytes) (omega arith))

-- what is held, and more after it
with_end : (whole : ℕ) (bytes front more : List ℕ) → take whole bytes ++ ((drop whole bytes ++ front) ++ more) ≡ bytes ++ (front ++ more)
with_end whole bytes front more =
    ap (λ l. take whole bytes ++ l) (append_assoc (drop whole bytes) front more)
    ∙ sym (append_assoc (take whole bytes) (drop whole bytes) (front ++ more))
    ∙ ap (λ l. l ++ (front ++ more)) (take-append-drop whole bytes)

-- lines were added up to an LF, none of which is too long
lines_added : (whole new_whole : ℕ) (old new bytes front rest : List ℕ) → bytes ≡ front ++ 10 ∷ rest → new ≡ old ++ (front ++ 10 ∷ []) → new_whole ≡ length new
    → length (drop whole old) + length front ≤ 8193 → held_with new_whole new rest ≡ held_with whole old bytes
lines_added whole new_whole old new bytes front rest is added all short =
    let begun = drop whole old in
    let size = length-append begun front in
    let kept : held_with whole old bytes ≡ new ++ kept_lines rest =
    ap (λ b. take whole old ++ kept_lines (begun ++ b)) is
    ∙ ap (λ b. take whole old ++ kept_lines b) (sym (append_assoc begun front (10 ∷ rest)))
    ∙ ap (λ l. take whole old ++ l) (kept_short 0 (begun ++ front) rest (omega (arith, short, size)))
    ∙ with_end whole old front (10 ∷ kept_lines rest)
    ∙ ap (λ l. old ++ l) (sym (append_assoc front (10 ∷ []) (kept_lines rest)))
    ∙ sym (append_assoc old (front ++ 10 ∷ []) (kept_lines rest))
    ∙ ap (λ l. l ++ kept_lines rest) (sym added) in
    all_whole new_whole new rest all ∙ sym kept

-- whole up to the end
all_lines : (whole : ℕ) (before old new front : List ℕ) → new ≡ old ++ (front ++ 10 ∷ []) → whole ≡ length new → AreWholeLines before (take whole new)
all_lines whole before old new front added all =
    inr (old ++ front, take_all whole new (omega (arith, all)) ∙ added ∙ sym (append_assoc old front (10 ∷ [])))

-- the lines that end in the first bytes were added, of which no more came than is kept of one
pub first_added : (whole new_whole : ℕ) (old new bytes first added rest : List ℕ) (n count : ℕ)
    → first ≡ take n bytes → n ≤ length bytes → length (drop whole old) + n ≤ 8193 → 0 < count → count ≤ length first → AreLines (take count first)
    → added ≡ take count bytes → rest ≡ drop count bytes → new ≡ old ++ added → new_whole ≡ length new
    → (held_with new_whole new rest ≡ held_with whole old bytes) × AreWholeLines (take whole old) (take new_whole new)
first_added whole new_whole old new bytes first added rest n count is_first within short some less lines is_added is_rest is_new all =
    let long : length first ≡ n = ap length is_first ∙ length-take-le n bytes within in
    let size : length (take count first) ≡ count = length-take-le count first less in
    let same : take count first ≡ take count bytes = ap (take count) is_first ∙ sym (take_front count n bytes (omega (arith, less, long)) within) in
    elim lines [
      | inl none ↦ (let empty : length (take count first) ≡ 0 = ap length none in absurd (omega (arith, size, empty, some)))
      | inr ended ↦ (
          let front = ended.0 in
          let cut : bytes ≡ front ++ 10 ∷ rest =
          sym (take-append-drop count bytes) ∙ ap (λ l. l ++ drop count bytes) (sym same ∙ ended.1)
          ∙ append_assoc front (10 ∷ []) (drop count bytes) ∙ ap (λ l. front ++ 10 ∷ l) (sym is_rest) in
          let grown : new ≡ old ++ (front ++ 10 ∷ []) = is_new ∙ ap (λ l. old ++ l) (is_added ∙ sym same ∙ ended.1) in
          let front_size : length (take count first) ≡ length front + 1 = ap length ended.1 ∙ length-append front (10 ∷ []) in (
            lines_added whole new_whole old new bytes front rest cut grown all (omega (arith, short, less, long, size, front_size)),
            all_lines new_whole (take whole old) old new front grown all,
          ))
    ]

-- bytes of a line were added
begun_added : (whole : ℕ) (old new bytes first rest : List ℕ) → whole ≤ length old → bytes ≡ first ++ rest → new ≡ old ++ first
    → held_with whole new rest ≡ held_with whole old bytes
begun_added whole old new bytes first rest within is added =
    ap (λ l. held_with whole l rest) added
    ∙ ap (λ front. front ++ kept_lines (drop whole (old ++ first) ++ rest)) (take-append-le whole old first within)
    ∙ ap (λ begun. take whole old ++ kept_lines (begun ++ rest)) (drop-append-le whole old first within)
    ∙ ap (λ l. take whole old ++ kept_lines l) (append_assoc (drop whole old) first rest)
    ∙ ap (λ b. take whole old ++ kept_lines (drop whole old ++ b)) (sym is)

pub begun_kept : (whole new_whole : ℕ) (old new bytes first rest : List ℕ) (n count : ℕ) → whole ≤ length old → first ≡ take n bytes → n ≤ length bytes
    → rest ≡ drop count bytes → count ≡ length first → new ≡ old ++ first → new_whole ≡ whole → held_with new_whole new rest ≡ held_with whole old bytes
begun_kept whole new_whole old new bytes first rest n count within is_first less is_rest counted added same =
    let long : count ≡ n = counted ∙ ap length is_first ∙ length-take-le n bytes less in
    let cut : bytes ≡ first ++ rest =
    sym (take-append-drop n bytes) ∙ ap (λ l. l ++ drop n bytes) (sym is_first) ∙ ap (λ k. first ++ drop k bytes) (sym long) ∙ ap (λ l. first ++ l) (sym is_rest) in
    ap (λ k. held_with k new rest) same ∙ begun_added whole old new bytes first rest within cut added

pub begun_same : (whole : ℕ) (old new first : List ℕ) → whole ≤ length old → new ≡ old ++ first → AreWholeLines (take whole old) (take whole new)
begun_same whole old new first within added = inl (ap (take whole) added ∙ take-append-le whole old first within)

-- a line that is too long has ended
long_ended : (whole new_whole : ℕ) (old new bytes dropped rest : List ℕ) → HasNoEnd (drop whole old) → length (drop whole old) ≡ 8193 → HasNoEnd dropped
    → bytes ≡ dropped ++ 10 ∷ rest → new ≡ old ++ 10 ∷ [] → new_whole ≡ length new → held_with new_whole new rest ≡ held_with whole old bytes
long_ended whole new_whole old new bytes dropped rest none full no_more is added all =
    let begun = drop whole old in
    let full_from : 0 + length (drop whole old) ≡ 8193 = omega (arith, full) in
    let kept : held_with whole old bytes ≡ new ++ kept_lines rest =
    ap (λ b. take whole old ++ kept_lines (begun ++ b)) is
    ∙ ap (λ l. take whole old ++ l) (kept_begun 0 begun (dropped ++ 10 ∷ rest) none (omega (arith, full))
    ∙ ap (λ n. begun ++ kept_after n (dropped ++ 10 ∷ rest)) full_from
    ∙ ap (λ l. begun ++ l) (kept_dropped dropped rest no_more))
    ∙ sym (append_assoc (take whole old) begun (10 ∷ kept_lines rest))
    ∙ ap (λ l. l ++ 10 ∷ kept_lines rest) (take-append-drop whole old)
    ∙ sym (append_assoc old (10 ∷ []) (kept_lines rest))
    ∙ ap (λ l. l ++ kept_lines rest) (sym added) in
    all_whole new_whole new rest all ∙ sym kept

-- how much of a line is kept
pub begun_size : (whole : ℕ) (bytes : List ℕ) → length (drop whole bytes) ≡ length bytes - whole
begun_size whole bytes = length-drop whole bytes

pub long_ends : (whole new_whole : ℕ) (old new bytes rest : List ℕ) (index : ℕ) → HasNoEnd (drop whole old) → (0 < length bytes → length old - whole ≡ 8193)
    → index < length bytes → ((k : ℕ) → 0 ≤ k → k < index → (get_or bytes k 0 == 10) ≡ true → ⊥) → (get_or bytes index 0 == 10) ≡ true
    → rest ≡ drop (index + 1) bytes → new ≡ old ++ 10 ∷ [] → new_whole ≡ length new → held_with new_whole new rest ≡ held_with whole old bytes
long_ends whole new_whole old new bytes rest index none full within no_more is is_rest added all =
    let some : 0 < length bytes = omega (arith, within) in
    long_ended whole new_whole old new bytes (take index bytes) rest none (length-drop whole old ∙ full some) (no_end_before bytes index within no_more)
    (cut_at bytes index within is ∙ ap (λ l. take index bytes ++ 10 ∷ l) (sym is_rest)) added all

-- and one that hasn't
pub long_goes_on : (whole : ℕ) (old bytes : List ℕ) → HasNoEnd (drop whole old) → (0 < length bytes → length old - whole ≡ 8193) → HasNoEnd bytes
    → held_with whole old [] ≡ held_with whole old bytes
long_goes_on whole old [] none full no_more = refl
long_goes_on whole old (byte ∷ bytes) none full no_more =
    let long : length (drop whole old) ≡ 8193 = length-drop whole old ∙ full (omega arith) in
    let long_from : 0 + length (drop whole old) ≡ 8193 = omega (arith, long) in
    let begun = drop whole old in
    let left : kept_lines (begun ++ []) ≡ begun ++ [] = kept_begun 0 begun [] none (omega (arith, long)) in
    let right : kept_lines (begun ++ byte ∷ bytes) ≡ begun ++ [] =
    kept_begun 0 begun (byte ∷ bytes) none (omega (arith, long)) ∙ ap (λ n. begun ++ kept_after n (byte ∷ bytes)) long_from
    ∙ ap (λ l. begun ++ l) (kept_no_more (byte ∷ bytes) no_more) in
    ap (λ l. take whole old ++ l) (left ∙ sym right)

-- lines after lines
pub whole_more : (before middle after : List ℕ) → AreWholeLines before middle → AreWholeLines middle after → AreWholeLines before after
whole_more before middle after first (inl same) = subst (AreWholeLines before) (sym same) first
whole_more before middle after first (inr lines) = inr lines

-- all of a piece was added
pub added_all : (whole new_whole : ℕ) (old new piece rest : List ℕ) → length rest ≡ 0 → HasNoEnd (drop new_whole new) → length (drop new_whole new) ≤ 8193
    → held_with new_whole new rest ≡ held_with whole old piece → new ≡ held_with whole old piece
added_all whole new_whole old new piece rest all none short same =
    sym (nothing_more new_whole new none short) ∙ ap (held_with new_whole new) (sym (no_bytes rest all)) ∙ same

-- ---- lines that are handed out

-- one more line
pub one_line_more : (bytes rest : List ℕ) (count index number : ℕ) → rest ≡ drop count bytes → count ≤ length bytes → number ≡ line_ends (take count bytes)
    → index < length rest → ((k : ℕ) → 0 ≤ k → k < index → (get_or rest k 0 == 10) ≡ true → ⊥) → (get_or rest index 0 == 10) ≡ true
    → (count + (index + 1) ≤ length bytes) × (number + 1 ≡ line_ends (take (count + (index + 1)) bytes)) × AreLines (take (count + (index + 1)) bytes)
one_line_more bytes rest count index number is_rest within counted less none is =
    let long : length rest ≡ length bytes - count = ap length is_rest ∙ length-drop count bytes in
    let taken : take (count + (index + 1)) bytes ≡ take count bytes ++ (take index rest ++ 10 ∷ []) =
    take-add count (index + 1) bytes ∙ ap (λ l. take count bytes ++ l) (ap (take (index + 1)) (sym is_rest) ∙ up_to rest index less is) in
    let ends : line_ends (take (count + (index + 1)) bytes) ≡ line_ends (take count bytes) + (line_ends (take index rest) + 1) =
    ap line_ends taken ∙ ends_together (take count bytes) (take index rest ++ 10 ∷ [])
    ∙ ap (λ n. line_ends (take count bytes) + n) (ends_together (take index rest) (10 ∷ [])) in
    let no_more = none_ends (take index rest) (no_end_before rest index less none) in (
      omega (arith, long, less, within),
      omega (arith, ends, no_more, counted),
      inr (take count bytes ++ take index rest, taken ∙ sym (append_assoc (take count bytes) (take index rest) (10 ∷ []))),
    )

-- no more line
pub no_line_more : (bytes rest : List ℕ) (count number : ℕ) → rest ≡ drop count bytes → number ≡ line_ends (take count bytes)
    → ((k : ℕ) → 0 ≤ k → k < length rest → (get_or rest k 0 == 10) ≡ true → ⊥) → number ≡ line_ends (take (length bytes) bytes)
no_line_more bytes rest count number is_rest counted none =
    let no_more = none_ends rest (no_end rest none) in
    let both : line_ends bytes ≡ line_ends (take count bytes) + line_ends rest =
    ap line_ends (sym (take-append-drop count bytes)) ∙ ends_together (take count bytes) (drop count bytes) ∙ ap (λ l. line_ends (take count bytes) + line_ends l) (sym is_rest) in
    let all : line_ends (take (length bytes) bytes) ≡ line_ends bytes = ap line_ends (take_all (length bytes) bytes (omega arith)) in
    omega (arith, both, no_more, counted, all)
