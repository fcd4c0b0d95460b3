-- How streams are cut: going on, more bytes, and that there is exactly one cut.
use Rattle.std.proofs.Common.{◌≡◌, ℕ, zero, suc, ◌+◌, ◌<◌, ◌≤◌, ◌⊎◌, Bool, true, false, ◌&&◌, List, [], ◌∷◌, ◌++◌, length, take, drop, refl, sym, ap, ◌∙◌, subst, append_assoc, length-append, arith, inl, inr}
use Rattle.std.specs.Prelude.{nat_le}
use Rattle.std.proofs.lemmas.List.{take_at, drop_at, drop-drop, take-append-drop, take-append-le, length-take-le}
use Rattle.std.proofs.lemmas.Bool.{cond-true, cond-false, leb-true, le-leb, lt-leb}
use Rattle.std.proofs.lemmas.Bool.Decides.{leb_tells}
use Rattle.gate_packet.specs.Layout.{IsPacketSize}
use Rattle.gate_packet.specs.Decoding.{is_sound}
use Rattle.gate_packet.specs.Stream.{begins_short, block_length, Begins, Cuts, IsRest, IsRestInWords, HasCut, HasOneCut}

-- ---- the length of a block

either : (b : Bool) → (b ≡ true) ⊎ (b ≡ false)
either true = inl refl
either false = inr refl

left_true : (a b : Bool) → (a && b) ≡ true → a ≡ true
left_true true b e = refl
left_true false b e = absurd cc

-- 720 bytes have come of a short block
pub short_enough : (bytes : List ℕ) → begins_short bytes ≡ true → 720 ≤ length bytes
short_enough bytes e = leb-true 720 (length bytes) (left_true (nat_le 720 (length bytes)) (is_sound (take 720 bytes)) e)

pub short_length : (bytes : List ℕ) → begins_short bytes ≡ true → block_length bytes ≡ 720
unfolding block_length
short_length bytes e = cond-true _ _ _ e

pub long_length : (bytes : List ℕ) → begins_short bytes ≡ false → block_length bytes ≡ 4304
unfolding block_length
long_length bytes e = cond-false _ _ _ e

-- fewer than 720 bytes begin with no short block
pub too_few : (bytes : List ℕ) → length bytes < 720 → begins_short bytes ≡ false
too_few bytes few = ap (λ b. b && is_sound (take 720 bytes)) (lt-leb 720 (length bytes) few)

-- of enough bytes the first 720 decide
pub enough_decide : (bytes : List ℕ) → 720 ≤ length bytes → begins_short bytes ≡ is_sound (take 720 bytes)
enough_decide bytes enough = ap (λ b. b && is_sound (take 720 bytes)) (le-leb 720 (length bytes) enough)

same_front : (bytes later : List ℕ) → 720 ≤ length bytes → begins_short (bytes ++ later) ≡ begins_short bytes
same_front bytes later enough =
    let more : 720 ≤ length (bytes ++ later) = omega (arith, enough, length-append bytes later) in
    enough_decide (bytes ++ later) more ∙ ap is_sound (take-append-le 720 bytes later enough) ∙ sym (enough_decide bytes enough)

-- the bytes of a whole block decide its length
pub settled : (bytes later : List ℕ) → block_length bytes ≤ length bytes → block_length (bytes ++ later) ≡ block_length bytes
settled bytes later whole =
    let enough : 720 ≤ length bytes = elim (either (begins_short bytes)) [
      | inl e ↦ short_enough bytes e
      | inr e ↦ omega (arith, whole, long_length bytes e)
    ] in
    let front = same_front bytes later enough in
    elim (either (begins_short bytes)) [
      | inl e ↦ short_length (bytes ++ later) (front ∙ e) ∙ sym (short_length bytes e)
      | inr e ↦ long_length (bytes ++ later) (front ∙ e) ∙ sym (long_length bytes e)
    ]

-- a block has a packet's size
pub block_size : (bytes : List ℕ) → IsPacketSize (block_length bytes)
block_size bytes = elim (either (begins_short bytes)) [
  | inl e ↦ inr (short_length bytes e)
  | inr e ↦ inl (long_length bytes e)
]

some_in : (size : ℕ) → IsPacketSize size → 0 < size
some_in size (inl e) = omega (arith, e)
some_in size (inr e) = omega (arith, e)

pub size_at_most : (size : ℕ) → IsPacketSize size → size ≤ 4304
size_at_most size (inl e) = omega (arith, e)
size_at_most size (inr e) = omega (arith, e)

-- a block has some bytes
pub some_bytes : (bytes : List ℕ) → 0 < block_length bytes
some_bytes bytes = some_in (block_length bytes) (block_size bytes)

-- a block has at most 4304 bytes
pub at_most : (bytes : List ℕ) → block_length bytes ≤ 4304
at_most bytes = size_at_most (block_length bytes) (block_size bytes)

pub rest_none : IsRest []
rest_none = record { short = some_bytes [] }

-- ---- what is a rest

pub rest_of_few : (bytes : List ℕ) → length bytes < 4304 → begins_short bytes ≡ false → IsRest bytes
rest_of_few bytes few long = record { short = omega (arith, few, long_length bytes long) }

pub rest_in_words : (bytes : List ℕ) → IsRestInWords bytes
rest_in_words bytes = (
  λ rest. elim (either (begins_short bytes)) [
    | inl e ↦ absurd (let enough = short_enough bytes e in let few = rest.short in omega (arith, enough, few, short_length bytes e))
    | inr e ↦ (let few = rest.short in omega (arith, few, long_length bytes e), e)
  ],
  λ words. rest_of_few bytes words.0 words.1,
)

-- ---- going on

pub length-begins : (bytes block more : List ℕ) → Begins bytes block more → block_length bytes ≤ length bytes
length-begins bytes block more b =
    let e : length bytes ≡ length block + length more = ap length b.whole ∙ length-append block more in
    let l : length block ≡ block_length bytes = b.long in
    omega arith

pub begins_shorter : (bytes block more : List ℕ) → Begins bytes block more → length more < length bytes
begins_shorter bytes block more b =
    let e : length bytes ≡ length block + length more = ap length b.whole ∙ length-append block more in
    let l : length block ≡ block_length bytes = b.long in
    let some : 0 < block_length bytes = some_bytes bytes in
    omega arith

pub begins_more : (bytes block more later : List ℕ) → Begins bytes block more → Begins (bytes ++ later) block (more ++ later)
begins_more bytes block more later b = record {
  whole = ap (λ xs. xs ++ later) b.whole ∙ append_assoc block more later;
  long = b.long ∙ sym (settled bytes later (length-begins bytes block more b));
}

-- bytes that come later change none of the blocks
pub cuts_more : (bytes later : List ℕ) (blocks : List (List ℕ)) (left : List ℕ) → Cuts bytes blocks left → Cuts (bytes ++ later) blocks (left ++ later)
cuts_more bytes later [] left c = ap (λ xs. xs ++ later) c
cuts_more bytes later (block ∷ blocks) left (more, b, c) = (more ++ later, begins_more bytes block more later b, cuts_more more later blocks left c)

-- one more block
pub cuts_next : (bytes : List ℕ) (blocks : List (List ℕ)) (left block more : List ℕ) → Cuts bytes blocks left → Begins left block more → Cuts bytes (blocks ++ block ∷ []) more
cuts_next bytes [] left block more c b = (more, subst (λ xs. Begins xs block more) (sym c) b, refl)
cuts_next bytes (first ∷ blocks) left block more (rest, f, c) b = (rest, f, cuts_next rest blocks left block more c b)

-- blocks, and then others
pub cuts_append : (bytes : List ℕ) (xs ys : List (List ℕ)) (mid left : List ℕ) → Cuts bytes xs mid → Cuts mid ys left → Cuts bytes (xs ++ ys) left
cuts_append bytes [] ys mid left e d = subst (λ b. Cuts b ys left) (sym e) d
cuts_append bytes (x ∷ xs) ys mid left (more, b, c) d = (more, b, cuts_append more xs ys mid left c d)

-- ---- exactly one cut

-- whole bytes begin with a block
begins_whole : (bytes : List ℕ) → block_length bytes ≤ length bytes → Begins bytes (take (block_length bytes) bytes) (drop (block_length bytes) bytes)
begins_whole bytes h = record {
  whole = sym (take-append-drop (block_length bytes) bytes);
  long = length-take-le (block_length bytes) bytes h;
}

-- the first bytes are a block, if they are as many as it has
pub first_whole : (size : ℕ) (bytes block : List ℕ) → block_length bytes ≡ size → size ≤ length bytes → block ≡ take size bytes → Begins bytes block (drop size bytes)
first_whole size bytes block is enough same = record {
  whole = sym (take-append-drop size bytes) ∙ ap (λ xs. xs ++ drop size bytes) (sym same);
  long = ap length same ∙ length-take-le size bytes enough ∙ sym is;
}

-- the first 4304 bytes are a block, where no short one begins
pub long_begins : (bytes long more : List ℕ) → begins_short bytes ≡ false → 4304 ≤ length bytes → long ≡ take 4304 bytes → more ≡ drop 4304 bytes → Begins bytes long more
long_begins bytes long more other enough same rest =
    subst (λ xs. Begins bytes long xs) (sym rest) (first_whole 4304 bytes long (long_length bytes other) enough same)

-- the first 720 bytes are a block, where a short one begins
pub short_begins : (bytes short more : List ℕ) → begins_short bytes ≡ true → 720 ≤ length bytes → short ≡ take 720 bytes → more ≡ drop 720 bytes → Begins bytes short more
short_begins bytes short more sound enough same rest =
    subst (λ xs. Begins bytes short xs) (sym rest) (first_whole 720 bytes short (short_length bytes sound) enough same)

-- what a block leaves of the bytes
pub begins_drop : (bytes block more : List ℕ) → Begins bytes block more → more ≡ drop (length block) bytes
begins_drop bytes block more b = sym (ap (λ xs. drop (length block) xs) b.whole ∙ drop_at block more (length block) refl)

-- by a bound on how many bytes there are
has_cut_within : (n : ℕ) (bytes : List ℕ) → length bytes ≤ n → HasCut bytes
has_cut_within zero bytes short =
    let some : 0 < block_length bytes = some_bytes bytes in
    ([], bytes, record { cut = refl; is_rest = record { short = omega arith } })
has_cut_within (suc n) bytes short = elim (leb_tells (block_length bytes) (length bytes)) [
  | inl p ↦
      let b = begins_whole bytes p.1 in
      let less : length (drop (block_length bytes) bytes) < length bytes = begins_shorter bytes _ _ b in
      let others = has_cut_within n (drop (block_length bytes) bytes) (omega arith) in
      (take (block_length bytes) bytes ∷ others.0, others.1, record { cut = (drop (block_length bytes) bytes, b, others.2.cut); is_rest = others.2.is_rest })
  | inr p ↦ ([], bytes, record { cut = refl; is_rest = record { short = p.1 } })
]

pub has_cut : (bytes : List ℕ) → HasCut bytes
has_cut bytes = has_cut_within (length bytes) bytes (omega arith)

-- bytes begin with one block at most
pub one_first : (bytes block other more after : List ℕ) → Begins bytes block more → Begins bytes other after → other ≡ block
one_first bytes block other more after b c =
    let long : length other ≡ length block = c.long ∙ sym b.long in
    sym (take_at other after (length block) long) ∙ ap (λ l. take (length block) l) (sym c.whole ∙ b.whole) ∙ take_at block more (length block) refl

one : (bytes : List ℕ) (xs ys : List (List ℕ)) (left rest : List ℕ) → Cuts bytes xs left → IsRest left → Cuts bytes ys rest → IsRest rest → (ys ≡ xs) × (rest ≡ left)
one bytes [] [] left rest c p d q = (refl, sym d ∙ c)
one bytes [] (y ∷ ys) left rest c p (more, b, d) q = absurd (let s : length bytes < block_length bytes = subst (λ l. length l < block_length l) (sym c) p.short in let l : block_length bytes ≤ length bytes = length-begins bytes y more b in omega arith)
one bytes (x ∷ xs) [] left rest (more, b, c) p d q = absurd (let s : length bytes < block_length bytes = subst (λ l. length l < block_length l) (sym d) q.short in let l : block_length bytes ≤ length bytes = length-begins bytes x more b in omega arith)
one bytes (x ∷ xs) (y ∷ ys) left rest (m, a, c) p (n, b, d) q =
    let long : length y ≡ length x = b.long ∙ sym a.long in
    let same : y ≡ x = one_first bytes x y m n a b in
    let after : n ≡ m = sym (drop_at y n (length x) long) ∙ ap (λ l. drop (length x) l) (sym b.whole ∙ a.whole) ∙ drop_at x m (length x) refl in
    let others = one m xs ys left rest c p (subst (λ l. Cuts l ys rest) after d) q in
    (ap (λ l. l ∷ ys) same ∙ ap (λ l. x ∷ l) others.0, others.1)

pub has_one_cut : (bytes : List ℕ) → HasOneCut bytes
has_one_cut bytes = λ blocks others rest other c d. one bytes blocks others rest other c.cut c.is_rest d.cut d.is_rest

-- what is held after a block was returned
pub next_cut : (bytes block items : List ℕ) (returned count : ℕ) → drop returned items ≡ bytes → count ≡ length block → Begins bytes block (drop (length block) bytes) → Begins bytes block (drop (returned + count) items)
next_cut bytes block items returned count held many begins =
    let rest : drop (length block) bytes ≡ drop (returned + count) items =
    ap (λ xs. drop (length block) xs) (sym held) ∙ drop-drop (length block) returned items ∙ ap (λ n. drop (returned + n) items) (sym many) in
    subst (λ xs. Begins bytes block xs) rest begins
