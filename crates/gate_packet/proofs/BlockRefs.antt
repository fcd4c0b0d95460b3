-- What is known of a whole block where it stands.
use Rattle.std.proofs.Common.{◌≡◌, ℕ, ◌-◌, ◌<◌, ◌≤◌, Bool, true, false, cond, eqb, not, ◌&&◌, inl, Some, None, List, ◌++◌, length, take, drop, refl, sym, ap, ◌∙◌, append_assoc, arith}
use Rattle.std.specs.Prelude.{nat_le}
use Rattle.std.proofs.lemmas.List.{take-take, take_all, take-append-le, take-append-drop, drop-append-le, length-take-le}
use Rattle.std.proofs.lemmas.Slice.{between_to_end}
use Rattle.byteorder.specs.Endian.{big_number}
use Rattle.gate_packet.specs.declared.decoding.PacketFault.{PacketFault}
use Rattle.std.proofs.lemmas.Bool.{eq-eqb, ne_eqb}
use Rattle.gate_packet.specs.declared.decoding.PacketFault.TheVariants.{BadVersion, BadCheckWord}
use Rattle.gate_packet.specs.CheckWord.{after_bytes, check_word}
use Rattle.gate_packet.specs.Layout.{packet_version, crc32_value, without_check_word, zeros, IsPacketSize}
use Rattle.gate_packet.specs.Decoding.{is_sound}
use Rattle.gate_packet.proofs.CheckWordBlocks.{after_bytes-append}
use Rattle.gate_packet.specs.Stream.{begins_short, Begins, IsRest}
use Rattle.gate_packet.specs.inner.BlockRefs.{integrity_fault, IsBlockRef}
use Rattle.gate_packet.proofs.Cuts.{rest_of_few, enough_decide, long_begins, size_at_most}

complement : (bytes : List ℕ) (word : ℕ) → word ≡ after_bytes 0xFFFFFFFF (without_check_word bytes) → 0xFFFFFFFF - word ≡ check_word (without_check_word bytes)
unfolding check_word
complement bytes word w = ap (λ (n : ℕ). 0xFFFFFFFF - n) w

pub sound_block : (bytes : List ℕ) (word : ℕ) → packet_version bytes ≡ 3 → word ≡ after_bytes 0xFFFFFFFF (without_check_word bytes) → crc32_value bytes ≡ 0xFFFFFFFF - word → None ≡ integrity_fault bytes
sound_block bytes word v w e = sym (rw (eq-eqb _ _ v, eq-eqb _ _ (e ∙ complement bytes word w)) refl)

pub unsound_block : (bytes : List ℕ) (word : ℕ) → packet_version bytes ≡ 3 → word ≡ after_bytes 0xFFFFFFFF (without_check_word bytes) → (crc32_value bytes ≡ 0xFFFFFFFF - word → ⊥) → Some BadCheckWord ≡ integrity_fault bytes
unsound_block bytes word v w e = sym (rw (eq-eqb _ _ v, ne_eqb _ _ (λ same. e (same ∙ sym (complement bytes word w)))) refl)

-- ---- the front of bytes

-- the version stands at the front
pub version_in_front : (size : ℕ) (bytes : List ℕ) → 2 ≤ size → packet_version (take size bytes) ≡ packet_version bytes
version_in_front size bytes some = ap (λ xs. big_number 2 xs) (take-take 2 size bytes some)

-- the word of the first bytes goes on over those after them
pub word_goes_on : (word : ℕ) (first more : List ℕ) → 8 ≤ length first → after_bytes (after_bytes word (without_check_word first)) more ≡ after_bytes word (without_check_word (first ++ more))
word_goes_on word first more enough =
    let front : take 4 (first ++ more) ≡ take 4 first = take-append-le 4 first more (omega arith) in
    let back : drop 8 (first ++ more) ≡ drop 8 first ++ more = drop-append-le 8 first more enough in
    let all : without_check_word (first ++ more) ≡ without_check_word first ++ more =
    ap (λ xs. xs ++ zeros 4 ++ drop 8 (first ++ more)) front ∙ ap (λ xs. take 4 first ++ zeros 4 ++ xs) back ∙ sym (append_assoc (take 4 first ++ zeros 4) (drop 8 first) more) in
    sym (ap (after_bytes word) all ∙ after_bytes-append word (without_check_word first) more)

-- bytes of version 3 are sound where their check word is the complement of their own word
faultless_sound : (version word : Bool) → cond (not version) (Some BadVersion) (cond (not word) (Some BadCheckWord) None) ≡ None → (version && word) ≡ true
faultless_sound true true e = refl
faultless_sound true false e = absurd cc
faultless_sound false word e = absurd cc

-- bytes whose version and check word have no fault are sound, and no others
pub faultless_sound_bytes : (bytes : List ℕ) → integrity_fault bytes ≡ None → is_sound bytes ≡ true
faultless_sound_bytes bytes e = faultless_sound _ _ e

faulty_unsound : (version word : Bool) (fault : PacketFault) → cond (not version) (Some BadVersion) (cond (not word) (Some BadCheckWord) None) ≡ Some fault → (version && word) ≡ false
faulty_unsound true true fault e = absurd cc
faulty_unsound true false fault e = refl
faulty_unsound false word fault e = refl

-- the word of 4304 bytes, from that of the first 720
pub word_of_long : (bytes long : List ℕ) (word result : ℕ) → long ≡ take 4304 bytes → length long ≡ 4304 → word ≡ after_bytes 0xFFFFFFFF (without_check_word (take 720 bytes)) → result ≡ after_bytes word (take (length long - 720) (drop 720 long)) → result ≡ after_bytes 0xFFFFFFFF (without_check_word long)
word_of_long bytes long word result same size w r =
    let front : take 720 bytes ≡ take 720 long = sym (ap (λ xs. take 720 xs) same ∙ take-take 720 4304 bytes (omega arith)) in
    let back : take (length long - 720) (drop 720 long) ≡ drop 720 long = between_to_end long 720 (length long) (omega arith) in
    let long_front : 8 ≤ length (take 720 long) = omega (arith, size, length-take-le 720 long (omega (arith, size))) in
    r ∙ ap (λ xs. after_bytes word xs) back
    ∙ ap (λ (n : ℕ). after_bytes n (drop 720 long)) (w ∙ ap (λ xs. after_bytes 0xFFFFFFFF (without_check_word xs)) front)
    ∙ word_goes_on 0xFFFFFFFF (take 720 long) (drop 720 long) long_front
    ∙ ap (λ xs. after_bytes 0xFFFFFFFF (without_check_word xs)) (take-append-drop 720 long)

-- ---- bytes of another version

right_false : (a b c : Bool) → b ≡ false → (a && (b && c)) ≡ false
right_false true b c e = ap (λ x. x && c) e
right_false false b c e = refl

pub unread_long : (bytes : List ℕ) → (packet_version bytes ≡ 3 → ⊥) → begins_short bytes ≡ false
unread_long bytes other =
    let at_front : eqb (packet_version (take 720 bytes)) 3 ≡ false = ne_eqb _ 3 (λ e. other (sym (version_in_front 720 bytes (omega arith)) ∙ e)) in
    right_false (nat_le 720 (length bytes)) _ _ at_front

pub unread_rest : (bytes : List ℕ) → (packet_version bytes ≡ 3 → ⊥) → length bytes < 4304 → IsRest bytes
unread_rest bytes other few = rest_of_few bytes few (unread_long bytes other)

pub unread_block : (bytes long : List ℕ) → (packet_version bytes ≡ 3 → ⊥) → long ≡ take 4304 bytes → length long ≡ 4304 → IsBlockRef long (Some BadVersion)
unread_block bytes long other same size =
    let here : packet_version long ≡ packet_version bytes = ap (λ xs. packet_version xs) same ∙ version_in_front 4304 bytes (omega arith) in
    record { size = inl size; found = sym (rw (ne_eqb (packet_version long) 3 (λ e. other (sym here ∙ e))) refl) }

pub unread_begins : (bytes long more : List ℕ) → (packet_version bytes ≡ 3 → ⊥) → 4304 ≤ length bytes → long ≡ take 4304 bytes → more ≡ drop 4304 bytes → Begins bytes long more
unread_begins bytes long more other = long_begins bytes long more (unread_long bytes other)

-- ---- bytes of version 3

-- 720 bytes without a fault are a short block
pub short_found : (bytes short : List ℕ) → short ≡ take 720 bytes → 720 ≤ length bytes → integrity_fault short ≡ None → begins_short bytes ≡ true
short_found bytes short same enough none = enough_decide bytes enough ∙ ap is_sound (sym same) ∙ faultless_sound_bytes short none

-- 720 bytes with a fault are none
pub long_found : (bytes short : List ℕ) (fault : PacketFault) → short ≡ take 720 bytes → 720 ≤ length bytes → integrity_fault short ≡ Some fault → begins_short bytes ≡ false
long_found bytes short fault same enough found = enough_decide bytes enough ∙ ap is_sound (sym same) ∙ faulty_unsound _ _ fault found

-- ---- copies

pub whole_long : (bytes long : List ℕ) → IsPacketSize (length bytes) → 4304 ≤ length bytes → long ≡ take 4304 bytes → long ≡ bytes
whole_long bytes long size enough same = same ∙ take_all 4304 bytes (size_at_most (length bytes) size)
