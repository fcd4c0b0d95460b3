-- The bytes that are written are the packet.
use Rattle.std.proofs.Common.{◌≡◌, ℕ, ℤ, ◌+◌, ◌-◌, ◌^◌, ◌<◌, ◌≤◌, List, [], ◌∷◌, ◌++◌, length, take, drop, refl, sym, ap, subst, ◌∙◌, inl, inr, arith}
use Rattle.std.specs.Int.{w16, cast_signed, cast_unsigned}
use Rattle.std.specs.Prelude.{FitsSigned}
use Rattle.std.proofs.lemmas.Int.{to_z-of_z}
use Rattle.std.proofs.lemmas.List.{append-nil}
use Rattle.std.proofs.lemmas.Bool.{leb-true}
use Rattle.byteorder.specs.Endian.{big_number, big_bytes}
use Rattle.byteorder.specs.Numbers.{big_number-reads_back}
use Rattle.gate_packet.specs.CheckWord.{check_word}
use Rattle.gate_packet.specs.Layout.{slice_of, zeros, text_at, without_check_word, IsPacketSize, output_size}
use Rattle.gate_packet.specs.inner.Writes.{written, HasRoom}
use Rattle.gate_packet.specs.Packet.{Content, content, IsContent}
use Rattle.gate_packet.specs.Decoding.{IsPacket}
use Rattle.gate_packet.specs.Encoding.{IsFilled, IsZeroFilled, encoded}
use Rattle.gate_packet.proofs.Pieces.{length-zeros, length-concat, piece_at, written_whole, field, length-field}
use Rattle.gate_packet.proofs.Texts.{filled_text}
use Rattle.gate_packet.proofs.Laid.{laid, written-laid}

-- the bytes of a packet with so much room for its output, and these as its check word
abbrev pub message : ℕ → ℕ → ℕ → List ℕ → List ℕ → List ℕ → List ℕ → List ℕ
message room timestamp code host service output word = laid (big_bytes 2 3) (zeros 2) word (big_bytes 4 timestamp) (big_bytes 2 code) (field 64 host) (field 128 service) (field room output) (zeros 2)

read_back : (n x : ℕ) → x < 256 ^ n → big_number n (big_bytes n x) ≡ x
read_back n x below = ap (λ xs. big_number n xs) (sym (append-nil (big_bytes n x))) ∙ big_number-reads_back n x [] below

pub record Slices (bytes word : List ℕ) (room timestamp code : ℕ) (host service output : List ℕ) : Type 0 where
  pub whole : length bytes ≡ room + 208
  pub version_at : slice_of bytes 0 2 ≡ big_bytes 2 3
  pub padding_at : slice_of bytes 2 2 ≡ zeros 2
  pub word_at : slice_of bytes 4 4 ≡ word
  pub timestamp_at : slice_of bytes 8 4 ≡ big_bytes 4 timestamp
  pub code_at : slice_of bytes 12 2 ≡ big_bytes 2 code
  pub host_at : slice_of bytes 14 64 ≡ field 64 host
  pub service_at : slice_of bytes 78 128 ≡ field 128 service
  pub output_at : slice_of bytes 206 room ≡ field room output
  pub last_padding_at : slice_of bytes (room + 206) 2 ≡ zeros 2

slices : (room timestamp code : ℕ) (host service output word : List ℕ) → length word ≡ 4 → length host ≤ 64 → length service ≤ 128 → length output ≤ room → Slices (message room timestamp code host service output word) word room timestamp code host service output
slices room timestamp code host service output word lw lh ls lo =
    let v : List ℕ = big_bytes 2 3 in
    let t : List ℕ = big_bytes 4 timestamp in
    let c : List ℕ = big_bytes 2 code in
    let h : List ℕ = field 64 host in
    let s : List ℕ = field 128 service in
    let o : List ℕ = field room output in
    let p : List ℕ = zeros 2 in
    let z2 = length-zeros 2 in
    let fh = length-field 64 host lh in
    let fs = length-field 128 service ls in
    let fo = length-field room output lo in
    record {
      whole = length-concat (v ∷ p ∷ word ∷ t ∷ c ∷ h ∷ s ∷ o ∷ p ∷ []) ∙ omega arith;
      version_at = piece_at [] v (p ∷ word ∷ t ∷ c ∷ h ∷ s ∷ o ∷ p ∷ []) 0 2 refl refl;
      padding_at = piece_at (v ∷ []) p (word ∷ t ∷ c ∷ h ∷ s ∷ o ∷ p ∷ []) 2 2 refl z2;
      word_at = piece_at (v ∷ p ∷ []) word (t ∷ c ∷ h ∷ s ∷ o ∷ p ∷ []) 4 4 (omega arith) lw;
      timestamp_at = piece_at (v ∷ p ∷ word ∷ []) t (c ∷ h ∷ s ∷ o ∷ p ∷ []) 8 4 (omega arith) refl;
      code_at = piece_at (v ∷ p ∷ word ∷ t ∷ []) c (h ∷ s ∷ o ∷ p ∷ []) 12 2 (omega arith) refl;
      host_at = piece_at (v ∷ p ∷ word ∷ t ∷ c ∷ []) h (s ∷ o ∷ p ∷ []) 14 64 (omega arith) fh;
      service_at = piece_at (v ∷ p ∷ word ∷ t ∷ c ∷ h ∷ []) s (o ∷ p ∷ []) 78 128 (omega arith) fs;
      output_at = piece_at (v ∷ p ∷ word ∷ t ∷ c ∷ h ∷ s ∷ []) o (p ∷ []) 206 room (omega arith) fo;
      last_padding_at = piece_at (v ∷ p ∷ word ∷ t ∷ c ∷ h ∷ s ∷ o ∷ []) p [] (room + 206) 2 (omega arith) z2;
    }

-- a write of four bytes to the check word's offset
pub rewritten : (room timestamp code : ℕ) (host service output old word : List ℕ) → length old ≡ 4 → length word ≡ 4 → written 4 word (message room timestamp code host service output old) ≡ message room timestamp code host service output word
rewritten room timestamp code host service output old word lo lw =
    let z2 = length-zeros 2 in
    written_whole (big_bytes 2 3 ∷ zeros 2 ∷ []) old word (big_bytes 4 timestamp ∷ big_bytes 2 code ∷ field 64 host ∷ field 128 service ∷ field room output ∷ zeros 2 ∷ []) 4 (omega arith) (lw ∙ sym lo)

blanked : (bytes : List ℕ) → without_check_word bytes ≡ written 4 (zeros 4) bytes
blanked bytes =
    let end : 8 ≡ 4 + length (zeros 4) = omega (arith, length-zeros 4) in
    ap (λ n. take 4 bytes ++ zeros 4 ++ drop n bytes) end

pub message-IsPacket : (room timestamp code word : ℕ) (host service output : List ℕ) → IsPacketSize (room + 208) → length output < room → timestamp < 2 ^ 32 → code < 2 ^ 16 → word < 2 ^ 32 → IsContent (content timestamp (cast_signed w16 code) host service output) → word ≡ check_word (message room timestamp code host service output (zeros 4)) → IsPacket (message room timestamp code host service output (big_bytes 4 word)) (content timestamp (cast_signed w16 code) host service output)
message-IsPacket room timestamp code word host service output size fits ft fc fw is covers =
    let lh : length host ≤ 63 = is.host.short in
    let ls : length service ≤ 127 = is.service.short in
    let bytes : List ℕ = message room timestamp code host service output (big_bytes 4 word) in
    let laid_out : Slices bytes (big_bytes 4 word) room timestamp code host service output = slices room timestamp code host service output (big_bytes 4 word) refl (omega arith) (omega arith) (omega arith) in
    let blank : without_check_word bytes ≡ message room timestamp code host service output (zeros 4) = blanked bytes ∙ rewritten room timestamp code host service output (big_bytes 4 word) (zeros 4) refl (length-zeros 4) in
    let room_is : output_size (length bytes) ≡ room = omega (arith, laid_out.whole) in
    record {
      whole = subst IsPacketSize (sym laid_out.whole) size;
      version = ap (λ xs. big_number 2 xs) laid_out.version_at;
      covered = ap (λ xs. big_number 4 xs) laid_out.word_at ∙ read_back 4 word fw ∙ covers ∙ ap check_word (sym blank);
      sent = ap (λ xs. big_number 4 xs) laid_out.timestamp_at ∙ read_back 4 timestamp ft;
      code = ap (λ xs. cast_signed w16 (big_number 2 xs)) laid_out.code_at ∙ ap (λ n. cast_signed w16 n) (read_back 2 code fc);
      host = filled_text bytes 14 64 host laid_out.host_at is.host;
      service = filled_text bytes 78 128 service laid_out.service_at is.service;
      output = subst (λ n. text_at bytes 206 n ≡ output) (sym room_is) (filled_text bytes 206 room output laid_out.output_at (record { short = omega arith; no_nul = is.output.no_nul }));
      has_host = is.has_host;
    }

pub message-IsZeroFilled : (room timestamp code : ℕ) (z : ℤ) (host service output word : List ℕ) → length output < room → length word ≡ 4 → IsContent (content timestamp z host service output) → IsZeroFilled (message room timestamp code host service output word) (content timestamp z host service output)
message-IsZeroFilled room timestamp code z host service output word fits lw is =
    let lh : length host ≤ 63 = is.host.short in
    let ls : length service ≤ 127 = is.service.short in
    let bytes : List ℕ = message room timestamp code host service output word in
    let laid_out : Slices bytes word room timestamp code host service output = slices room timestamp code host service output word lw (omega arith) (omega arith) (omega arith) in
    let room_is : output_size (length bytes) ≡ room = omega (arith, laid_out.whole) in
    let end_is : length bytes - 2 ≡ room + 206 = omega (arith, laid_out.whole) in
    record {
      padding = laid_out.padding_at;
      host = laid_out.host_at;
      service = laid_out.service_at;
      output = subst (λ n. IsFilled bytes 206 n output) (sym room_is) laid_out.output_at;
      last_padding = subst (λ n. IsFilled bytes n 2 []) (sym end_is) laid_out.last_padding_at;
    }

-- an integer that was written as 16 bits of two's complement is read as the same integer
pub code_back : (code : ℤ) (n : ℕ) → FitsSigned w16 code → n ≡ cast_unsigned w16 (cast_signed w16 (cast_unsigned w16 code)) → cast_signed w16 n ≡ code
code_back code n fits e =
    let same : cast_signed w16 (cast_unsigned w16 code) ≡ code = to_z-of_z w16 code fits in
    ap (λ k. cast_signed w16 k) (e ∙ ap (λ z. cast_unsigned w16 z) same) ∙ same

pub code_written : (code : ℤ) (n : ℕ) → FitsSigned w16 code → n ≡ cast_unsigned w16 (cast_signed w16 (cast_unsigned w16 code)) → n ≡ cast_unsigned w16 code
code_written code n fits e = e ∙ ap (λ z. cast_unsigned w16 z) (to_z-of_z w16 code fits)

as_encoded : (room timestamp code word : ℕ) (z : ℤ) (host service output : List ℕ) → code ≡ cast_unsigned w16 z → word ≡ check_word (message room timestamp code host service output (zeros 4)) → message room timestamp code host service output (big_bytes 4 word) ≡ encoded (room + 208) (content timestamp z host service output)
unfolding encoded
as_encoded room timestamp code word z host service output bits covers =
    let room_is : output_size (room + 208) ≡ room = omega arith in
    let unsigned : ℕ = cast_unsigned w16 z in
    let here : message room timestamp code host service output (big_bytes 4 word) ≡ message room timestamp unsigned host service output (big_bytes 4 (check_word (message room timestamp unsigned host service output (zeros 4)))) =
    ap (λ (c : ℕ). message room timestamp c host service output (big_bytes 4 word)) bits
    ∙ ap (λ (w : ℕ). message room timestamp unsigned host service output (big_bytes 4 w)) (covers ∙ ap (λ (c : ℕ). check_word (message room timestamp c host service output (zeros 4))) bits) in
    subst (λ (r : ℕ). message room timestamp code host service output (big_bytes 4 word) ≡ message r timestamp unsigned host service output (big_bytes 4 (check_word (message r timestamp unsigned host service output (zeros 4))))) (sym room_is) here

-- the packet's bytes after each of the writes that make them
pub record Writes (z : ℤ) (room timestamp code word : ℕ) (host service output bytes0 bytes1 bytes2 bytes3 bytes4 bytes5 bytes6 bytes7 : List ℕ) : Type 0 where
  pub start : bytes0 ≡ zeros (room + 208)
  pub put_version : bytes1 ≡ written 0 (big_bytes 2 3) bytes0
  pub put_timestamp : bytes2 ≡ written 8 (big_bytes 4 timestamp) bytes1
  pub put_code : bytes3 ≡ written 12 (big_bytes 2 code) bytes2
  pub put_host : bytes4 ≡ written 14 host bytes3
  pub put_service : bytes5 ≡ written 78 service bytes4
  pub put_output : bytes6 ≡ written 206 output bytes5
  pub covers : word ≡ check_word bytes6
  pub put_word : bytes7 ≡ written 4 (big_bytes 4 word) bytes6
  pub code_is : cast_signed w16 code ≡ z
  pub code_bits : code ≡ cast_unsigned w16 z

pub all_written : (z : ℤ) (room timestamp code word : ℕ) (host service output bytes0 bytes1 bytes2 bytes3 bytes4 bytes5 bytes6 bytes7 : List ℕ) → Writes z room timestamp code word host service output bytes0 bytes1 bytes2 bytes3 bytes4 bytes5 bytes6 bytes7 → IsPacketSize (room + 208) → length output < room → timestamp < 2 ^ 32 → code < 2 ^ 16 → word < 2 ^ 32 → IsContent (content timestamp z host service output) → IsPacket bytes7 (content timestamp z host service output) × IsZeroFilled bytes7 (content timestamp z host service output) × (bytes7 ≡ encoded (room + 208) (content timestamp z host service output))
all_written z room timestamp code word host service output bytes0 bytes1 bytes2 bytes3 bytes4 bytes5 bytes6 bytes7 w size fits ft fc fw is =
    let lh : length host ≤ 63 = is.host.short in
    let ls : length service ≤ 127 = is.service.short in
    let unsigned : bytes6 ≡ message room timestamp code host service output (zeros 4) =
    w.put_output ∙ ap (λ l. written 206 output l) (w.put_service ∙ ap (λ l. written 78 service l) (w.put_host ∙ ap (λ l. written 14 host l) (w.put_code ∙ ap (λ l. written 12 (big_bytes 2 code) l) (w.put_timestamp ∙ ap (λ l. written 8 (big_bytes 4 timestamp) l) (w.put_version ∙ ap (λ l. written 0 (big_bytes 2 3) l) w.start)))))
    ∙ written-laid room (big_bytes 2 3) (big_bytes 4 timestamp) (big_bytes 2 code) host service output refl refl refl (omega arith) (omega arith) (omega arith) in
    let signed : bytes7 ≡ message room timestamp code host service output (big_bytes 4 word) =
    w.put_word ∙ ap (λ l. written 4 (big_bytes 4 word) l) unsigned ∙ rewritten room timestamp code host service output (zeros 4) (big_bytes 4 word) (length-zeros 4) refl in
    let packet = message-IsPacket room timestamp code word host service output size fits ft fc fw (subst (λ y. IsContent (content timestamp y host service output)) (sym w.code_is) is) (w.covers ∙ ap check_word unsigned) in
    let filled = message-IsZeroFilled room timestamp code z host service output (big_bytes 4 word) fits refl is in (
      subst (λ l. IsPacket l (content timestamp z host service output)) (sym signed) (subst (λ y. IsPacket (message room timestamp code host service output (big_bytes 4 word)) (content timestamp y host service output)) w.code_is packet),
      subst (λ l. IsZeroFilled l (content timestamp z host service output)) (sym signed) filled,
      signed ∙ as_encoded room timestamp code word z host service output w.code_bits (w.covers ∙ ap check_word unsigned),
    )

-- ---- room for the output

pub room_size : (size : ℕ) (p : Content) → HasRoom size p → IsPacketSize size
room_size size p (inl e) = inl e
room_size size p (inr e) = inr e.0

pub room_left : (size : ℕ) (p : Content) → HasRoom size p → output_size size + 208 ≡ size
room_left size p (inl e) = omega (arith, e)
room_left size p (inr e) = omega (arith, e.0)

pub room_enough : (size : ℕ) (p : Content) → HasRoom size p → IsContent p → length p.output < output_size size
room_enough size p (inl e) is = let short = is.output.short in omega (arith, e, short)
room_enough size p (inr e) is = let short = leb-true (length p.output) 511 e.1 in omega (arith, e.0, short)
