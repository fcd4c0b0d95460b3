-- One more command that is written.
use Rattle.std.proofs.Common.{◌≡◌, ℕ, ◌+◌, List, [], ◌∷◌, ◌++◌, ◌<◌, length, take, get_or, true, false, ◌==◌, Some, None, if◌then◌else◌, inl, inr, refl, sym, subst, ap, ◌∙◌}
use Rattle.std.specs.List.{concat, list_any, AllByRecursion}
use Rattle.std.proofs.lemmas.Bool.{or_parts, or_from}
use Rattle.gate_model.specs.declared.submission.Body.TheVariants as body
use Rattle.gate_packet.specs.declared.decoding.PacketFault.TheVariants.{Stale}
use Rattle.std.proofs.lemmas.List.{append-nil, take_more}
use Rattle.gate_packet.specs.Packet.{Content}
use Rattle.gate_packet.specs.Encoding.{encoded}
use Rattle.gate_grammar.specs.declared.commands.Command.{Command}
use Rattle.gate_grammar.specs.Canonical.{canonical_line}
use Rattle.gate_grammar.specs.Spelling.{holds}
use Rattle.gate_kept.specs.Kept.{begins_packet, Gives, lines_text, IsBlock, IsGoodPacket, IsBadPacket, IsGoodLine, IsBadLine, IsKept}
use Rattle.gate_kept.specs.Written.{Reports, HasNoPacket, HasLine, Writes, IsWritten}
use Rattle.gate_kept.specs.inner.Put.{IsSoundPacket, IsSoundLine, Texts, texts, IsPut, ArePut}
use Rattle.gate_packet.specs.Decoding.{is_stale, fault_of}
use Rattle.gate_grammar.specs.Spelling.{Spells, is_barred}
use Rattle.gate_kept.proofs.GiveSteps.{all_with, concat_with, lines_with}

as_packet : (commands : List Command) (one : Command) (packets lines : List (List ℕ)) (left : List Command) (p : Content)
    → Writes commands packets lines left → Reports p one.body → Writes (commands ++ one ∷ []) (packets ++ encoded 4304 p ∷ []) lines left
as_packet [] one packets lines left p (none, no_lines, all) r = inl (p, [], r, ap (λ l. l ++ encoded 4304 p ∷ []) none, (refl, no_lines, all))
as_packet (first ∷ commands) one packets lines left p (inl (q, others, s, is, rest)) r =
    inl (q, others ++ encoded 4304 p ∷ [], s, ap (λ l. l ++ encoded 4304 p ∷ []) is, as_packet commands one others lines left p rest r)
as_packet (first ∷ commands) one packets lines left p (inr (inl (others, none, has, is, rest))) r =
    inr (inl (others, none, has, is, as_packet commands one packets others left p rest r))
as_packet (first ∷ commands) one packets lines left p (inr (inr (others, none, never, is, rest))) r =
    inr (inr (others, none, never, is, as_packet commands one packets lines others p rest r))

as_line : (commands : List Command) (one : Command) (packets lines : List (List ℕ)) (left : List Command)
    → Writes commands packets lines left → HasNoPacket one.body → HasLine one → Writes (commands ++ one ∷ []) packets (lines ++ canonical_line one ∷ []) left
as_line [] one packets lines left (none, no_lines, all) without has = inr (inl ([], without, has, ap (λ l. l ++ canonical_line one ∷ []) no_lines, (none, refl, all)))
as_line (first ∷ commands) one packets lines left (inl (q, others, s, is, rest)) without has =
    inl (q, others, s, is, as_line commands one others lines left rest without has)
as_line (first ∷ commands) one packets lines left (inr (inl (others, none, had, is, rest))) without has =
    inr (inl (others ++ canonical_line one ∷ [], none, had, ap (λ l. l ++ canonical_line one ∷ []) is, as_line commands one packets others left rest without has))
as_line (first ∷ commands) one packets lines left (inr (inr (others, none, never, is, rest))) without has =
    inr (inr (others, none, never, is, as_line commands one packets lines others rest without has))

aside : (commands : List Command) (one : Command) (packets lines : List (List ℕ)) (left : List Command)
    → Writes commands packets lines left → HasNoPacket one.body → (HasLine one → ⊥) → Writes (commands ++ one ∷ []) packets lines (left ++ one ∷ [])
aside [] one packets lines left (none, no_lines, all) without never = inr (inr ([], without, never, ap (λ l. l ++ one ∷ []) all, (none, no_lines, refl)))
aside (first ∷ commands) one packets lines left (inl (q, others, s, is, rest)) without never =
    inl (q, others, s, is, aside commands one others lines left rest without never)
aside (first ∷ commands) one packets lines left (inr (inl (others, none, had, is, rest))) without never =
    inr (inl (others, none, had, is, aside commands one packets others left rest without never))
aside (first ∷ commands) one packets lines left (inr (inr (others, none, not_so, is, rest))) without never =
    inr (inr (others ++ one ∷ [], none, not_so, ap (λ l. l ++ one ∷ []) is, aside commands one packets lines others rest without never))

pub put_none : ArePut [] (texts [] [] [])
put_none = record {
  blocks = [];
  written = [];
  writes = (refl, refl, refl);
  packets_are = refl;
  lines_are = refl;
  sound_packets = tt;
  sound_lines = tt;
}

pub put_more : (commands : List Command) (one : Command) (old new : Texts) → ArePut commands old → IsPut one old new → ArePut (commands ++ one ∷ []) new
put_more commands one old new far (inl put) = subst (ArePut (commands ++ one ∷ [])) (sym put.added) (record {
  blocks = far.blocks ++ encoded 4304 put.packet ∷ [];
  written = far.written;
  writes = as_packet commands one far.blocks far.written old.left put.packet far.writes put.reports;
  packets_are = ap (λ l. l ++ encoded 4304 put.packet) far.packets_are ∙ sym (concat_with far.blocks (encoded 4304 put.packet));
  lines_are = far.lines_are;
  sound_packets = all_with IsSoundPacket far.blocks (encoded 4304 put.packet) far.sound_packets put.sound;
  sound_lines = far.sound_lines;
})
put_more commands one old new far (inr (inl put)) = subst (ArePut (commands ++ one ∷ [])) (sym put.added) (record {
  blocks = far.blocks;
  written = far.written ++ canonical_line one ∷ [];
  writes = as_line commands one far.blocks far.written old.left far.writes put.none put.has_line;
  packets_are = far.packets_are;
  lines_are = ap (λ l. l ++ (canonical_line one ++ 10 ∷ [])) far.lines_are ∙ sym (lines_with far.written (canonical_line one));
  sound_packets = far.sound_packets;
  sound_lines = all_with IsSoundLine far.written (canonical_line one) far.sound_lines put.sound;
})
put_more commands one old new far (inr (inr put)) = subst (ArePut (commands ++ one ∷ [])) (sym put.added) (record {
  blocks = far.blocks;
  written = far.written;
  writes = aside commands one far.blocks far.written old.left far.writes put.none put.no_line;
  packets_are = far.packets_are;
  lines_are = far.lines_are;
  sound_packets = far.sound_packets;
  sound_lines = far.sound_lines;
})

-- ---- what is written is read again

all_blocks : (blocks : List (List ℕ)) → AllByRecursion IsSoundPacket blocks → AllByRecursion IsBlock blocks
all_blocks [] all = tt
all_blocks (block ∷ blocks) (one, all) = (one.block, all_blocks blocks all)

all_good : (number : ℕ) (blocks : List (List ℕ)) → AllByRecursion IsSoundPacket blocks → Gives IsGoodPacket IsBadPacket number blocks blocks []
all_good number [] all = (refl, refl)
all_good number (block ∷ blocks) (one, all) = inl (blocks, one.good, refl, all_good (number + 1) blocks all)

all_unbroken : (lines : List (List ℕ)) → AllByRecursion IsSoundLine lines → AllByRecursion (λ line. holds 10 line ≡ false) lines
all_unbroken [] all = tt
all_unbroken (line ∷ lines) (one, all) = (one.unbroken, all_unbroken lines all)

all_spelled : (number : ℕ) (lines : List (List ℕ)) → AllByRecursion IsSoundLine lines → Gives IsGoodLine IsBadLine number lines lines []
all_spelled number [] all = (refl, refl)
all_spelled number (line ∷ lines) (one, all) = inl (lines, one.good, refl, all_spelled (number + 1) lines all)

begins_longer : (line rest : List ℕ) → begins_packet ((line ++ 10 ∷ []) ++ rest) ≡ begins_packet (line ++ 10 ∷ [])
begins_longer [] rest = refl
begins_longer (byte ∷ line) rest = refl

begins_line : (lines : List (List ℕ)) → AllByRecursion IsSoundLine lines → begins_packet (lines_text lines) ≡ false
begins_line [] all = refl
begins_line (line ∷ lines) (one, all) = begins_longer line (lines_text lines) ∙ one.begins

pub read_again : (blocks lines : List (List ℕ)) → AllByRecursion IsSoundPacket blocks → AllByRecursion IsSoundLine lines
    → IsKept (concat blocks ++ lines_text lines) (concat blocks) (lines_text lines) []
read_again blocks lines packets_sound lines_sound = record {
  after = lines_text lines;
  count = length blocks;
  of_packets = [];
  of_rest = [];
  front = record {
    blocks = blocks;
    taken = blocks;
    whole = refl;
    each = all_blocks blocks packets_sound;
    counted = refl;
    gives = all_good 1 blocks packets_sound;
    bytes = refl;
  };
  back = inr (
    begins_line lines lines_sound,
    record {
      written = lines;
      rest = [];
      taken = lines;
      bad = [];
      whole = sym (append-nil (lines_text lines));
      each = all_unbroken lines lines_sound;
      unbroken = refl;
      gives = all_spelled 1 lines lines_sound;
      text = refl;
      named = refl;
    },
  );
  named = refl;
}

pub written_whole : (commands : List Command) (all : Texts) (text : List ℕ) → ArePut commands all → text ≡ all.packets ++ all.lines → IsWritten commands text all.left
written_whole commands all text far is = record {
  packets = far.blocks;
  lines = far.written;
  writes = far.writes;
  taken = subst (λ l. IsKept l (concat far.blocks) (lines_text far.written) []) (sym (is ∙ ap (λ l. l ++ all.lines) far.packets_are ∙ ap (λ l. concat far.blocks ++ l) far.lines_are))
      (read_again far.blocks far.written far.sound_packets far.sound_lines);
}

-- ---- a packet and a line

begins_encoded : (p : Content) → begins_packet (encoded 4304 p) ≡ true
unfolding encoded
begins_encoded p = refl

never_stale : (timestamp : ℕ) → timestamp ≡ 4294967295 → is_stale timestamp 4294967295 1 ≡ false
never_stale timestamp is = subst (λ t. is_stale t 4294967295 1 ≡ false) (sym is) refl

pub sound_packet : (bytes : List ℕ) (p : Content) → bytes ≡ encoded 4304 p → length bytes ≡ 4304 → p.timestamp ≡ 4294967295
    → fault_of bytes 4294967295 1 ≡ (if is_stale p.timestamp 4294967295 1 then Some Stale else None) → IsSoundPacket bytes
sound_packet bytes p is long last faultless = record {
  block = record { begins = ap begins_packet is ∙ begins_encoded p; whole = long };
  good = faultless ∙ ap (λ b. if b then Some Stale else None) (never_stale p.timestamp last);
}

no_break : (line : List ℕ) → list_any is_barred line ≡ false → holds 10 line ≡ false
no_break [] clean = refl
no_break (byte ∷ line) clean =
    let parts = or_parts (is_barred byte) (list_any is_barred line) clean in
    let bars = or_parts (byte == 0) (byte == 10) parts.0 in
    or_from (byte == 10) (holds 10 line) bars.1 (no_break line parts.1)

begins_timed : (line front blanks : List ℕ) → line ≡ (91 ∷ front) ++ blanks → begins_packet (line ++ 10 ∷ []) ≡ false
begins_timed line front blanks is = ap (λ l. begins_packet (l ++ 10 ∷ [])) is

pub sound_line : (line : List ℕ) (one : Command) → Spells line one → (one.body ≡ body.Shutdown → ⊥) → IsSoundLine line
sound_line line one spelled other = record {
  good = record { command = one; spelled = spelled; other = other };
  unbroken = no_break line spelled.clean;
  begins = begins_timed line _ spelled.blanks spelled.whole;
}

pub put_next : (commands : List Command) (index : ℕ) (one : Command) (old new : Texts)
    → index < length commands → one ≡ get_or commands index one → ArePut (take index commands) old → IsPut one old new → ArePut (take (index + 1) commands) new
put_next commands index one old new within same far put =
    subst (λ l. ArePut l new) (ap (λ x. take index commands ++ x ∷ []) same ∙ sym (take_more commands index one within))
    (put_more (take index commands) one old new far put)
