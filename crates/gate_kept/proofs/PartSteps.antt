-- One more packet, one more line.
use Rattle.std.proofs.Common.{◌≡◌, ℕ, ◌+◌, List, [], ◌∷◌, ◌++◌, length, length-append, append_assoc, false, inl, inr, refl, sym, subst, ap, ◌∙◌, arith}
use Rattle.std.specs.List.{concat}
use Rattle.gate_grammar.specs.Spelling.{holds}
use Rattle.gate_kept.specs.declared.fault.KeptFault.{KeptFault}
use Rattle.gate_kept.specs.Kept.{Gives, lines_text, IsBlock, IsGoodPacket, IsBadPacket, IsGoodLine, IsBadLine, IsPacketPart}
use Rattle.gate_kept.specs.inner.Judged.{IsJudged, AreLinesSoFar, AddsLines}
use Rattle.gate_kept.proofs.GiveSteps.{takes, names, all_with, concat_with, lines_with}

front_grows : (text front left item more : List ℕ) → text ≡ front ++ left → left ≡ item ++ more → text ≡ (front ++ item) ++ more
front_grows text front left item more whole is = whole ∙ ap (λ l. front ++ l) is ∙ sym (append_assoc front item more)

pub count_more : {X : Type 0} (items : List X) (item : X) (count : ℕ) → count ≡ length items → count + 1 ≡ length (items ++ item ∷ [])
count_more items item count is = omega (arith, is, length-append items (item ∷ []))

one_on : (count : ℕ) (items : List (List ℕ)) → count ≡ length items → count + 1 ≡ 1 + length items
one_on count items is = omega (arith, is)

pub packet_step : (text left bytes more packets packets_after : List ℕ) (count : ℕ) (faults faults_after : List KeptFault)
    → IsPacketPart text left packets count faults → left ≡ bytes ++ more → IsBlock bytes
    → IsJudged IsGoodPacket IsBadPacket bytes (count + 1) bytes packets packets_after faults faults_after
    → IsPacketPart text more packets_after (count + 1) faults_after
packet_step text left bytes more packets packets_after count faults faults_after part is block (inl (good, grown, same)) = record {
  blocks = part.blocks ++ bytes ∷ [];
  taken = part.taken ++ bytes ∷ [];
  whole = front_grows text (concat part.blocks) left bytes more part.whole is ∙ ap (λ l. l ++ more) (sym (concat_with part.blocks bytes));
  each = all_with IsBlock part.blocks bytes part.each block;
  counted = count_more part.blocks bytes count part.counted;
  gives = subst (λ l. Gives IsGoodPacket IsBadPacket 1 (part.blocks ++ bytes ∷ []) (part.taken ++ bytes ∷ []) l) (sym same) (takes IsGoodPacket IsBadPacket 1 part.blocks bytes part.taken faults part.gives good);
  bytes = grown ∙ ap (λ l. l ++ bytes) part.bytes ∙ sym (concat_with part.taken bytes);
}
packet_step text left bytes more packets packets_after count faults faults_after part is block (inr (fault, bad, same, grown)) = record {
  blocks = part.blocks ++ bytes ∷ [];
  taken = part.taken;
  whole = front_grows text (concat part.blocks) left bytes more part.whole is ∙ ap (λ l. l ++ more) (sym (concat_with part.blocks bytes));
  each = all_with IsBlock part.blocks bytes part.each block;
  counted = count_more part.blocks bytes count part.counted;
  gives = subst (λ l. Gives IsGoodPacket IsBadPacket 1 (part.blocks ++ bytes ∷ []) part.taken l) (sym grown) (names IsGoodPacket IsBadPacket 1 (count + 1) part.blocks bytes part.taken faults fault part.gives (one_on count part.blocks part.counted) bad);
  bytes = same ∙ part.bytes;
}

-- ---- lines

lines_grow : (bytes left line more : List ℕ) (written : List (List ℕ)) → bytes ≡ lines_text written ++ left → left ≡ line ++ 10 ∷ more
    → bytes ≡ lines_text (written ++ line ∷ []) ++ more
lines_grow bytes left line more written whole is =
    front_grows bytes (lines_text written) left (line ++ 10 ∷ []) more whole (is ∙ sym (append_assoc line (10 ∷ []) more))
    ∙ ap (λ l. l ++ more) (sym (lines_with written line))

taken_line : (bytes left line more lines lines_after : List ℕ) (number : ℕ) (bad : List KeptFault)
    → AreLinesSoFar bytes left lines number bad → left ≡ line ++ 10 ∷ more → holds 10 line ≡ false → IsGoodLine line
    → lines_after ≡ lines ++ (line ++ 10 ∷ []) → AreLinesSoFar bytes more lines_after (number + 1) bad
taken_line bytes left line more lines lines_after number bad far is clean good grown = record {
  written = far.written ++ line ∷ [];
  taken = far.taken ++ line ∷ [];
  whole = lines_grow bytes left line more far.written far.whole is;
  each = all_with (λ one. holds 10 one ≡ false) far.written line far.each clean;
  counted = ap (λ n. n + 1) (far.counted ∙ count_more far.written line (length far.written) refl);
  gives = takes IsGoodLine IsBadLine 1 far.written line far.taken bad far.gives good;
  text = grown ∙ ap (λ l. l ++ (line ++ 10 ∷ [])) far.text ∙ sym (lines_with far.taken line);
}

at_number : (number : ℕ) (items : List (List ℕ)) → number ≡ length items + 1 → number ≡ 1 + length items
at_number number items is = omega (arith, is)

named_line : (bytes left line more lines lines_after : List ℕ) (number : ℕ) (bad : List KeptFault) (fault : KeptFault)
    → AreLinesSoFar bytes left lines number bad → left ≡ line ++ 10 ∷ more → holds 10 line ≡ false → IsBadLine number line fault
    → lines_after ≡ lines → AreLinesSoFar bytes more lines_after (number + 1) (bad ++ fault ∷ [])
named_line bytes left line more lines lines_after number bad fault far is clean worse same = record {
  written = far.written ++ line ∷ [];
  taken = far.taken;
  whole = lines_grow bytes left line more far.written far.whole is;
  each = all_with (λ one. holds 10 one ≡ false) far.written line far.each clean;
  counted = ap (λ n. n + 1) (far.counted ∙ count_more far.written line (length far.written) refl);
  gives = names IsGoodLine IsBadLine 1 number far.written line far.taken bad fault far.gives (at_number number far.written far.counted) worse;
  text = same ∙ far.text;
}

pub line_step : (bytes left line more lines lines_after : List ℕ) (number : ℕ) (faults held held_after : List KeptFault)
    → AddsLines bytes left lines number faults held → left ≡ line ++ 10 ∷ more → holds 10 line ≡ false
    → IsJudged IsGoodLine IsBadLine line number (line ++ 10 ∷ []) lines lines_after held held_after
    → AddsLines bytes more lines_after (number + 1) faults held_after
line_step bytes left line more lines lines_after number faults held held_after adds is clean (inl (good, grown, same)) = record {
  bad = adds.bad;
  so_far = taken_line bytes left line more lines lines_after number adds.bad adds.so_far is clean good grown;
  added = same ∙ adds.added;
}
line_step bytes left line more lines lines_after number faults held held_after adds is clean (inr (fault, bad, same, grown)) = record {
  bad = adds.bad ++ fault ∷ [];
  so_far = named_line bytes left line more lines lines_after number adds.bad fault adds.so_far is clean bad same;
  added = grown ∙ ap (λ l. l ++ fault ∷ []) adds.added ∙ append_assoc faults adds.bad (fault ∷ []);
}
