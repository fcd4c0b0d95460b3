-- What comes after whole packets and lines.
use Rattle.std.proofs.Common.{◌≡◌, ℕ, ◌<◌, ◌≤◌, List, [], ◌∷◌, length, drop, refl, sym, ap, ◌∙◌, subst, arith}
use Rattle.std.proofs.lemmas.List.{length-drop}
use Rattle.gate_turns.specs.declared.standing.Role.{Role}
use Rattle.gate_packet.specs.Stream.{block_length, IsRest}
use Rattle.gate_packet.proofs.Cuts.{some_bytes}
use Rattle.gate_ports.specs.Held.{HasNoEnd, IsBegunPacket, IsBegunLine}

pub packet_none : (role : Role) (bytes : List ℕ) → bytes ≡ [] → IsBegunPacket role bytes
packet_none role bytes none agent =
    let none_long : length bytes ≡ 0 = ap length none in
    let some : 0 < block_length bytes = some_bytes bytes in
    omega (arith, none_long, some)

pub line_none : (role : Role) (bytes : List ℕ) → bytes ≡ [] → IsBegunLine role bytes
line_none role bytes none operator =
    let none_long : length bytes ≡ 0 = ap length none in
    (subst HasNoEnd (sym none) refl, omega (arith, none_long))

pub no_bytes : (bytes : List ℕ) → length bytes ≡ 0 → bytes ≡ []
no_bytes [] none = refl
no_bytes (byte ∷ bytes) none = absurd (omega (arith, none))

pub after_end : (bytes : List ℕ) (count : ℕ) → length bytes ≤ count → drop count bytes ≡ []
after_end bytes count all =
    let rest : length (drop count bytes) ≡ 0 = length-drop count bytes ∙ omega (arith, all) in
    no_bytes (drop count bytes) rest

pub packet_end : (role : Role) (bytes : List ℕ) (count : ℕ) → length bytes ≤ count → IsBegunPacket role (drop count bytes)
packet_end role bytes count all = packet_none role (drop count bytes) (after_end bytes count all)

pub line_end : (role : Role) (bytes : List ℕ) (count : ℕ) → length bytes ≤ count → IsBegunLine role (drop count bytes)
line_end role bytes count all = line_none role (drop count bytes) (after_end bytes count all)

-- the beginning of a packet, which nothing whole comes before
pub packet_kept : (role : Role) (bytes kept : List ℕ) → IsRest bytes → kept ≡ bytes → IsBegunPacket role kept
packet_kept role bytes kept rest same agent = subst (λ xs. length xs < block_length xs) (sym same) rest.short
