-- One command that is written, and those before it.
use Rattle.std.specs.Prelude.{◌≡◌, ◌⊎◌, ℕ, false, List, [], ◌∷◌, ◌++◌}
use Rattle.std.specs.List.{concat, AllByRecursion}
use Rattle.gate_grammar.specs.declared.commands.Command.{Command}
use Rattle.gate_packet.specs.Packet.{Content}
use Rattle.gate_packet.specs.Encoding.{encoded}
use Rattle.gate_grammar.specs.Spelling.{holds}
use Rattle.gate_grammar.specs.Canonical.{canonical_line}
use Rattle.gate_kept.specs.Kept.{begins_packet, IsBlock, IsGoodPacket, IsGoodLine, lines_text}
use Rattle.gate_kept.specs.Written.{Reports, HasNoPacket, HasLine, Writes}

-- a packet as it is read again
pub record IsSoundPacket (bytes : List ℕ) : Type 0 where
  pub block : IsBlock bytes
  pub good : IsGoodPacket bytes

-- a line as it is read again
pub record IsSoundLine (line : List ℕ) : Type 0 where
  pub good : IsGoodLine line
  pub unbroken : holds 10 line ≡ false
  pub begins : begins_packet (line ++ 10 ∷ []) ≡ false

-- what is written: packets, lines, and the commands that neither holds
pub record Texts : Type 0 where
  pub packets : List ℕ
  pub lines : List ℕ
  pub left : List Command

abbrev pub texts : List ℕ → List ℕ → List Command → Texts
texts packets lines left = record { packets = packets; lines = lines; left = left }

-- the command was written as a packet
pub record IsPutPacket (one : Command) (old new : Texts) : Type 0 where
  pub packet : Content
  pub reports : Reports packet one.body
  pub sound : IsSoundPacket (encoded 4304 packet)
  pub added : new ≡ record old { packets = old.packets ++ encoded 4304 packet }

-- as a line
pub record IsPutLine (one : Command) (old new : Texts) : Type 0 where
  pub none : HasNoPacket one.body
  pub has_line : HasLine one
  pub sound : IsSoundLine (canonical_line one)
  pub added : new ≡ record old { lines = old.lines ++ (canonical_line one ++ 10 ∷ []) }

-- it is left
pub record IsPutAside (one : Command) (old new : Texts) : Type 0 where
  pub none : HasNoPacket one.body
  pub no_line : HasLine one → ⊥
  pub added : new ≡ record old { left = old.left ++ one ∷ [] }

-- one of these
abbrev pub IsPut : Command → Texts → Texts → Type 0
IsPut one old new = IsPutPacket one old new ⊎ IsPutLine one old new ⊎ IsPutAside one old new

-- these commands were written so far
pub record ArePut (commands : List Command) (so_far : Texts) : Type 0 where
  pub blocks : List (List ℕ)
  pub written : List (List ℕ)
  pub writes : Writes commands blocks written so_far.left
  pub packets_are : so_far.packets ≡ concat blocks
  pub lines_are : so_far.lines ≡ lines_text written
  pub sound_packets : AllByRecursion IsSoundPacket blocks
  pub sound_lines : AllByRecursion IsSoundLine written
