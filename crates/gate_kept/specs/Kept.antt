-- What is taken of a text that an earlier run has left, and what is named as a fault: `IsKept`. The text is packets of 4304
-- bytes (`data_packet` of NSCA 2.9, common.h), each beginning with 0, and then command lines, each with its LF. Own rules.
use Rattle.std.specs.Prelude.{◌≡◌, ◌⊎◌, ◌<◌, ℕ, ◌+◌, ◌==◌, Bool, true, false, List, [], ◌∷◌, ◌++◌, length, codes, Some, None}
use Rattle.std.specs.List.{concat, flat_map, AllByRecursion}
use Rattle.gate_model.specs.declared.submission.Body.TheVariants as body
use Rattle.gate_packet.specs.Decoding.{fault_of}
use Rattle.gate_grammar.specs.declared.commands.Command.{Command}
use Rattle.gate_grammar.specs.Spelling.{Spells, holds}
use Rattle.gate_grammar.specs.Parsing.{first_fault}
use Rattle.gate_kept.specs.declared.fault.KeptFault.{KeptFault}
use Rattle.gate_kept.specs.declared.fault.KeptFault.TheVariants.{Packet, CutPacket, Line, Shutdown, CutLine}

-- the bytes begin with 0, as a packet does and no line
abbrev pub begins_packet : List ℕ → Bool
begins_packet [] = false
begins_packet (byte ∷ bytes) = byte == 0

-- the bytes stand where a packet does
pub record IsBlock (bytes : List ℕ) : Type 0 where
  pub begins : begins_packet bytes ≡ true
  pub whole : length bytes ≡ 4304

-- lines, each with its LF
abbrev pub lines_text : List (List ℕ) → List ℕ
lines_text lines = flat_map (λ line. line ++ codes "\n") lines

-- ---- which are taken

-- the packet is one, and never too old: its timestamp is one of the last two that there are
abbrev pub IsGoodPacket : List ℕ → Type 0
IsGoodPacket bytes = fault_of bytes 4294967295 1 ≡ None

-- why the packet of this number isn't
abbrev pub IsBadPacket : ℕ → List ℕ → KeptFault → Type 0
IsBadPacket number bytes (Packet named fault) = (named ≡ number) × (fault_of bytes 4294967295 1 ≡ Some fault)
IsBadPacket number bytes fault = ⊥

-- the line spells SHUTDOWN_PROGRAM
abbrev pub ShutsDown : List ℕ → Type 0
ShutsDown line = (command : Command) × Spells line command × (command.body ≡ body.Shutdown)

-- the line spells a command, and not that one
pub record IsGoodLine (line : List ℕ) : Type 0 where
  pub command : Command
  pub spelled : Spells line command
  pub other : command.body ≡ body.Shutdown → ⊥

-- why the line of this number isn't taken
abbrev pub IsBadLine : ℕ → List ℕ → KeptFault → Type 0
IsBadLine number line (Line named fault) = (named ≡ number) × (first_fault line ≡ Some fault)
IsBadLine number line (Shutdown named) = (named ≡ number) × ShutsDown line
IsBadLine number line fault = ⊥

-- of items that have numbers from this one on, these are taken, and these are the faults of the others, in order
abbrev pub Gives : (List ℕ → Type 0) → (ℕ → List ℕ → KeptFault → Type 0) → ℕ → List (List ℕ) → List (List ℕ) → List KeptFault
    → Type 0
Gives IsGood IsBad number [] taken faults = (taken ≡ []) × (faults ≡ [])
Gives IsGood IsBad number (item ∷ items) taken faults =
    ((others : List (List ℕ)) × IsGood item × (taken ≡ item ∷ others) × Gives IsGood IsBad (number + 1) items others faults)
    ⊎ ((fault : KeptFault) × (others : List KeptFault) × IsBad number item fault × (faults ≡ fault ∷ others)
    × Gives IsGood IsBad (number + 1) items taken others)

-- ---- the parts of a text

-- the text is packets and then this; so many there are, these bytes are taken, and these are the faults
pub record IsPacketPart (text after packets : List ℕ) (count : ℕ) (faults : List KeptFault) : Type 0 where
  pub blocks : List (List ℕ)
  pub taken : List (List ℕ)
  pub whole : text ≡ concat blocks ++ after
  pub each : AllByRecursion IsBlock blocks
  pub counted : count ≡ length blocks
  pub gives : Gives IsGoodPacket IsBadPacket 1 blocks taken faults
  pub bytes : packets ≡ concat taken

-- the fault of the line of this number, where the text ends within it
abbrev pub cut_line : ℕ → List ℕ → List KeptFault
cut_line number [] = []
cut_line number (byte ∷ bytes) = CutLine number ∷ []

-- the bytes are lines; these are taken, each with its LF, and these are the faults
pub record IsLinePart (bytes lines : List ℕ) (faults : List KeptFault) : Type 0 where
  pub written : List (List ℕ)
  pub rest : List ℕ
  pub taken : List (List ℕ)
  pub bad : List KeptFault
  pub whole : bytes ≡ lines_text written ++ rest
  pub each : AllByRecursion (λ line. holds 10 line ≡ false) written
  pub unbroken : holds 10 rest ≡ false
  pub gives : Gives IsGoodLine IsBadLine 1 written taken bad
  pub text : lines ≡ lines_text taken
  pub named : faults ≡ bad ++ cut_line (length written + 1) rest

-- the bytes are a packet of this number within which the text ends
pub record IsCutPacket (number : ℕ) (bytes lines : List ℕ) (faults : List KeptFault) : Type 0 where
  pub begins : begins_packet bytes ≡ true
  pub short : length bytes < 4304
  pub none : lines ≡ []
  pub named : faults ≡ CutPacket number ∷ []

-- what stands after the packets is lines, or a packet of this number that is cut
abbrev pub IsAfterPackets : ℕ → List ℕ → List ℕ → List KeptFault → Type 0
IsAfterPackets number bytes lines faults =
    IsCutPacket number bytes lines faults ⊎ ((begins_packet bytes ≡ false) × IsLinePart bytes lines faults)

-- of the text these packets are taken, one after the other, and these lines, each with its LF; and these are the faults of all
-- others, in the order of the text
pub record IsKept (text packets lines : List ℕ) (faults : List KeptFault) : Type 0 where
  pub after : List ℕ
  pub count : ℕ
  pub of_packets : List KeptFault
  pub of_rest : List KeptFault
  pub front : IsPacketPart text after packets count of_packets
  pub back : IsAfterPackets (count + 1) after lines of_rest
  pub named : faults ≡ of_packets ++ of_rest
