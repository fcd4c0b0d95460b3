-- What the daemon takes of its standard input before it serves anybody, and how it names what it doesn't take: `IsTaken`.
-- Own rules.
use Rattle.std.specs.Prelude.{◌≡◌, ◌⊎◌, ◌≤◌, ℕ, List, [], ◌++◌, length, codes, Option, IfSome}
use Rattle.std.specs.List.{flat_map}
use Rattle.std.specs.Fmt.{decimal}
use Rattle.gate_streams.specs.Sink.{SinkState, IsReported}
use Rattle.gate_packet.specs.declared.decoding.PacketFault.{PacketFault}
use Rattle.gate_packet.specs.declared.decoding.PacketFault.TheVariants.{BadVersion, BadCheckWord, Stale, EmptyHost, OutOfMemory}
use Rattle.gate_reader.specs.Report.{fault_text}
use Rattle.gate_kept.specs.declared.fault.KeptFault.{KeptFault}
use Rattle.gate_kept.specs.declared.fault.KeptFault.TheVariants.{Packet, CutPacket, Line, Shutdown, CutLine}
use Rattle.gate_kept.specs.Kept.{IsKept}

-- a packet's fault, in one word
abbrev pub packet_fault_text : PacketFault → List ℕ
packet_fault_text BadVersion = codes "BadVersion"
packet_fault_text BadCheckWord = codes "BadCheckWord"
packet_fault_text Stale = codes "Stale"
packet_fault_text EmptyHost = codes "EmptyHost"
packet_fault_text OutOfMemory = codes "OutOfMemory"

-- the line begins with the part and the number of what is named
abbrev pub line_front : List ℕ → ℕ → List ℕ
line_front part number = codes "nscagate: kept: " ++ (part ++ decimal number)

-- and ends with the cause
abbrev pub line_rest : List ℕ → List ℕ
line_rest cause = codes ": " ++ cause ++ codes "\n"

-- the line that names the packet or the line of this number
abbrev pub kept_line : List ℕ → ℕ → List ℕ → List ℕ
kept_line part number cause = line_front part number ++ line_rest cause

-- the same of a fault
abbrev pub fault_line : KeptFault → List ℕ
fault_line (Packet number fault) = kept_line (codes "packet ") number (packet_fault_text fault)
fault_line (CutPacket number) = kept_line (codes "packet ") number (codes "it is cut")
fault_line (Line number fault) = kept_line (codes "line ") number (fault_text fault)
fault_line (Shutdown number) = kept_line (codes "line ") number (codes "SHUTDOWN_PROGRAM")
fault_line (CutLine number) = kept_line (codes "line ") number (codes "it is cut")

-- the text is all that was left in the input, where that is known, and not too large
pub record IsRead (remaining : Option (List ℕ)) (text : List ℕ) : Type 0 where
  pub all : IfSome remaining (λ left. text ≡ left)
  pub short : length text ≤ 268435456

-- lines were reported, in one piece, if there are any
abbrev pub IsKeptReported : List ℕ → SinkState → SinkState → Type 0
IsKeptReported lines before after = ((lines ≡ []) × (after ≡ before)) ⊎ IsReported lines before after

-- these packets and lines of a text are taken, and each that isn't is named once, in order
pub record IsTextTaken (text : List ℕ) (before after : SinkState) (packets lines : List ℕ) : Type 0 where
  pub faults : List KeptFault
  pub kept : IsKept text packets lines faults
  pub reported : IsKeptReported (flat_map fault_line faults) before after

-- nothing is taken of a text, which is too large or can't be read
pub record IsNoneTaken (before after : SinkState) (packets lines : List ℕ) : Type 0 where
  pub line : List ℕ
  pub cause : (line ≡ codes "nscagate: kept: TooLarge\n") ⊎ (line ≡ codes "nscagate: kept: unreadable\n")
  pub reported : IsKeptReported line before after
  pub no_packets : packets ≡ []
  pub no_lines : lines ≡ []

-- these are taken of the input, or of no text where it is no file
abbrev pub IsTaken : Option (List ℕ) → SinkState → SinkState → List ℕ → List ℕ → Type 0
IsTaken remaining before after packets lines =
    ((text : List ℕ) × ((text ≡ []) ⊎ IsRead remaining text) × IsTextTaken text before after packets lines)
    ⊎ IsNoneTaken before after packets lines

-- the input was taken, or none of it: then nothing is reported
abbrev pub IsInputTaken : Option (List ℕ) → SinkState → SinkState → Type 0
IsInputTaken remaining before after =
    (after ≡ before)
    ⊎ ((packets : List ℕ) × (lines : List ℕ) × IsTaken remaining before after packets lines)
