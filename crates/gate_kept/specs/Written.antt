-- The text that is written for a gateway, and is read as it was written: `IsWritten`. A result is a packet where one can hold
-- it, so that an output may have an LF; any other command is a line. Own rules.
use Rattle.std.specs.Prelude.{◌≡◌, ◌⊎◌, ℕ, List, [], ◌∷◌}
use Rattle.std.specs.List.{concat}
use Rattle.gate_model.specs.declared.submission.Body.{Body}
use Rattle.gate_model.specs.declared.submission.Body.TheVariants as body
use Rattle.gate_packet.specs.Packet.{Content, IsContent, reported_body}
use Rattle.gate_packet.specs.Encoding.{encoded}
use Rattle.gate_grammar.specs.declared.commands.Command.{Command}
use Rattle.gate_grammar.specs.Canonical.{canonical_line}
use Rattle.gate_grammar.specs.Writability.{IsWritable}
use Rattle.gate_kept.specs.Kept.{lines_text, IsKept}

-- the packet reports this result, and was sent at the last moment that there is
pub record Reports (p : Content) (one : Body) : Type 0 where
  pub possible : IsContent p
  pub last : p.timestamp ≡ 4294967295
  pub reported : reported_body p ≡ one

-- no packet holds the body: it is no result, or too long for one
abbrev pub HasNoPacket : Body → Type 0
HasNoPacket one = (p : Content) → Reports p one → ⊥

-- a line holds the command, and doesn't shut the gateway down
pub record HasLine (one : Command) : Type 0 where
  pub writable : IsWritable one
  pub other : one.body ≡ body.Shutdown → ⊥

-- these commands are written so, each as a packet of these or a line of these, in order; those are left that neither holds
abbrev pub Writes : List Command → List (List ℕ) → List (List ℕ) → List Command → Type 0
Writes [] packets lines left = (packets ≡ []) × (lines ≡ []) × (left ≡ [])
Writes (one ∷ commands) packets lines left =
    ((p : Content) × (others : List (List ℕ)) × Reports p one.body × (packets ≡ encoded 4304 p ∷ others)
    × Writes commands others lines left)
    ⊎ ((others : List (List ℕ)) × HasNoPacket one.body × HasLine one × (lines ≡ canonical_line one ∷ others)
    × Writes commands packets others left)
    ⊎ ((others : List Command) × HasNoPacket one.body × (HasLine one → ⊥) × (left ≡ one ∷ others)
    × Writes commands packets lines others)

-- the text is the packets and lines of these commands, without those that are left, and a gateway takes all of it
pub record IsWritten (commands : List Command) (text : List ℕ) (left : List Command) : Type 0 where
  pub packets : List (List ℕ)
  pub lines : List (List ℕ)
  pub writes : Writes commands packets lines left
  pub taken : IsKept text (concat packets) (lines_text lines) []
