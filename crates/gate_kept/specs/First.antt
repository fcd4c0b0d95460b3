-- What a worker reads and writes where it is first given what is kept. Own rules.
use Rattle.std.specs.Prelude.{◌≡◌, ℕ, Bool, true, false, List, [], ◌∷◌, ◌++◌, drop, Some, None}
use Rattle.gate_streams.specs.Source.{SourceState}
use Rattle.gate_streams.specs.Sink.{SinkState}
use Rattle.gate_kept.specs.declared.first.KeptBytes.{KeptBytes}
use Rattle.gate_kept.specs.declared.first.FirstInput.{FirstInput}
use Rattle.gate_kept.specs.declared.first.FirstInput.TheVariants as input
use Rattle.gate_kept.specs.declared.first.FirstOutput.{FirstOutput}
use Rattle.gate_kept.specs.declared.first.FirstOutput.TheVariants as output

-- the bytes that weren't read yet
abbrev pub kept_left : KeptBytes → List ℕ
kept_left kept = drop kept.read kept.bytes

-- kept bytes are known, and a peer's are what its connection says of them
abbrev pub input_state : {I : Type 0} → (I → SourceState) → FirstInput I → SourceState
input_state state (input.Kept kept) = record { left = Some (kept_left kept); tally = None }
input_state state (input.Peer peer) = state peer

-- of what goes nowhere nothing is known, nor held back
abbrev pub output_state : {O : Type 0} → (O → SinkState) → FirstOutput O → SinkState
output_state state output.Kept = record { written = None; pending = Some []; tally = None }
output_state state (output.Peer peer) = state peer

-- the piece is of a peer's connection
abbrev pub is_peer : {I : Type 0} → FirstInput I → Bool
is_peer (input.Kept kept) = false
is_peer (input.Peer peer) = true

-- a piece that is no peer's is the last of these, whole
abbrev pub GivesKept : {I : Type 0} → (I → SourceState) → List (List ℕ) → FirstInput I → List (List ℕ) → Type 0
GivesKept state pieces given others =
    is_peer given ≡ false
    → (bytes : List ℕ) × (pieces ≡ others ++ bytes ∷ []) × ((input_state state given).left ≡ Some bytes)
