-- What is known of a configuration, of addresses, and of a step that fails before a daemon serves. Of its file and of
-- its sockets nothing is known: a file holds some bytes, and a socket reports an address of its own.
use Rattle.std.specs.Prelude.{◌≡◌, ◌≢◌, ◌⊎◌, ◌<◌, ◌≤◌, ℕ, List, [], ◌++◌, codes, length}
use Rattle.std.specs.declared.net.socket_addr.SocketAddr.{SocketAddr}
use Rattle.std.specs.Net.Socket.{socket_ip, socket_port}
use Rattle.std.specs.Net.Text.{socket_text}
use Rattle.toml.specs.Data.{Members}
use Rattle.gate_streams.specs.Sink.{SinkState, Delivers, FailsOnce}
use Rattle.gate_config.specs.declared.config.Config.{Config}
use Rattle.gate_config.specs.declared.fault.ConfigFault.{ConfigFault}
use Rattle.gate_config.specs.declared.fault.ConfigFault.TheVariants as config_fault
use Rattle.gate_config.specs.Check.{IsFirstFault}
use Rattle.gate_config.specs.Fault.{text_of}
use Rattle.gate_config.specs.Config.{IsDocument, IsConfigOf}
use Rattle.gate_config.specs.Document.{document_checks}
use Rattle.gate_faults.specs.declared.fault.RunFault.TheVariants as run
use Rattle.gate_start.specs.declared.fault.ServeFault.{ServeFault}
use Rattle.gate_start.specs.declared.fault.ServeFault.TheVariants.{Unreadable, Bind, Run}
use Rattle.gate_start.specs.declared.fault.ServeFault.TheVariants as fault

-- no document of TOML is this text
abbrev pub IsNoDocument : List ℕ → Type 0
IsNoDocument text = (document : Members) → ¬ (IsDocument text document)

-- the text is a document that configures this
pub record Configures (text : List ℕ) (config : Config) : Type 0 where
  pub not_large : ¬ (1048576 < length text)
  pub is_document : length text ≤ 1048576 → ¬ (IsNoDocument text)
  pub config_of : (document : Members) → IsDocument text document → IsConfigOf document config

-- the fault, which isn't memory, is the first of this text
pub record IsConfigFault (text : List ℕ) (found : ConfigFault) : Type 0 where
  pub too_large : 1048576 < length text → found ≡ config_fault.TooLarge
  pub not_toml : length text ≤ 1048576 → IsNoDocument text → found ≡ config_fault.NotToml
  pub first : (document : Members) → IsDocument text document → IsFirstFault (document_checks document) found
  pub not_memory : found ≢ config_fault.OutOfMemory

-- some text has a fault that is reported so
abbrev pub IsFaulty : List ℕ → Type 0
IsFaulty reported =
    (text : List ℕ) × (found : ConfigFault) × IsConfigFault text found × (reported ≡ text_of found)

-- an address of the configuration, as it is written there
abbrev pub IsAddressIn : Config → List ℕ → Type 0
IsAddressIn config address =
    (address ≡ config.agents.text) ⊎ (address ≡ config.operators.text) ⊎ (address ≡ config.pages.text)

-- some text configures a daemon, one of whose addresses this is
abbrev pub IsAddress : List ℕ → Type 0
IsAddress address =
    (text : List ℕ) × (config : Config) × Configures text config × IsAddressIn config address

-- where this address was configured, a socket is bound to that one: it is the same, but a port of 0, for which the
-- system chose another
pub record IsBoundAs (configured address : SocketAddr) : Type 0 where
  pub ip : socket_ip address ≡ socket_ip configured
  pub port : socket_port configured ≢ 0 → socket_port address ≡ socket_port configured

-- the three addresses are those of the configuration, as they are bound
abbrev pub AreBoundAs : Config → SocketAddr → SocketAddr → SocketAddr → Type 0
AreBoundAs config agents operators pages =
    IsBoundAs config.agents.socket agents × IsBoundAs config.operators.socket operators
    × IsBoundAs config.pages.socket pages

-- the line of an address
abbrev pub address_line : List ℕ → SocketAddr → List ℕ
address_line name address = name ++ socket_text address ++ codes "\n"

-- the addresses that are printed
abbrev pub address_lines : SocketAddr → SocketAddr → SocketAddr → List ℕ
address_lines agents operators pages =
    address_line (codes "agents ") agents ++ address_line (codes "operators ") operators
    ++ address_line (codes "pages ") pages

-- nothing is configured: the file can't be read, or its text configures nothing
abbrev pub IsConfigEnd : ServeFault → Type 0
IsConfigEnd Unreadable = Unit {0}
IsConfigEnd (fault.Config reported) = IsFaulty reported
IsConfigEnd (Run run.OutOfMemory) = Unit {0}
IsConfigEnd _ = ⊥

-- an address can't be bound, for which this holds, or memory ran out
abbrev pub IsBindEnd : (List ℕ → Type 0) → ServeFault → Type 0
IsBindEnd P (Bind address) = P address
IsBindEnd P (Run run.OutOfMemory) = Unit {0}
IsBindEnd P _ = ⊥

-- a call of the output failed, or memory ran out for what was to be written
abbrev pub IsWriteEnd : SinkState → SinkState → ServeFault → Type 0
IsWriteEnd before after (Run run.OutOfMemory) = after ≡ before
IsWriteEnd before after (Run run.WriteFault) = FailsOnce before after
IsWriteEnd before after _ = ⊥

-- the output grew by the addresses of this configuration, as the daemon is bound to them, and then by this
pub record FollowsAddresses (config : Config) (before after : SinkState) (rest : List ℕ) : Type 0 where
  pub agents : SocketAddr
  pub operators : SocketAddr
  pub pages : SocketAddr
  pub bound : AreBoundAs config agents operators pages
  pub printed : Delivers before after (address_lines agents operators pages ++ rest)

-- some text configures a daemon so, and its addresses were printed
pub record IsStarted (config : Config) (before after : SinkState) : Type 0 where
  pub text : List ℕ
  pub configured : Configures text config
  pub printed : FollowsAddresses config before after []

-- what is true of how the output grew, where a daemon ends with this fault before it serves
abbrev pub EndsBefore : SinkState → SinkState → ServeFault → Type 0
EndsBefore before after Unreadable = after ≡ before
EndsBefore before after (fault.Config reported) = IsFaulty reported × (after ≡ before)
EndsBefore before after (Bind address) = IsAddress address × (after ≡ before)
EndsBefore before after (Run run.OutOfMemory) = after ≡ before
EndsBefore before after (Run run.WriteFault) = FailsOnce before after
EndsBefore before after _ = ⊥
