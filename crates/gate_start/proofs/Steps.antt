-- The steps of a daemon before it serves: how they end, and what they print.
use Rattle.std.proofs.Common.{◌≡◌, ◌⊎◌, inl, inr, ℕ, List, [], refl, sym, subst}
use Rattle.std.specs.Prelude.{Result, Ok, Err, IfOk, IsOkAnd, Vec}
use Rattle.std.specs.declared.alloc.AllocError.{AllocError}
use Rattle.std.specs.declared.net.socket_addr.SocketAddr.{SocketAddr}
use Rattle.std.proofs.lemmas.List.{append-nil}
use Rattle.gate_config.specs.declared.config.Config.{Config}
use Rattle.gate_streams.specs.Sink.{SinkState, Delivers}
use Rattle.gate_faults.specs.declared.fault.RunFault.TheVariants as run
use Rattle.gate_start.specs.declared.fault.ServeFault.{ServeFault}
use Rattle.gate_start.specs.declared.fault.ServeFault.TheVariants as fault
use Rattle.gate_start.specs.BeforeServing.{Configures, AreBoundAs, EndsBefore, FollowsAddresses, IsAddressIn, IsBindEnd, IsConfigEnd, IsWriteEnd, address_lines}

-- the addresses were printed, and nothing else
announced : (config : Config) (agents operators pages : SocketAddr) (before after : SinkState) → AreBoundAs config agents operators pages
    → Delivers before after (address_lines agents operators pages) → FollowsAddresses config before after []
announced config a o p before after bound printed = record {
  agents = a;
  operators = o;
  pages = p;
  bound = bound;
  printed = subst (λ (t : List ℕ). Delivers before after t) (sym (append-nil (address_lines a o p))) printed;
}

-- the same, if there was memory for them
pub opened : {Allocator : Type 0} (lines : Result (Vec ℕ Allocator) AllocError) (config : Config) (agents operators pages : SocketAddr) (before after : SinkState) → AreBoundAs config agents operators pages
    → IfOk lines (λ made. made.items ≡ address_lines agents operators pages) → IsOkAnd lines (λ made. Delivers before after made.items) → FollowsAddresses config before after []
opened (Ok made) config a o p before after bound are printed = announced config a o p before after bound (subst (λ (t : List ℕ). Delivers before after t) are printed)
opened (Err why) config a o p before after bound are printed = absurd printed

-- without a configuration nothing is served
pub unconfigured : (state : SinkState) (found : ServeFault) → IsConfigEnd found → EndsBefore state state found
unconfigured state fault.Unreadable k = refl
unconfigured state (fault.Config reported) k = (k, refl)
unconfigured state (fault.Bind address) k = absurd k
unconfigured state (fault.Run run.LogFull) k = absurd k
unconfigured state (fault.Run run.OutOfMemory) k = refl
unconfigured state (fault.Run run.ReadFault) k = absurd k
unconfigured state (fault.Run run.Spawn) k = absurd k
unconfigured state (fault.Run run.WriteFault) k = absurd k

-- without an address nothing is served
unbound : (text : List ℕ) (config : Config) (state : SinkState) (found : ServeFault) → Configures text config → IsBindEnd (IsAddressIn config) found → EndsBefore state state found
unbound text config state fault.Unreadable is k = absurd k
unbound text config state (fault.Config reported) is k = absurd k
unbound text config state (fault.Bind address) is k = ((text, config, is, k), refl)
unbound text config state (fault.Run run.LogFull) is k = absurd k
unbound text config state (fault.Run run.OutOfMemory) is k = refl
unbound text config state (fault.Run run.ReadFault) is k = absurd k
unbound text config state (fault.Run run.Spawn) is k = absurd k
unbound text config state (fault.Run run.WriteFault) is k = absurd k

-- without what is to be printed first nothing is served
unprinted : (before after : SinkState) (found : ServeFault) → IsWriteEnd before after found → EndsBefore before after found
unprinted before after fault.Unreadable k = absurd k
unprinted before after (fault.Config reported) k = absurd k
unprinted before after (fault.Bind address) k = absurd k
unprinted before after (fault.Run run.LogFull) k = absurd k
unprinted before after (fault.Run run.OutOfMemory) k = k
unprinted before after (fault.Run run.ReadFault) k = absurd k
unprinted before after (fault.Run run.Spawn) k = absurd k
unprinted before after (fault.Run run.WriteFault) k = k

-- without its ports nothing is served
pub unopened : (text : List ℕ) (config : Config) (before after : SinkState) (found : ServeFault) → Configures text config
    → (IsBindEnd (IsAddressIn config) found × (after ≡ before)) ⊎ IsWriteEnd before after found → EndsBefore before after found
unopened text config before after found is (inl k) = rw (k.1) (unbound text config before found is k.0)
unopened text config before after found is (inr k) = unprinted before after found k
