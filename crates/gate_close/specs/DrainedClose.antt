-- A close that applies all that was queued: when it can't end, what it applied, and that this is all. Own rules.
use Rattle.std.specs.Prelude.{◌≡◌, ℕ, ◌<◌, ◌≤◌, ◌==◌, ◌||◌, Bool, false, IsTrue, List, [], ◌∷◌, ◌++◌, All, length, map, Option, Some, None, IfSome, is_some, IsSome}
use Rattle.std.specs.List.{list_any}
use Rattle.gate_model.specs.declared.record.Moment.{Moment}
use Rattle.gate_model.specs.declared.record.Record.{Record}
use Rattle.gate_model.specs.declared.submission.Numbered.{Numbered}
use Rattle.gate_model.specs.Record.{later, items_of_records}
use Rattle.gate_core.specs.Merge.{IsClient, IsMerge}
use Rattle.gate_applier.specs.Applier.{ApplierView}
use Rattle.gate_queue.specs.declared.rule.EndedList.{EndedList}
use Rattle.gate_close.specs.declared.drained_close.CloseAllCause.{CloseAllCause}
use Rattle.gate_close.specs.declared.drained_close.CloseAllCause.TheVariants.{Missing, NotClosing, LogFull, OutOfMemory}
use Rattle.gate_queue.specs.Gate.{GateId}
use Rattle.gate_queue.specs.Client.{ClientState}
use Rattle.gate_queue.specs.Taker.{TakerState, ended_list, queued_of, list_of}

-- ---- clients

-- client c was taken in, or is among those given
abbrev pub is_present : List ClientState → List EndedList → ℕ → Bool
is_present given taken_in c = is_some (queued_of c taken_in) || list_any (λ client. client.number == c) given

-- each of n clients was taken in, or is among those given
abbrev pub AreAllPresent : ℕ → List ClientState → List EndedList → Type 0
AreAllPresent n given taken_in = (c : ℕ) → IsClient n c → IsTrue (is_present given taken_in c)

-- c is the least of n clients that was neither taken in nor is among those given
pub record IsLeastMissing (n : ℕ) (given : List ClientState) (taken_in : List EndedList) (c : ℕ) : Type 0 where
  pub client : IsClient n c
  pub missing : is_present given taken_in c ≡ false
  pub least : (d : ℕ) → 1 ≤ d → d < c → IsTrue (is_present given taken_in d)

-- the lists of the clients taken in, the newest first, once those given are taken in too
abbrev pub lists_with : List ClientState → List EndedList → List EndedList
lists_with [] taken_in = taken_in
lists_with (client ∷ clients) taken_in = lists_with clients (ended_list client.number client.queued ∷ taken_in)

-- what was queued for client c, who was taken in or is among those given
abbrev pub queued_by : List ClientState → List EndedList → ℕ → List Numbered
queued_by given taken_in = list_of (lists_with given taken_in)

-- ---- records

-- these items as records of this moment
abbrev pub records_at : Moment → List Numbered → List Record
records_at moment items = map (λ (item : Numbered). record { moment = moment; item = item }) items

-- the applier's moment once these items were applied: the old one, where there are none
abbrev pub moment_after : Moment → Moment → List Numbered → Moment
moment_after old now [] = old
moment_after old now (item ∷ items) = later old now

-- the old records come first, then one for each of some items, at the clock's moment or the applier's, whichever is
-- later
pub record AppliesMore (now : Moment) (old new : ApplierView) : Type 0 where
  pub items : List Numbered
  pub records : new.records ≡ old.records ++ records_at (later old.moment now) items
  pub moment : new.moment ≡ moment_after old.moment now items
  pub table : new.table ≡ old.table
  pub opening : new.opening ≡ old.opening
  pub limit : new.limit ≡ old.limit

-- ---- faults

-- what a close is called with, and what its fault returns: the taker, clients to take in, and the applier
pub record CloseParts : Type 0 where
  pub taker : TakerState
  pub clients : List ClientState
  pub applier : ApplierView

abbrev pub close_parts : TakerState → List ClientState → ApplierView → CloseParts
close_parts taker clients applier = record { taker = taker; clients = clients; applier = applier }

-- taker and clients are of this gate, and the items of the records are what the taker has taken
pub record CanClose (gate : GateId) (parts : CloseParts) : Type 0 where
  pub taker : parts.taker.gate ≡ gate
  pub clients : All (λ client. client.gate ≡ gate) parts.clients
  pub applied : items_of_records parts.applier.records ≡ parts.taker.taken

-- neither the taker nor a client knows of a close
pub record NobodyKnows (parts : CloseParts) : Type 0 where
  pub taker : parts.taker.known_close ≡ None
  pub clients : All (λ client. client.known_close ≡ None) parts.clients

-- the moment is that of the close, and the same as each part knew it
pub record KnowsAsAll (parts : CloseParts) (known : Option Moment) : Type 0 where
  pub some : IsSome known
  pub taker : IfSome parts.taker.known_close (λ first. known ≡ Some first)
  pub clients : All (λ client. IfSome client.known_close (λ first. known ≡ Some first)) parts.clients

-- what was applied, followed by at least one item that is left, is a merge of what was queued for n clients
pub record LeavesSome (n : ℕ) (sent : ℕ → List Numbered) (applied : List Numbered) : Type 0 where
  pub next : Numbered
  pub rest : List Numbered
  pub merge : IsMerge n sent (applied ++ next ∷ rest)

-- all clients were taken in, and an item is left
pub record IsStopped (n : ℕ) (now : Moment) (old new : CloseParts) : Type 0 where
  pub clients : new.clients ≡ []
  pub taken_in : new.taker.ended ≡ lists_with old.clients old.taker.ended
  pub known_close : KnowsAsAll old new.taker.known_close
  pub applied : AppliesMore now old.applier new.applier
  pub left : LeavesSome n (queued_by old.clients old.taker.ended) (items_of_records new.applier.records)

-- the causes in the order in which they are tested. Missing and NotClosing return all parts as they were
abbrev pub IsCloseAllFault : CloseAllCause → ℕ → Moment → CloseParts → CloseParts → Type 0
IsCloseAllFault (Missing c) n now old new = IsLeastMissing n old.clients old.taker.ended c × (new ≡ old)
IsCloseAllFault NotClosing n now old new = AreAllPresent n old.clients old.taker.ended × NobodyKnows old × (new ≡ old)
IsCloseAllFault LogFull n now old new =
    AreAllPresent n old.clients old.taker.ended × IsStopped n now old new
    × (length new.applier.records ≡ new.applier.limit)
IsCloseAllFault OutOfMemory n now old new =
    AreAllPresent n old.clients old.taker.ended × IsStopped n now old new
    × (length new.applier.records < new.applier.limit)
