-- The tests of a document one after another, and what it configures.
use Rattle.std.proofs.Common.{◌≡◌, ℕ, List, [], ◌∷◌, ◌++◌, Some, None, map, option_map, unwrap_or, subst, ap, ◌∙◌, sym, inl, inr}
use Rattle.std.specs.List.{flat_map}
use Rattle.std.specs.declared.net.socket_addr.SocketAddr.{SocketAddr}
use Rattle.std.specs.Net.Grammar.{IsSocketText}
use Rattle.toml.specs.Data.{Members, as_table}
use Rattle.toml.specs.View.{view}
use Rattle.toml.specs.declared.value.Value.{Value}
use Rattle.gate_model.specs.declared.object.ObjectLine.{ObjectLine}
use Rattle.gate_config.specs.declared.config.Address.{Address}
use Rattle.gate_config.specs.declared.key.Key.{Key}
use Rattle.gate_config.specs.declared.key.Key.TheVariants.{Agents, Operators, Pages, Capacity, GreatestAge, Items, Limit, Reads, Sessions, Host, Workers}
use Rattle.gate_config.specs.declared.fault.ConfigFault.{ConfigFault}
use Rattle.gate_config.specs.declared.fault.ConfigFault.TheVariants.{UnknownKey, BadValue}
use Rattle.gate_config.specs.Keys.{document_keys}
use Rattle.gate_config.specs.Check.{Check, Passes, Fails, AllPass, FirstFails, object_table}
use Rattle.gate_config.specs.Values.{value_at, number_or, tables_or_none}
use Rattle.gate_config.specs.Document.{least_unknown, bad_unless, key_check, table_checks, rows_at, host_checks, host_lines, object_lines, text_at, document_checks}
use Rattle.gate_config.specs.Config.{IsAddressOf}
use Rattle.gate_config.proofs.CheckSteps.{pass_both, fails_early, fails_late, flat_map-map}

abbrev pub limit_keys : List Key
limit_keys = Capacity ∷ GreatestAge ∷ Items ∷ Limit ∷ Reads ∷ Sessions ∷ []

-- the document's own keys are good, and these are its hosts
pub record IsRead (document : Members) (hosts : List Value) : Type 0 where
  pub known : least_unknown document_keys document ≡ None
  pub agents : Passes (key_check document Agents)
  pub operators : Passes (key_check document Operators)
  pub pages : Passes (key_check document Pages)
  pub limits : AllPass (map (key_check document) limit_keys)
  pub tables : tables_or_none (value_at document Host) ≡ Some (map view hosts)
  pub workers : Passes (key_check document Workers)

own_keys_pass : (document : Members) (hosts : List Value) → IsRead document hosts → AllPass (table_checks document_keys document)
own_keys_pass document hosts read = (
  ap (option_map UnknownKey) read.known,
  (
    read.agents,
    (
      read.operators,
      (
        read.pages,
        pass_both (map (key_check document) limit_keys) (key_check document Host ∷ key_check document Workers ∷ []) read.limits
            (ap (bad_unless Host) read.tables, (read.workers, tt)),
      ),
    ),
  ),
)

-- the first of the document's own keys that is not good is one of its limits, or its hosts, or its workers
pub own_fails : (document : Members) (fault : ConfigFault) → least_unknown document_keys document ≡ None
    → Passes (key_check document Agents) → Passes (key_check document Operators) → Passes (key_check document Pages)
    → FirstFails (map (key_check document) limit_keys ++ key_check document Host ∷ key_check document Workers ∷ []) fault
    → FirstFails (document_checks document) fault
own_fails document fault known agents operators pages fails =
    fails_early (table_checks document_keys document) _ fault
    (inr (ap (option_map UnknownKey) known, inr (agents, inr (operators, inr (pages, fails)))))

pub limits_fail : (document : Members) (fault : ConfigFault) → least_unknown document_keys document ≡ None
    → Passes (key_check document Agents) → Passes (key_check document Operators) → Passes (key_check document Pages)
    → FirstFails (map (key_check document) limit_keys) fault → FirstFails (document_checks document) fault
limits_fail document fault known agents operators pages fails =
    own_fails document fault known agents operators pages
    (fails_early (map (key_check document) limit_keys) (key_check document Host ∷ key_check document Workers ∷ []) fault fails)

pub host_key_fails : (document : Members) (fault : ConfigFault) → least_unknown document_keys document ≡ None
    → Passes (key_check document Agents) → Passes (key_check document Operators) → Passes (key_check document Pages)
    → AllPass (map (key_check document) limit_keys) → fault ≡ BadValue Host → tables_or_none (value_at document Host) ≡ None
    → FirstFails (document_checks document) fault
host_key_fails document fault known agents operators pages limits reported bad =
    own_fails document fault known agents operators pages
    (fails_late (map (key_check document) limit_keys) (key_check document Host ∷ key_check document Workers ∷ []) fault limits
    (inl (ap (bad_unless Host) bad ∙ ap Some (sym reported))))

pub workers_fail : (document : Members) (hosts : List Value) (fault : ConfigFault) → least_unknown document_keys document ≡ None
    → Passes (key_check document Agents) → Passes (key_check document Operators) → Passes (key_check document Pages)
    → AllPass (map (key_check document) limit_keys) → tables_or_none (value_at document Host) ≡ Some (map view hosts)
    → fault ≡ BadValue Workers → number_or 1 63 1 (value_at document Workers) ≡ None → FirstFails (document_checks document) fault
workers_fail document hosts fault known agents operators pages limits tables reported bad =
    own_fails document fault known agents operators pages
    (fails_late (map (key_check document) limit_keys) (key_check document Host ∷ key_check document Workers ∷ []) fault limits
    (inr (ap (bad_unless Host) tables, inl (ap (bad_unless Workers) bad ∙ ap Some (sym reported)))))

hosts_same : (document : Members) (hosts : List Value) → tables_or_none (value_at document Host) ≡ Some (map view hosts)
    → flat_map (λ row. host_checks (as_table (view row))) hosts ≡ flat_map (λ row. host_checks (as_table row)) (rows_at document Host)
hosts_same document hosts tables =
    sym (flat_map-map (λ row. host_checks (as_table row)) view hosts)
    ∙ ap (flat_map (λ row. host_checks (as_table row))) (sym (ap (λ rows. unwrap_or rows []) tables))

pub lines_same : (document : Members) (hosts : List Value) → tables_or_none (value_at document Host) ≡ Some (map view hosts)
    → flat_map (λ row. host_lines (as_table (view row))) hosts ≡ object_lines document
lines_same document hosts tables =
    sym (flat_map-map (λ row. host_lines (as_table row)) view hosts)
    ∙ ap (flat_map (λ row. host_lines (as_table row))) (sym (ap (λ rows. unwrap_or rows []) tables))

pub hosts_fail : (document : Members) (hosts : List Value) (fault : ConfigFault) → IsRead document hosts
    → FirstFails (flat_map (λ row. host_checks (as_table (view row))) hosts) fault → FirstFails (document_checks document) fault
hosts_fail document hosts fault read fails =
    let Q : List Check → Type 0 = λ checks. FirstFails checks fault in
    fails_early (table_checks document_keys document ++ flat_map (λ row. host_checks (as_table row)) (rows_at document Host)) _ fault
    (fails_late (table_checks document_keys document) _ fault (own_keys_pass document hosts read)
    (subst Q (hosts_same document hosts read.tables) fails))

all_before : (document : Members) (hosts : List Value) → IsRead document hosts
    → AllPass (flat_map (λ row. host_checks (as_table (view row))) hosts)
    → AllPass (table_checks document_keys document ++ flat_map (λ row. host_checks (as_table row)) (rows_at document Host))
all_before document hosts read all =
    pass_both (table_checks document_keys document) _ (own_keys_pass document hosts read) (subst AllPass (hosts_same document hosts read.tables) all)

pub objects_fail : (document : Members) (hosts : List Value) (lines : List ObjectLine) (fault : ConfigFault) → IsRead document hosts
    → AllPass (flat_map (λ row. host_checks (as_table (view row))) hosts) → lines ≡ flat_map (λ row. host_lines (as_table (view row))) hosts
    → Fails (object_table lines) fault → FirstFails (document_checks document) fault
objects_fail document hosts lines fault read all are fails =
    let Q : List ObjectLine → Type 0 = λ found. Fails (object_table found) fault in
    fails_late (table_checks document_keys document ++ flat_map (λ row. host_checks (as_table row)) (rows_at document Host)) _ fault
    (all_before document hosts read all) (inl (subst Q (are ∙ lines_same document hosts read.tables) fails))

pub document_passes : (document : Members) (hosts : List Value) (lines : List ObjectLine) → IsRead document hosts
    → AllPass (flat_map (λ row. host_checks (as_table (view row))) hosts) → lines ≡ flat_map (λ row. host_lines (as_table (view row))) hosts
    → Passes (object_table lines) → AllPass (document_checks document)
document_passes document hosts lines read all are passes =
    let Q : List ObjectLine → Type 0 = λ found. Passes (object_table found) in
    pass_both (table_checks document_keys document ++ flat_map (λ row. host_checks (as_table row)) (rows_at document Host)) _
    (all_before document hosts read all) (subst Q (are ∙ lines_same document hosts read.tables) passes, tt)

pub address_is : (document : Members) (key : Key) (text : List ℕ) (socket : SocketAddr) (address : Address) → text_at document key ≡ Some text
    → IsSocketText text socket → (address.text ≡ text) × (address.socket ≡ socket) → IsAddressOf document key address
address_is document key text socket address found written is =
    let P : List ℕ → Type 0 = λ spelled. IsSocketText spelled socket in
    let Q : SocketAddr → Type 0 = λ to. IsSocketText address.text to in
    record { text = found ∙ ap Some (sym is.0); socket = subst Q (sym is.1) (subst P (sym is.0) written) }
