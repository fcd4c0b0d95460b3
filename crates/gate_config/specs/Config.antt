-- Which document a text is (`IsDocument`), and what a document configures (`IsConfigOf`).
use Rattle.std.specs.Prelude.{◌≡◌, ℕ, ◌≤◌, List, length, Some, IsUtf8}
use Rattle.std.specs.Net.Grammar.{IsSocketText}
use Rattle.toml.specs.Data.{Members}
use Rattle.toml.specs.Parse.{parse_document}
use Rattle.gate_config.specs.declared.config.Address.{Address}
use Rattle.gate_config.specs.declared.limits.Limits.{Limits}
use Rattle.gate_config.specs.declared.config.Config.{Config}
use Rattle.gate_config.specs.declared.key.Key.{Key}
use Rattle.gate_config.specs.declared.key.Key.TheVariants.{Agents, Operators, Pages, Capacity, GreatestAge, Items, Limit, Reads, Sessions, Workers}
use Rattle.gate_config.specs.Check.{AllPass}
use Rattle.gate_config.specs.Document.{text_at, number_at, document_checks, object_lines}

-- the text is this document of TOML, and not too large
pub record IsDocument (text : List ℕ) (document : Members) : Type 0 where
  pub not_large : length text ≤ 1048576
  pub utf8 : IsUtf8 text
  pub parsed : parse_document text ≡ Some document

-- the address is the one at this key, or its default
pub record IsAddressOf (document : Members) (key : Key) (address : Address) : Type 0 where
  pub text : text_at document key ≡ Some address.text
  pub socket : IsSocketText address.text address.socket

-- the limits are those of the document, or their defaults
pub record AreLimitsOf (document : Members) (limits : Limits) : Type 0 where
  pub capacity : number_at document Capacity ≡ Some limits.capacity
  pub greatest_age : number_at document GreatestAge ≡ Some limits.greatest_age
  pub items : number_at document Items ≡ Some limits.items
  pub limit : number_at document Limit ≡ Some limits.limit
  pub reads : number_at document Reads ≡ Some limits.reads
  pub sessions : number_at document Sessions ≡ Some limits.sessions

-- all tests of the document are passed, and it configures this
pub record IsConfigOf (document : Members) (config : Config) : Type 0 where
  pub passed : AllPass (document_checks document)
  pub agents : IsAddressOf document Agents config.agents
  pub operators : IsAddressOf document Operators config.operators
  pub pages : IsAddressOf document Pages config.pages
  pub limits : AreLimitsOf document config.limits
  pub workers : number_at document Workers ≡ Some config.workers
  pub table : config.table ≡ object_lines document
