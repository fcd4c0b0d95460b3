-- The keys of a configuration: their names, and what each may hold (`kind_of`). Own rule.
use Rattle.std.specs.Prelude.{ℕ, List, [], ◌∷◌, codes}
use Rattle.gate_config.specs.declared.key.Key.{Key}
use Rattle.gate_config.specs.declared.key.Key.TheVariants.{Agents, Operators, Pages, Capacity, GreatestAge, Items, Limit, Reads, Sessions, Host, Name, Freshness, Service, Workers}

-- the key as a document has it
abbrev pub name_of : Key → List ℕ
name_of Agents = codes "agents"
name_of Operators = codes "operators"
name_of Pages = codes "pages"
name_of Capacity = codes "capacity"
name_of GreatestAge = codes "greatest_age"
name_of Items = codes "items"
name_of Limit = codes "limit"
name_of Reads = codes "reads"
name_of Sessions = codes "sessions"
name_of Host = codes "host"
name_of Name = codes "name"
name_of Freshness = codes "freshness"
name_of Service = codes "service"
name_of Workers = codes "workers"

-- what a key may hold
pub data Kind : Type 0 where
  -- a text that writes an IP address and a port, with the text that stands where there is none
  address : List ℕ → Kind
  -- an integer from the least to the greatest, with the one that stands where there is none
  number : ℕ → ℕ → ℕ → Kind
  -- a text; it has to be there
  name : Kind
  -- an array of tables; where there is none, it has none
  tables : Kind

abbrev pub kind_of : Key → Kind
kind_of Agents = address (codes "127.0.0.1:5667")
kind_of Operators = address (codes "127.0.0.1:5668")
kind_of Pages = address (codes "127.0.0.1:5669")
kind_of Capacity = number 1 65536 256
kind_of GreatestAge = number 0 900 30
kind_of Items = number 1 1000000 10000
kind_of Limit = number 1 1000000 100000
kind_of Reads = number 1 4294967295 1000000
kind_of Sessions = number 1 1000000 100000
kind_of Host = tables
kind_of Name = name
kind_of Freshness = number 0 4294967295 0
kind_of Service = tables
kind_of Workers = number 1 63 1

-- the keys of a document, in the order in which their values are tested
abbrev pub document_keys : List Key
document_keys =
    Agents ∷ Operators ∷ Pages ∷ Capacity ∷ GreatestAge ∷ Items ∷ Limit ∷ Reads ∷ Sessions ∷ Host
    ∷ Workers ∷ []

-- the keys of a host's table, in that order
abbrev pub host_keys : List Key
host_keys = Name ∷ Freshness ∷ Service ∷ []

-- the keys of a service's table, in that order
abbrev pub service_keys : List Key
service_keys = Name ∷ Freshness ∷ []
