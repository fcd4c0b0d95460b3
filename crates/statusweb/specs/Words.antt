-- What the words after the program's name ask for (`AskFor`), and the value that an option can't have (`IsBadValue`). They
-- are read by clap, whose definitions say what it makes of the command line `program`. Own rules.
use Rattle.std.specs.Prelude.{◌≡◌, ℕ, ◌<◌, true, List, [], length, map, Some, unwrap_or, codes}
use Rattle.std.specs.declared.net.socket_addr.SocketAddr.{SocketAddr}
use Rattle.std.specs.List.{Any, IsDistinct}
use Rattle.std.specs.Str.{bytes_eq}
use Rattle.std.specs.Net.Grammar.{IsSocketText}
use Rattle.clap.specs.Words.{App, Row, Rule, Text, all_of, fault_of, first_of, new_app, new_rule, with_rule}
use Rattle.clap.specs.Simple.{matches_of}
use Rattle.clap.specs.declared.builder.ArgAction.TheVariants.{Set, Append}
use Rattle.page_watching.specs.declared.places.Place.{Place}
use Rattle.page_watching.specs.Places.{name_of, Names, NameAll, WritesEvery}
use Rattle.status_serving.specs.Headings.{WritesRefresh}
use Rattle.statusweb.specs.declared.words.Settings.{Settings}
use Rattle.statusweb.specs.declared.words.BadValue.{BadValue}
use Rattle.statusweb.specs.declared.words.BadValue.TheVariants.{Listen, Refresh, Every, Gateway, SameName, NoGateway}

-- `--NAME VALUE`
abbrev pub option_of : List ℕ → Rule
option_of name = record (new_rule name) { long = Some name; action = Some Set }

-- `--gateway VALUE`, which is there once or more
abbrev pub gateway : Rule
gateway = record (new_rule (codes "gateway")) { long = Some (codes "gateway"); required = true; action = Some Append }

-- `--host VALUE`, which may be there more than once
abbrev pub host : Rule
host = record (new_rule (codes "host")) { long = Some (codes "host"); action = Some Append }

-- the words are all that follows the program's name; there is a version
abbrev pub unnamed : App → App
unnamed app = record app { top = record app.top { no_binary_name = true; has_version = true } }

-- `--listen`, `--gateway`, `--title`, `--refresh`, `--every` and `--host`
abbrev pub program : App
program =
    with_rule
    (with_rule
    (with_rule
    (with_rule
    (with_rule (with_rule (unnamed (new_app (codes "statusweb"))) (option_of (codes "listen"))) gateway)
    (option_of (codes "title")))
    (option_of (codes "refresh")))
    (option_of (codes "every")))
    host

-- the value of an option in what was found, or its default
abbrev pub value_of : List ℕ → List ℕ → List Row → List ℕ
value_of name default found = unwrap_or (first_of name found) default

-- the values of `--gateway`, in their order
abbrev pub gateways_of : List Row → List Text
gateways_of found = unwrap_or (all_of (codes "gateway") found) []

-- the values of `--host`
abbrev pub hosts_of : List Row → List Text
hosts_of found = unwrap_or (all_of (codes "host") found) []

-- what was found in the words sets this
pub record Sets (found : List Row) (settings : Settings) : Type 0 where
  pub listen : IsSocketText (value_of (codes "listen") (codes "127.0.0.1:8080") found) settings.listen
  pub places : NameAll (gateways_of found) settings.places.items
  pub some : 0 < length (gateways_of found)
  pub distinct : IsDistinct bytes_eq (map name_of (gateways_of found))
  pub title : settings.title.now ≡ value_of (codes "title") (codes "nscagate") found
  pub refresh : WritesRefresh (value_of (codes "refresh") (codes "30") found) settings.refresh
  pub every : WritesEvery (value_of (codes "every") (codes "5") found) settings.every
  pub hosts : map (λ host. host.now) settings.hosts.items ≡ hosts_of found

-- the words ask for these settings
abbrev pub AskFor : List Text → Settings → Type 0
AskFor words settings = (fault_of program words ≡ []) × Sets (matches_of program words) settings

-- what was found in the words has this value, which its option can't have
abbrev pub IsBadValue : BadValue → List Row → Type 0
IsBadValue Listen found =
    (address : SocketAddr) → IsSocketText (value_of (codes "listen") (codes "127.0.0.1:8080") found) address → ⊥
IsBadValue Refresh found = (seconds : ℕ) → WritesRefresh (value_of (codes "refresh") (codes "30") found) seconds → ⊥
IsBadValue Every found = (seconds : ℕ) → WritesEvery (value_of (codes "every") (codes "5") found) seconds → ⊥
IsBadValue Gateway found = Any (λ value. (place : Place) → Names value place → ⊥) (gateways_of found)
IsBadValue SameName found = IsDistinct bytes_eq (map name_of (gateways_of found)) → ⊥
IsBadValue NoGateway found = gateways_of found ≡ []
