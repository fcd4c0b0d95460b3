-- What the words after the program's name ask for (`AskFor`), and why they ask for nothing (`IsWordsFault`). They are read
-- by clap, whose definitions say what it makes of the command line `program`. Own rules.
use Rattle.std.specs.Prelude.{◌≡◌, ◌⊎◌, ℕ, ◌<◌, ◌==◌, Bool, true, List, [], length, map, Some, unwrap_or, codes, ⊤}
use Rattle.std.specs.declared.net.SocketAddr.{SocketAddr}
use Rattle.std.specs.List.{Any, IsDistinct, slice_split, list_all, list_any}
use Rattle.std.specs.Str.{bytes_eq}
use Rattle.std.specs.Net.Grammar.{IsSocketText}
use Rattle.std.specs.Net.Addr.{MatchIp, IsLoopbackV4, IsLoopbackV6}
use Rattle.std.specs.Net.Socket.{socket_ip}
use Rattle.clap.specs.Words.{App, IsAmong, Row, Rule, Text, all_of, fault_of, first_of, kind_of, new_app, new_rule, with_rule}
use Rattle.clap.specs.Simple.{matches_of}
use Rattle.clap.specs.declared.builder.ArgAction.TheVariants.{Set, Append}
use Rattle.page_watching.specs.declared.places.Place.{Place}
use Rattle.page_watching.specs.Places.{name_of, Names, NameAll, WritesEvery}
use Rattle.status_serving.specs.Headings.{WritesRefresh}
use Rattle.desk_words.specs.declared.words.Settings.{Settings}
use Rattle.desk_words.specs.declared.words.BadValue.{BadValue}
use Rattle.desk_words.specs.declared.words.BadValue.TheVariants.{Listen, NotLoopback, Refresh, Every, Gateway, SameName, NoGateway, Operators, NoUsers}
use Rattle.desk_words.specs.declared.words.WordsFault.{WordsFault}
use Rattle.desk_words.specs.declared.words.WordsFault.TheVariants.{Refused, Bad, OutOfMemory}

-- `--NAME VALUE`
abbrev pub option_of : List ℕ → Rule
option_of name = record (new_rule name) { long = Some name; action = Some Set }

-- `--NAME VALUE`, which may be there more than once
abbrev pub list_of : List ℕ → Rule
list_of name = record (new_rule name) { long = Some name; action = Some Append }

-- the words are all that follows the program's name; there is a version
abbrev pub unnamed : App → App
unnamed app = record app { top = record app.top { no_binary_name = true; has_version = true } }

-- the options
abbrev pub program : App
program =
    with_rule
    (with_rule
    (with_rule
    (with_rule
    (with_rule
    (with_rule
    (with_rule
    (with_rule
    (with_rule (unnamed (new_app (codes "statusdesk"))) (option_of (codes "listen")))
    (list_of (codes "gateway")))
    (list_of (codes "operators")))
    (list_of (codes "host")))
    (option_of (codes "user-header")))
    (option_of (codes "users")))
    (option_of (codes "title")))
    (option_of (codes "refresh")))
    (option_of (codes "every"))

-- the value of an option in what was found, or its default
abbrev pub value_of : List ℕ → List ℕ → List Row → List ℕ
value_of name default found = unwrap_or (first_of name found) default

-- the values of an option, in their order
abbrev pub values_of : List ℕ → List Row → List Text
values_of name found = unwrap_or (all_of name found) []

-- a comma (44) stands between two users
abbrev pub is_comma : ℕ → Bool
is_comma byte = byte == 44

abbrev pub IsLoopback : SocketAddr → Type 0
IsLoopback address = MatchIp (socket_ip address) IsLoopbackV4 IsLoopbackV6

-- the text is an address of loopback, and a port
pub record IsLoopbackText (text : List ℕ) (address : SocketAddr) : Type 0 where
  pub writes : IsSocketText text address
  pub loopback : IsLoopback address

-- one of these ports has this name
abbrev pub has_port : List Place → List ℕ → Bool
has_port ports name = list_any (λ (port : Place). bytes_eq port.name.now name) ports

-- each place has one of these ports
abbrev pub have_ports : List Place → List Place → Bool
have_ports places ports = list_all (λ (place : Place). has_port ports place.name.now) places

-- a port for each place, and no more
pub record HavePorts (places ports : List Place) : Type 0 where
  pub each : have_ports places ports ≡ true
  pub no_more : length ports ≡ length places

-- what was found in the words sets this
pub record Sets (found : List Row) (settings : Settings) : Type 0 where
  pub listen : IsLoopbackText (value_of (codes "listen") (codes "127.0.0.1:8081") found) settings.listen
  pub places : NameAll (values_of (codes "gateway") found) settings.places.items
  pub some : 0 < length (values_of (codes "gateway") found)
  pub distinct : IsDistinct bytes_eq (map name_of (values_of (codes "gateway") found))
  pub operators : NameAll (values_of (codes "operators") found) settings.operators.items
  pub ports : HavePorts settings.places.items settings.operators.items
  pub title : settings.title.now ≡ value_of (codes "title") (codes "nscagate") found
  pub refresh : WritesRefresh (value_of (codes "refresh") (codes "30") found) settings.refresh
  pub every : WritesEvery (value_of (codes "every") (codes "5") found) settings.every
  pub hosts : map (λ host. host.now) settings.hosts.items ≡ values_of (codes "host") found
  pub user_header : settings.user_header.now ≡ value_of (codes "user-header") (codes "X-Remote-User") found
  pub users : map (λ user. user.now) settings.users.items ≡ slice_split is_comma (value_of (codes "users") [] found)

-- the words ask for these settings
abbrev pub AskFor : List Text → Settings → Type 0
AskFor words settings = (fault_of program words ≡ []) × Sets (matches_of program words) settings

-- ---- why there are none

-- the text is no address, or none of loopback
abbrev pub IsListenFault : List ℕ → WordsFault → Type 0
IsListenFault text (Bad Listen) = (address : SocketAddr) → IsSocketText text address → ⊥
IsListenFault text (Bad NotLoopback) =
    (address : SocketAddr) × IsSocketText text address × ((IsLoopback address) → ⊥)
IsListenFault text other = ⊥

-- these values name no places: one names none, or two have one name
abbrev pub IsPlacesFault : List Text → WordsFault → Type 0
IsPlacesFault values (Bad Gateway) = Any (λ value. (place : Place) → Names value place → ⊥) values
IsPlacesFault values (Bad SameName) = IsDistinct bytes_eq (map name_of values) → ⊥
IsPlacesFault values OutOfMemory = ⊤
IsPlacesFault values other = ⊥

-- what was found in the words has this value, which its option can't have
abbrev pub IsBadValue : BadValue → List Row → Type 0
IsBadValue Listen found = IsListenFault (value_of (codes "listen") (codes "127.0.0.1:8081") found) (Bad Listen)
IsBadValue NotLoopback found = IsListenFault (value_of (codes "listen") (codes "127.0.0.1:8081") found) (Bad NotLoopback)
IsBadValue Refresh found = (seconds : ℕ) → WritesRefresh (value_of (codes "refresh") (codes "30") found) seconds → ⊥
IsBadValue Every found = (seconds : ℕ) → WritesEvery (value_of (codes "every") (codes "5") found) seconds → ⊥
IsBadValue Gateway found =
    IsPlacesFault (values_of (codes "gateway") found) (Bad Gateway)
    ⊎ IsPlacesFault (values_of (codes "operators") found) (Bad Gateway)
IsBadValue SameName found =
    IsPlacesFault (values_of (codes "gateway") found) (Bad SameName)
    ⊎ IsPlacesFault (values_of (codes "operators") found) (Bad SameName)
IsBadValue NoGateway found = values_of (codes "gateway") found ≡ []
IsBadValue Operators found =
    (places : List Place) × (ports : List Place) × NameAll (values_of (codes "gateway") found) places
    × NameAll (values_of (codes "operators") found) ports × (HavePorts places ports → ⊥)
IsBadValue NoUsers found = value_of (codes "users") [] found ≡ []

-- what was found in the words sets nothing
abbrev pub IsFaultIn : List Row → WordsFault → Type 0
IsFaultIn found (Refused error) = ⊥
IsFaultIn found (Bad value) = IsBadValue value found
IsFaultIn found OutOfMemory = ⊤

-- the words ask for nothing: clap refuses them for this cause, or this value of theirs is bad
abbrev pub IsWordsFault : List Text → WordsFault → Type 0
IsWordsFault words (Refused error) = IsAmong (kind_of error) (fault_of program words)
IsWordsFault words (Bad value) = IsBadValue value (matches_of program words)
IsWordsFault words OutOfMemory = ⊤
