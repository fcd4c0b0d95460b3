-- Addresses, paths and times that words name: `IsAddressText`, `IsAskedAt`, `ArePlacesOf`. Own rules: a port that is
-- bound at each address of the machine (0.0.0.0, ::) is asked at its loopback address (RFC 1122, 3.2.1.3; RFC 4291, 2.5);
-- a wait is 1 to 3600 seconds, and 10 where none is named.
use Rattle.std.specs.Prelude.{◌≡◌, ◌⊎◌, ℕ, ◌&&◌, nat_le, List, [], ◌∷◌, Option, Some, None, if◌then◌else◌}
use Rattle.std.specs.Str.{IsUtf8}
use Rattle.std.specs.declared.net.ipv4_addr.Ipv4Addr.{Ipv4Addr}
use Rattle.std.specs.declared.net.ipv6_addr.Ipv6Addr.{Ipv6Addr}
use Rattle.std.specs.declared.net.ip_addr.IpAddr.{IpAddr}
use Rattle.std.specs.declared.net.ip_addr.IpAddr.TheVariants.{V4, V6}
use Rattle.std.specs.declared.net.socket_addr.SocketAddr.{SocketAddr}
use Rattle.std.specs.Net.Addr.{ipv4_octets, ipv6_segments, IsUnspecifiedV4, IsUnspecifiedV6}
use Rattle.std.specs.Net.Grammar.{IsSocketText}
use Rattle.std.specs.Net.Socket.{socket_ip, socket_port}
use Rattle.gate_grammar.specs.Numbers.{number_of}
use Rattle.operator_commands.specs.declared.request.Options.{Options}
use Rattle.operator_setup.specs.declared.fault.ControlFault.{ControlFault}
use Rattle.operator_setup.specs.declared.fault.ControlFault.TheVariants.{BadAddress, BadWait, Unreadable, BadFile, OutOfMemory}
use Rattle.operator_setup.specs.declared.places.Places.{Places}

-- 0.0.0.0 is asked at 127.0.0.1, and any other address at itself
pub record IsAskedAtV4 (given asked : Ipv4Addr) : Type 0 where
  pub any : IsUnspecifiedV4 given → ipv4_octets asked ≡ 127 ∷ 0 ∷ 0 ∷ 1 ∷ []
  pub one : ¬ IsUnspecifiedV4 given → asked ≡ given

-- :: is asked at ::1, and any other address at itself
pub record IsAskedAtV6 (given asked : Ipv6Addr) : Type 0 where
  pub any : IsUnspecifiedV6 given → ipv6_segments asked ≡ 0 ∷ 0 ∷ 0 ∷ 0 ∷ 0 ∷ 0 ∷ 0 ∷ 1 ∷ []
  pub one : ¬ IsUnspecifiedV6 given → asked ≡ given

-- the same of either family
abbrev pub IsAskedIp : IpAddr → IpAddr → Type 0
IsAskedIp (V4 given) (V4 asked) = IsAskedAtV4 given asked
IsAskedIp (V6 given) (V6 asked) = IsAskedAtV6 given asked
IsAskedIp (V4 given) (V6 asked) = ⊥
IsAskedIp (V6 given) (V4 asked) = ⊥

-- a port at the first address is asked at the second one
pub record IsAskedAt (given asked : SocketAddr) : Type 0 where
  pub ip : IsAskedIp (socket_ip given) (socket_ip asked)
  pub port : socket_port asked ≡ socket_port given

-- the text is an IP address and a port, which is asked at this address
pub record IsAddressText (text : List ℕ) (asked : SocketAddr) : Type 0 where
  pub given : SocketAddr
  pub is_text : IsSocketText text given
  pub is_asked : IsAskedAt given asked

-- the text is no IP address and port
abbrev pub IsNoAddress : List ℕ → Type 0
IsNoAddress text = (address : SocketAddr) → ¬ IsSocketText text address

-- there is a word, and it is no path: no UTF-8
abbrev pub IsNoPath : Option (List ℕ) → Type 0
IsNoPath None = ⊥
IsNoPath (Some text) = ¬ IsUtf8 text

-- the seconds that a word is: 1 to 3600
abbrev pub seconds_of : List ℕ → Option ℕ
seconds_of word = elim (number_of word) [
  | Some seconds ↦ if nat_le 1 seconds && nat_le seconds 3600 then Some seconds else None
  | None ↦ None
]

-- the seconds of `--wait`, or else 10
abbrev pub wait_of : Option (List ℕ) → Option ℕ
wait_of None = Some 10
wait_of (Some word) = seconds_of word

-- the address is that of the option, if there is one
abbrev pub IsAddressOf : Option (List ℕ) → SocketAddr → Type 0
IsAddressOf None asked = Unit {0}
IsAddressOf (Some text) asked = IsAddressText text asked

-- the ports that options name, and their wait
pub record ArePlacesOf (options : Options) (places : Places) : Type 0 where
  pub operators : IsAddressOf options.operators places.operators
  pub pages : IsAddressOf options.pages places.pages
  pub wait : wait_of options.wait ≡ Some places.seconds

-- a configuration can't be read, is faulty, or memory ran out
abbrev pub IsOfConfiguration : ControlFault → Type 0
IsOfConfiguration Unreadable = Unit {0}
IsOfConfiguration (BadFile text) = Unit {0}
IsOfConfiguration OutOfMemory = Unit {0}
IsOfConfiguration _ = ⊥

-- the option is there, and no address
abbrev pub IsBadOption : Option (List ℕ) → Type 0
IsBadOption None = ⊥
IsBadOption (Some text) = IsNoAddress text

-- why there are no addresses: an option is none, or the configuration has this fault
abbrev pub IsOfAddresses : Options → ControlFault → Type 0
IsOfAddresses options BadAddress = IsBadOption options.operators ⊎ IsBadOption options.pages
IsOfAddresses options fault = IsOfConfiguration fault

-- why there are no ports: `--wait` is no time, or there are no addresses
abbrev pub IsOfPlaces : Options → ControlFault → Type 0
IsOfPlaces options BadWait = wait_of options.wait ≡ None
IsOfPlaces options fault = IsOfAddresses options fault
