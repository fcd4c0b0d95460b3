-- What is reported of a program that doesn't serve: a text on standard error, and an exit status. Own rules: both.
use Rattle.std.specs.Prelude.{ℕ, List, ◌++◌, codes, string_bytes}
use Rattle.status_serving.specs.declared.serving.ServeFault.{ServeFault}
use Rattle.status_serving.specs.declared.serving.ServeFault.TheVariants as serve
use Rattle.statusweb.specs.declared.words.BadValue.{BadValue}
use Rattle.statusweb.specs.declared.words.BadValue.TheVariants.{Listen, Refresh, Every, Gateway, SameName, NoGateway}
use Rattle.statusweb.specs.declared.fault.WebFault.{WebFault}
use Rattle.statusweb.specs.declared.fault.WebFault.TheVariants.{BadArguments, Refused, Bad, Bind, OutOfMemory, Spawn, WriteFault}

-- the program's fault for a fault of serving
abbrev pub web_fault : ServeFault → WebFault
web_fault serve.Spawn = Spawn
web_fault serve.OutOfMemory = OutOfMemory

-- the exit status of a program that doesn't serve for this cause
abbrev pub status_of : WebFault → ℕ
status_of BadArguments = 2
status_of (Refused message) = 2
status_of (Bad value) = 2
status_of (Bind address) = 4
status_of OutOfMemory = 3
status_of Spawn = 3
status_of WriteFault = 3

-- the line that reports a bad value
abbrev pub bad_line : BadValue → List ℕ
bad_line Listen = codes "statusweb: --listen: not an IP address and a port\n"
bad_line Refresh = codes "statusweb: --refresh: not 0 or 2 to 3600\n"
bad_line Every = codes "statusweb: --every: not 1 to 30\n"
bad_line Gateway = codes "statusweb: --gateway: not [NAME=]ADDRESS:PORT\n"
bad_line SameName = codes "statusweb: --gateway: two of one name\n"
bad_line NoGateway = codes "statusweb: --gateway: missing\n"

-- the line that reports the fault; for words that clap refuses, its message of several lines
abbrev pub message_of : WebFault → List ℕ
message_of BadArguments = codes "statusweb: bad arguments\n"
message_of (Refused message) = string_bytes message
message_of (Bad value) = bad_line value
message_of (Bind address) = codes "statusweb: bind " ++ string_bytes address ++ codes "\n"
message_of OutOfMemory = codes "statusweb: OutOfMemory\n"
message_of Spawn = codes "statusweb: Spawn\n"
message_of WriteFault = codes "statusweb: WriteFault\n"
