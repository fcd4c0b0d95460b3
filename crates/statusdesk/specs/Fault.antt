-- What is reported of a program that doesn't serve: a text on standard error, and an exit status. Own rules: both.
use Rattle.std.specs.Prelude.{ℕ, List, ◌++◌, codes, string_bytes}
use Rattle.status_serving.specs.declared.serving.ServeFault.{ServeFault}
use Rattle.status_serving.specs.declared.serving.ServeFault.TheVariants as serve
use Rattle.desk_words.specs.declared.words.BadValue.{BadValue}
use Rattle.desk_words.specs.declared.words.BadValue.TheVariants.{Listen, NotLoopback, Refresh, Every, Gateway, SameName, NoGateway, Operators, NoUsers}
use Rattle.statusdesk.specs.declared.fault.DeskFault.{DeskFault}
use Rattle.statusdesk.specs.declared.fault.DeskFault.TheVariants.{BadArguments, Refused, Bad, Bind, OutOfMemory, NoKey, Spawn, WriteFault}

-- the program's fault for a fault of serving
abbrev pub desk_fault : ServeFault → DeskFault
desk_fault serve.Spawn = Spawn
desk_fault serve.OutOfMemory = OutOfMemory

-- the exit status of a program that doesn't serve for this cause
abbrev pub status_of : DeskFault → ℕ
status_of BadArguments = 2
status_of (Refused message) = 2
status_of (Bad value) = 2
status_of (Bind address) = 4
status_of OutOfMemory = 3
status_of NoKey = 3
status_of Spawn = 3
status_of WriteFault = 3

-- the line that reports a bad value
abbrev pub bad_line : BadValue → List ℕ
bad_line Listen = codes "statusdesk: --listen: not an IP address and a port\n"
bad_line NotLoopback = codes "statusdesk: --listen: not an address of loopback\n"
bad_line Refresh = codes "statusdesk: --refresh: not 0 or 2 to 3600\n"
bad_line Every = codes "statusdesk: --every: not 1 to 30\n"
bad_line Gateway = codes "statusdesk: --gateway or --operators: not [NAME=]ADDRESS:PORT\n"
bad_line SameName = codes "statusdesk: --gateway or --operators: two of one name\n"
bad_line NoGateway = codes "statusdesk: --gateway: missing\n"
bad_line Operators = codes "statusdesk: --operators: not one for each --gateway\n"
bad_line NoUsers = codes "statusdesk: --users: missing\n"

-- the line that reports the fault; for words that clap refuses, its message of several lines
abbrev pub message_of : DeskFault → List ℕ
message_of BadArguments = codes "statusdesk: bad arguments\n"
message_of (Refused message) = string_bytes message
message_of (Bad value) = bad_line value
message_of (Bind address) = codes "statusdesk: bind " ++ string_bytes address ++ codes "\n"
message_of OutOfMemory = codes "statusdesk: OutOfMemory\n"
message_of NoKey = codes "statusdesk: NoKey\n"
message_of Spawn = codes "statusdesk: Spawn\n"
message_of WriteFault = codes "statusdesk: WriteFault\n"
