-- What is reported of a program that ends before it has done what its words ask for: a line on standard error, and an
-- exit status. Own rules: both.
use Rattle.std.specs.Prelude.{ℕ, List, ◌++◌, codes}
use Rattle.operator_commands.specs.declared.bodies.RequestFault.{RequestFault}
use Rattle.operator_commands.specs.declared.bodies.RequestFault.TheVariants as requests
use Rattle.page_fetching.specs.declared.fetching.FetchFault.{FetchFault}
use Rattle.page_fetching.specs.declared.fetching.FetchFault.TheVariants as fetches
use Rattle.operator_setup.specs.declared.fault.ControlFault.{ControlFault}
use Rattle.operator_setup.specs.declared.fault.ControlFault.TheVariants.{BadWords, NotUtf8, BadAddress, BadWait, BadAge, BadInterval, BadState, Unreadable, BadFile, Request, NoObject, NoPage, BadPage, NoClock, OutOfMemory, WriteFault}

-- why words are faulty
abbrev pub request_text : RequestFault → List ℕ
request_text requests.BadState = codes "--state is OK, WARNING, CRITICAL or UNKNOWN; of a host UP, DOWN or UNREACHABLE"
request_text requests.BadSetting = codes "passive is on or off"
request_text requests.ServicesOfService = codes "--services is of a host, and a service is named"
request_text requests.BadTime = codes "a time is in seconds since 1970"
request_text requests.BadSpan = codes "a span is a number with s, m, h or d, as 90m"
request_text requests.BadId = codes "an id is a number"
request_text requests.NoEnd = codes "downtime ends by one of --for and --until"
request_text requests.NoCommand = codes "bad words"

-- why there is no page
abbrev pub page_text : FetchFault → List ℕ
page_text fetches.Unreachable = codes "no status page: the gateway accepts no connection"
page_text fetches.TooSlow = codes "no status page: it didn't end in time"
page_text fetches.TooLong = codes "no status page: it is longer than 64 MiB"
page_text fetches.Broken = codes "no status page: the connection broke"
page_text fetches.OutOfMemory = codes "out of memory"

-- the cause of a fault
abbrev pub cause : ControlFault → List ℕ
cause BadWords = codes "bad words"
cause NotUtf8 = codes "a word is no UTF-8: write its bytes as \\xe9, with --escaped"
cause BadAddress = codes "an address is an IP address and a port"
cause BadWait = codes "--wait is 1 to 3600"
cause BadAge = codes "--age is a number of seconds"
cause BadInterval = codes "--interval is 1 to 3600"
cause BadState = codes "--state is a state, or all, problems, unhandled or stale"
cause Unreadable = codes "the configuration can't be read"
cause BadPage = codes "what the pages port gives is no status page"
cause NoClock = codes "the clock can't be read"
cause OutOfMemory = codes "out of memory"
cause WriteFault = codes "the output can't be written"
cause (BadFile text) = text
cause (Request fault) = request_text fault
cause NoObject = codes "--all is of a host, or of a host and a service"
cause (NoPage fault) = page_text fault

-- the line that reports a fault
abbrev pub message_of : ControlFault → List ℕ
message_of fault = codes "nscagatectl: " ++ cause fault ++ codes "\n"

-- the exit status: 2 where the words or the configuration are faulty, 3 where there is no answer
abbrev pub status_of : ControlFault → ℕ
status_of BadWords = 2
status_of NotUtf8 = 2
status_of BadAddress = 2
status_of BadWait = 2
status_of BadAge = 2
status_of BadInterval = 2
status_of BadState = 2
status_of Unreadable = 2
status_of (BadFile text) = 2
status_of (Request fault) = 2
status_of NoObject = 2
status_of (NoPage fault) = 3
status_of BadPage = 3
status_of NoClock = 3
status_of OutOfMemory = 3
status_of WriteFault = 3
