-- What the words after the program's name ask for (`asked_of`): they are read by clap, whose definitions say what it makes
-- of the command line `program`. Own rules.
use Rattle.std.specs.Prelude.{ℕ, List, [], ◌∷◌, Option, Some, None, option_map, unwrap_or, codes, if◌then◌else◌}
use Rattle.std.specs.Str.{bytes_eq}
use Rattle.clap.specs.Words.{Row, Text, Kinds, fault_of, subcommand_of}
use Rattle.operator_commands.specs.declared.request.Asked.{Asked}
use Rattle.operator_commands.specs.declared.request.Request.{Request}
use Rattle.operator_commands.specs.declared.request.Request.TheVariants as request
use Rattle.operator_commands.specs.declared.request.Task.{Task}
use Rattle.operator_commands.specs.declared.request.Task.TheVariants as task
use Rattle.operator_words.specs.CommandLine.{program}
use Rattle.operator_words.specs.Found.{is_set, option_in, text_in, texts_in, object_in, remark_in, window_in, options_in}

-- the command of a subcommand of this name on an object, of which there is a remark
abbrev pub remark_on : List ℕ → List Row → Option Request
remark_on name found =
    if bytes_eq name (codes "ack") then
    Some (request.Ack (object_in found) (remark_in found) (is_set (codes "sticky") found) (is_set (codes "persistent") found))
    else if bytes_eq name (codes "comment") then
    Some (request.Comment (object_in found) (remark_in found) (is_set (codes "persistent") found))
    else if bytes_eq name (codes "downtime") then
    Some (request.Downtime (object_in found) (remark_in found) (window_in found) (is_set (codes "services") found))
    else None

-- the command of another subcommand
abbrev pub request_on : List ℕ → List Row → Option Request
request_on name found =
    if bytes_eq name (codes "unack") then Some (request.Unack (object_in found))
    else if bytes_eq name (codes "passive") then
    Some (request.Passive (text_in (codes "setting") found) (object_in found))
    else if bytes_eq name (codes "result") then
    Some (request.Result (object_in found) (text_in (codes "state") found) (text_in (codes "output") found))
    else if bytes_eq name (codes "uncomment") then
    Some (request.Uncomment (texts_in (codes "words") found) (is_set (codes "all") found))
    else if bytes_eq name (codes "cancel") then Some (request.Cancel (texts_in (codes "ids") found))
    else if bytes_eq name (codes "shutdown") then Some request.Shutdown
    else remark_on name found

-- what a subcommand that keeps what a gateway shows asks for
abbrev pub keeping_on : List ℕ → List Row → Option Task
keeping_on name found =
    if bytes_eq name (codes "stop") then
    Some (task.Stop (text_in (codes "page") found) (option_in (codes "log") found) (option_in (codes "pid") found))
    else if bytes_eq name (codes "restore") then
    Some (task.Restore (text_in (codes "page") found) (option_in (codes "log") found) (is_set (codes "old") found))
    else None

-- what another subcommand that is no command asks for
abbrev pub look_on : List ℕ → List Row → Task
look_on name found =
    if bytes_eq name (codes "watch") then task.Watch (option_in (codes "interval") found)
    else if bytes_eq name (codes "check") then
    task.Check (texts_in (codes "gateways") found) (option_in (codes "agents") found) (option_in (codes "age") found)
    (option_in (codes "keep") found)
    else if bytes_eq name (codes "test-config") then task.TestConfig (text_in (codes "file") found)
    else if bytes_eq name (codes "log") then task.Log (text_in (codes "file") found) (option_in (codes "since") found)
    else task.Status (option_in (codes "state") found) (option_in (codes "host") found)

-- what a subcommand of this name asks for
abbrev pub task_on : List ℕ → List Row → Task
task_on name found =
    elim (request_on name found) [
      | Some request ↦ task.Command request
      | None ↦ unwrap_or (keeping_on name found) (look_on name found)
    ]

-- what a subcommand with its arguments asks for
abbrev pub asked_on : Text × List Row → Asked
asked_on given = record { options = options_in given.1; task = task_on given.0 given.1 }

-- the same where a subcommand is there
abbrev pub asked_with : Option (Text × List Row) → Option Asked
asked_with given = option_map asked_on given

-- nothing, where the words are faulty
abbrev pub unless_faulty : Kinds → Option Asked → Option Asked
unless_faulty [] asked = asked
unless_faulty (kind ∷ kinds) asked = None

-- what the words ask for, if they do
abbrev pub asked_of : List Text → Option Asked
asked_of words = unless_faulty (fault_of program words) (asked_with (subcommand_of program words))
