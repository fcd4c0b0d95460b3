-- The command line of `nscagatectl`, as clap reads it: `program`.
use Rattle.std.specs.Prelude.{◌≡◌, ℕ, Bool, true, false, List, Some, codes}
use Rattle.clap.specs.Words.{App, Rule, app_of, rule_of, new_app, new_rule, with_rule, with_subcommand}
use Rattle.clap.specs.declared.builder.arg.Arg.{Arg}
use Rattle.clap.specs.declared.builder.command.Command.{Command}
use Rattle.clap.specs.declared.builder.command.Command.TheViews.{out-Command as fields_of}
use Rattle.clap.specs.declared.builder.ArgAction.TheVariants.{Set, Append, SetTrue}

-- an argument has this rule, and is of its own command alone
abbrev pub IsArgument : Rule → Arg → Type 0
IsArgument rule argument = (rule_of argument ≡ rule) × (argument.global ≡ false)

-- a command has this shape, and arguments of its own alone
abbrev pub IsCommand : App → Command → Type 0
IsCommand app command = (app_of command ≡ app) × ((fields_of command).has_globals ≡ false)

-- ---- arguments

-- a word without a name
abbrev pub word_of : List ℕ → Bool → Rule
word_of name required = record (new_rule name) { required = required; action = Some Set }

-- words without a name, one or more if they are required
abbrev pub words_of : List ℕ → Bool → Rule
words_of name required = record (new_rule name) { required = required; action = Some Append }

-- `--NAME VALUE`
abbrev pub option_of : List ℕ → Bool → Rule
option_of name required = record (new_rule name) { long = Some name; required = required; action = Some Set }

-- `-c TEXT`, `--comment TEXT`
abbrev pub comment : Rule
comment = record (option_of (codes "comment") true) { short = Some 99 }

-- `--NAME`
abbrev pub flag_of : List ℕ → Rule
flag_of name = record (new_rule name) { long = Some name; action = Some SetTrue }

-- a command with one more of these arguments
abbrev pub with_word : List ℕ → Bool → App → App
with_word name required app = with_rule app (word_of name required)

abbrev pub with_words : List ℕ → Bool → App → App
with_words name required app = with_rule app (words_of name required)

abbrev pub with_option : List ℕ → Bool → App → App
with_option name required app = with_rule app (option_of name required)

abbrev pub with_flag : List ℕ → App → App
with_flag name app = with_rule app (flag_of name)

-- ---- subcommands

-- a subcommand that asks a gateway
abbrev pub asking : List ℕ → App
asking name =
    with_option (codes "wait") false
    (with_option (codes "pages") false
    (with_option (codes "operators") false (with_option (codes "config") false (new_app name))))

-- one whose outcome may be JSON
abbrev pub plain : List ℕ → App
plain name = with_flag (codes "json") (asking name)

-- one whose words may be escaped as a page's are
abbrev pub worded : List ℕ → App
worded name = with_flag (codes "escaped") (plain name)

-- `HOST [SERVICE]`
abbrev pub with_object : App → App
with_object app = with_word (codes "service") false (with_word (codes "host") true app)

-- `NAME HOST [SERVICE]`
abbrev pub on_object : List ℕ → App
on_object name = with_object (worded name)

-- `NAME HOST [SERVICE] --comment TEXT [--author NAME]`
abbrev pub with_remark : List ℕ → App
with_remark name = with_option (codes "author") false (with_rule (on_object name) comment)

abbrev pub ack : App
ack = with_flag (codes "persistent") (with_flag (codes "sticky") (with_remark (codes "ack")))

abbrev pub comment_command : App
comment_command = with_flag (codes "persistent") (with_remark (codes "comment"))

abbrev pub uncomment : App
uncomment = with_flag (codes "all") (with_words (codes "words") true (worded (codes "uncomment")))

abbrev pub windowed : App
windowed =
    with_option (codes "from") false
    (with_option (codes "until") false (with_option (codes "for") false (with_remark (codes "downtime"))))

abbrev pub downtime : App
downtime =
    with_flag (codes "services") (with_option (codes "trigger") false (with_option (codes "flexible") false windowed))

abbrev pub cancel : App
cancel = with_words (codes "ids") true (plain (codes "cancel"))

abbrev pub passive : App
passive = with_object (with_word (codes "setting") true (worded (codes "passive")))

abbrev pub result_command : App
result_command = with_option (codes "output") true (with_option (codes "state") true (on_object (codes "result")))

abbrev pub shutdown : App
shutdown = plain (codes "shutdown")

abbrev pub status : App
status = with_option (codes "host") false (with_option (codes "state") false (plain (codes "status")))

abbrev pub watch : App
watch = with_option (codes "interval") false (plain (codes "watch"))

abbrev pub check : App
check =
    with_words (codes "gateways") false
    (with_option (codes "keep") false
    (with_option (codes "age") false (with_option (codes "agents") false (asking (codes "check")))))

abbrev pub test_config : App
test_config = with_word (codes "file") true (new_app (codes "test-config"))

abbrev pub log : App
log = with_flag (codes "json") (with_option (codes "since") false (with_word (codes "file") true (new_app (codes "log"))))

-- with `PAGE [--log FILE]`
abbrev pub on_page : App → App
on_page app = with_option (codes "log") false (with_word (codes "page") true app)

abbrev pub stop : App
stop = with_option (codes "pid") false (on_page (asking (codes "stop")))

abbrev pub restore : App
restore = with_flag (codes "old") (on_page (with_option (codes "config") false (new_app (codes "restore"))))

-- ---- the program

-- a command with one more subcommand
abbrev pub with_command : App → App → App
with_command added app = with_subcommand app added.top

-- the words are all that follows the program's name, and one of them is a subcommand; there is a version
abbrev pub top : App
top =
    let app = new_app (codes "nscagatectl") in
    record app { top = record app.top { no_binary_name = true; has_version = true; subcommand_required = true } }

-- all of them
abbrev pub program : App
program =
    with_command restore
    (with_command stop
    (with_command log
    (with_command test_config
    (with_command shutdown
    (with_command check
    (with_command watch
    (with_command status
    (with_command cancel
    (with_command uncomment
    (with_command result_command
    (with_command passive
    (with_command (on_object (codes "unack"))
    (with_command downtime (with_command comment_command (with_command ack top)))))))))))))))
