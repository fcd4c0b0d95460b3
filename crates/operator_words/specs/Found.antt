-- What clap found in the words of a subcommand, as texts. A word that has to be there is the empty text where it isn't,
-- which clap refuses.
use Rattle.std.specs.Prelude.{ℕ, Bool, true, false, List, [], Option, Some, None, unwrap_or, codes}
use Rattle.std.specs.Str.{bytes_eq}
use Rattle.clap.specs.Words.{Row, Text, all_of, first_of}
use Rattle.operator_commands.specs.declared.request.Object.{Object}
use Rattle.operator_commands.specs.declared.request.Remark.{Remark}
use Rattle.operator_commands.specs.declared.request.Window.{Window}
use Rattle.operator_commands.specs.declared.request.Options.{Options}

-- the value of a flag that is there
abbrev pub is_true : Option Text → Bool
is_true None = false
is_true (Some value) = bytes_eq value (codes "true")

-- this flag is there
abbrev pub is_set : List ℕ → List Row → Bool
is_set name found = is_true (first_of name found)

-- the text of an option, if it is there
abbrev pub option_in : List ℕ → List Row → Option (List ℕ)
option_in name found = first_of name found

-- the text of a word that has to be there
abbrev pub text_in : List ℕ → List Row → List ℕ
text_in name found = unwrap_or (option_in name found) []

-- the texts of words of which there may be several
abbrev pub texts_in : List ℕ → List Row → List (List ℕ)
texts_in name found = unwrap_or (all_of name found) []

-- `HOST [SERVICE]`
abbrev pub object_in : List Row → Object
object_in found = record { host = text_in (codes "host") found; service = option_in (codes "service") found }

-- `--comment TEXT [--author NAME]`
abbrev pub remark_in : List Row → Remark
remark_in found = record { text = text_in (codes "comment") found; author = option_in (codes "author") found }

-- when downtime is
abbrev pub window_in : List Row → Window
window_in found = record {
  lasts = option_in (codes "for") found;
  until = option_in (codes "until") found;
  from = option_in (codes "from") found;
  flexible = option_in (codes "flexible") found;
  trigger = option_in (codes "trigger") found;
}

-- the options that several tasks have
abbrev pub options_in : List Row → Options
options_in found = record {
  config = option_in (codes "config") found;
  operators = option_in (codes "operators") found;
  pages = option_in (codes "pages") found;
  wait = option_in (codes "wait") found;
  json = is_set (codes "json") found;
  escaped = is_set (codes "escaped") found;
}
