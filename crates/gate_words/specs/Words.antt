-- What the words after the program's name ask for (`asked_of`): they are read by clap, whose
-- definitions say what it makes of the command line `program`.
use Rattle.std.specs.Prelude.{ℕ, List, [], ◌∷◌, Option, Some, None, option_map, true, codes, if◌then◌else◌}
use Rattle.std.specs.Str.{bytes_eq}
use Rattle.clap.specs.Words.{App, Row, Rule, Text, Kinds, fault_of, first_of, new_app, new_rule, subcommand_of, with_rule, with_subcommand}
use Rattle.clap.specs.declared.builder.ArgAction.TheVariants.{Set}
use Rattle.gate_words.specs.declared.words.Request.{Request}
use Rattle.gate_words.specs.declared.words.Request.TheVariants.{Replay, Serve}

-- `--config PATH`, which has to be there
abbrev pub config : Rule
config = record (new_rule (codes "config")) { long = Some (codes "config"); required = true; action = Some Set }

-- the words are all that follows the program's name
abbrev pub unnamed : App → App
unnamed app = record app { top = record app.top { no_binary_name = true } }

-- `replay`, or `serve --config PATH`
abbrev pub program : App
program =
    with_subcommand
    (with_subcommand (unnamed (new_app (codes "nscagate"))) (new_app (codes "replay")).top)
    (with_rule (new_app (codes "serve")) config).top

-- what the program may be asked for
pub data Asked : Type 0 where
  replay : Asked
  -- the file of this path configures the daemon
  serve : List ℕ → Asked

-- what a request asks for
abbrev pub asked_by : Request → Asked
asked_by Replay = replay
asked_by (Serve path) = serve path.now

-- what the subcommand with its arguments asks for
abbrev pub asked_with : Option (Text × List Row) → Option Asked
asked_with None = None
asked_with (Some found) =
    if bytes_eq found.0 (codes "replay") then Some replay
    else option_map serve (first_of (codes "config") found.1)

-- nothing, where the words are faulty
abbrev pub unless_faulty : Kinds → Option Asked → Option Asked
unless_faulty [] asked = asked
unless_faulty (kind ∷ kinds) asked = None

-- what the words ask for, if they do
abbrev pub asked_of : List Text → Option Asked
asked_of words = unless_faulty (fault_of program words) (asked_with (subcommand_of program words))
