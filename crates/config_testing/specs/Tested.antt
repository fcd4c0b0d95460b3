-- What `test-config` prints of a file that is a configuration: `IsTested`. Which file was read isn't known here, so some
-- text is meant. Own rule: the line.
use Rattle.std.specs.Prelude.{◌<◌, ◌≤◌, not, is_some, Bool, ℕ, List, ◌++◌, length, count_by, codes}
use Rattle.std.specs.Fmt.{decimal}
use Rattle.toml.specs.Data.{Members}
use Rattle.gate_model.specs.declared.object.ObjectLine.{ObjectLine}
use Rattle.gate_streams.specs.Sink.{SinkState, Delivers}
use Rattle.gate_config.specs.declared.config.Config.{Config}
use Rattle.gate_config.specs.Config.{IsDocument, IsConfigOf}

abbrev pub is_service : ObjectLine → Bool
is_service line = is_some line.service

abbrev pub is_host : ObjectLine → Bool
is_host line = not (is_service line)

-- `FILE: N hosts, N services`
abbrev pub good_line : List ℕ → List ObjectLine → List ℕ
good_line file table =
    file ++ codes ": " ++ decimal (count_by is_host table) ++ codes " hosts, " ++ decimal (count_by is_service table)
    ++ codes " services\n"

-- some text is a document that configures these objects, which were counted
pub record IsTested (file : List ℕ) (before after : SinkState) : Type 0 where
  pub text : List ℕ
  pub config : Config
  pub not_large : ¬ (1048576 < length text)
  pub is_document : length text ≤ 1048576 → ¬ ((document : Members) → ¬ IsDocument text document)
  pub configures : (document : Members) → IsDocument text document → IsConfigOf document config
  pub printed : Delivers before after (good_line file config.table)
