use Rattle.toml.specs.View.{table_view}
use Rattle.gate_config.proofs.reading.read_config.Goals as goal

pub returns-clause-not_toml : goal.returns-clause-not_toml
returns-clause-not_toml c =
    λ small none. absurd (none (table_view c.in-Ok.document) (record {
      not_large = small;
      utf8 = c.in-Ok.ensures.ok.0;
      parsed = c.in-Ok.ensures.ok.1;
    }))
