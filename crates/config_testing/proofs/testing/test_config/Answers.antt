use Rattle.config_testing.proofs.TestedSteps.{tested_of, on_ok}
use Rattle.config_testing.proofs.testing.test_config.Goals as goal

pub returns-in-Ok-read_config-clause-tested : goal.returns-in-Ok-read_config-clause-tested
returns-in-Ok-read_config-clause-tested g c =
    let read = c.in-Ok-read_config.ensures in
    on_ok c.print_good.result (tested_of c.args.file.now c.as_slice.result.now c.in-Ok-read_config.config _ _
    read.too_large read.not_toml read.document)
    (rw (c.bytes-in-Ok-read_config.ensures) at c.print_good.ensures.printed)
