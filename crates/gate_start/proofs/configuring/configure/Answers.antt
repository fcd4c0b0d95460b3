use Rattle.gate_start.proofs.ConfiguringSteps.{configures_of, read_fault_of}
use Rattle.gate_start.proofs.configuring.configure.Goals as goal

pub returns-in-Ok-clause-ok : goal.returns-in-Ok-clause-ok
returns-in-Ok-clause-ok c = configures_of c.args.text.now c.in-Ok.config c.in-Ok.ensures.too_large c.in-Ok.ensures.not_toml c.in-Ok.ensures.document

pub returns-in-Err-clause-err : goal.returns-in-Err-clause-err
returns-in-Err-clause-err c =
    c.config_fault.ensures c.args.text.now
    (read_fault_of c.args.text.now c.in-Err.fault c.in-Err.ensures.too_large c.in-Err.ensures.not_toml c.in-Err.ensures.document)
