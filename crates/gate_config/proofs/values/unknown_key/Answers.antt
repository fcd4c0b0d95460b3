use Rattle.std.proofs.Common.{Some, option_map, string_bytes, ap, ◌∙◌}
use Rattle.gate_config.proofs.KeySteps.{first_is_least}
use Rattle.gate_config.proofs.values.unknown_key.Goals as goal

pub returns-in-Some : goal.returns-in-Some
returns-in-Some c =
    ap Some c.as_str.ensures.value ∙ ap (option_map string_bytes) c.in-Some.ensures.found
    ∙ first_is_least c.args.keys.now c.args.table.now.entries c.in-Some.ensures.ordered

pub returns-in-None : goal.returns-in-None
returns-in-None c =
    ap (option_map string_bytes) c.in-None.ensures.found
    ∙ first_is_least c.args.keys.now c.args.table.now.entries c.in-None.ensures.ordered
