use Rattle.std.proofs.Common.{rules, ◌≡◌, arith}
use Rattle.std.proofs.lemmas.Grind.{common_steps}
use Rattle.gate_grammar.specs.Canonical.{canonical_line}
use Rattle.gate_grammar.proofs.WriteLaws.{line_spells}
use Rattle.gate_grammar.proofs.canonical.write_line.Goals as goal

pub returns-clause-spells : goal.returns-clause-spells
returns-clause-spells c =
    let whole : c.push_ranged_body.new.out.items ≡ canonical_line c.args.command.now = grind (arith, common_steps) in
    line_spells c.push_ranged_body.new.out.items c.args.command.now whole (search rules) c.in_ok-push_ranged_body.ensures.in_range c.requires
