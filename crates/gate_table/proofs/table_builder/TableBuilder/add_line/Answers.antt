use Rattle.std.proofs.Common.{sym, ◌∙◌}
use Rattle.gate_table.proofs.BuilderSteps.{line_there, bad_name}
use Rattle.gate_table.proofs.table_builder.TableBuilder.add_line.Goals as goal

pub returns-then-not-is_named : goal.returns-then-not-is_named
returns-then-not-is_named c = bad_name c.args.lines.now c.args.i c.index-lines-i.result c.requires.within c.index-lines-i.is (sym c.is_named.ensures ∙ c.if-not-is_named.true)

pub add_host-requires-clause-host : goal.add_host-requires-clause-host
add_host-requires-clause-host c =
    rw (line_there c.args.lines.now c.args.i c.index-lines-i.result c.requires.within c.index-lines-i.is)
    (sym c.is_named.ensures ∙ c.if-not-is_named.false, c.in-None.is)

pub add_service-requires-clause-service : goal.add_service-requires-clause-service
add_service-requires-clause-service c =
    rw (line_there c.args.lines.now c.args.i c.index-lines-i.result c.requires.within c.index-lines-i.is)
    (sym c.is_named.ensures ∙ c.if-not-is_named.false, rw c.bytes.ensures c.in-Some.is)
