use Rattle.std.proofs.Common.{List, length, sym, arith, ap, None, ◌∙◌}
use Rattle.gate_model.specs.declared.object.ObjectLine.{ObjectLine}
use Rattle.std.specs.Option.{option_copied}
use Rattle.gate_model.specs.Table.{is_line_of, has_object}
use Rattle.gate_table.proofs.Hosts.{has_object-host}
use Rattle.gate_model.proofs.Lists.{position_from-within}
use Rattle.gate_table.proofs.table.ObjectTable.place.Goals as goal

pub overflow_cast-result : goal.overflow_cast-result
overflow_cast-result c =
    let found = sym (c.in-Some.ensures c.self.inside.lines.items c.self.invariant.are_objects.keys_are c.self.invariant.are_objects.short) in
    let within = position_from-within (is_line_of c.args.host.now (option_copied c.args.service)) 0 c.self.inside.lines.items c.in-Some.place found in
    let few = c.self.invariant.faultless.few in
    omega arith

pub returns-in-Some-clause-within : goal.returns-in-Some-clause-within
returns-in-Some-clause-within c =
    let found = sym (c.in-Some.ensures c.self.inside.lines.items c.self.invariant.are_objects.keys_are c.self.invariant.are_objects.short) in
    let within = position_from-within (is_line_of c.args.host.now (option_copied c.args.service)) 0 c.self.inside.lines.items c.in-Some.place found in
    let shown = ap length c.self.view_is in
    omega arith

pub returns-in-Some-clause-host : goal.returns-in-Some-clause-host
returns-in-Some-clause-host c =
    let found = sym (c.in-Some.ensures c.self.inside.lines.items c.self.invariant.are_objects.keys_are c.self.invariant.are_objects.short) in
    sym (ap (λ (lines : List ObjectLine). has_object lines c.args.host.now None) c.self.view_is)
    ∙ has_object-host c.self.inside.lines.items c.args.host.now (option_copied c.args.service) c.in-Some.place c.self.invariant.faultless found
