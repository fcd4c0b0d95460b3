use Rattle.std.proofs.Common.{None, Some, length, sym, ap, ◌∙◌}
use Rattle.gate_table.proofs.ServicePlaces.{object-within, services-counted}
use Rattle.gate_table.proofs.table_builder.TableBuilder.services_of.Goals as goal

pub services-requires : goal.services-requires
services-requires c =
    object-within c.args.lines.now c.args.self.now.objects c.requires.are_objects c.args.host.now c.in-Some.place
    (sym (c.in-Some.ensures c.args.lines.now c.requires.are_objects.keys_are c.requires.are_objects.short))

pub returns-in-None : goal.returns-in-None
returns-in-None c =
    services-counted c.args.lines.now c.args.self.now.objects c.requires.are_objects c.args.host.now None
    (sym (c.in-None.ensures c.args.lines.now c.requires.are_objects.keys_are c.requires.are_objects.short))

pub returns-in-Some : goal.returns-in-Some
returns-in-Some c =
    ap length c.services.ensures
    ∙ services-counted c.args.lines.now c.args.self.now.objects c.requires.are_objects c.args.host.now (Some c.in-Some.place)
    (sym (c.in-Some.ensures c.args.lines.now c.requires.are_objects.keys_are c.requires.are_objects.short))
