use Rattle.std.proofs.Common.{◌≡◌, None, Some, map, sym, ap, ◌∙◌}
use Rattle.std.specs.Map.{values_of}
use Rattle.std.specs.Prelude.{slice_get}
use Rattle.gate_model.specs.declared.object.Kind.TheVariants.{Service}
use Rattle.gate_model.specs.Table.{object_at, place_of, services_by}
use Rattle.gate_table.specs.inner.NamedObjects.{row_of}
use Rattle.gate_table.proofs.ServicePlaces.{object-within, services-places, known-host}
use Rattle.gate_table.proofs.table.ObjectTable.service_places.Goals as goal

pub services-requires : goal.services-requires
services-requires c =
    let lines = c.self.inside.lines.items in
    object-within lines c.self.inside.objects c.self.invariant.are_objects c.bytes.result.now c.in-Some-find.host
    (sym (c.in-Some-find.ensures lines c.self.invariant.are_objects.keys_are c.self.invariant.are_objects.short))

pub returns-in-None-find : goal.returns-in-None-find
returns-in-None-find c =
    let lines = c.self.inside.lines.items in
    let none : place_of lines c.in-Some.line.now.host None ≡ None =
    sym (c.in-None-find.ensures lines c.self.invariant.are_objects.keys_are c.self.invariant.are_objects.short ∙ ap (λ h. place_of lines h None) c.bytes.ensures) in
    absurd (known-host lines c.args.place c.in-Some.line.now c.self.invariant.faultless (ap (λ table. slice_get table c.args.place) c.self.view_is ∙ sym c.in-Some.ensures) none)

pub returns-in-Some-find : goal.returns-in-Some-find
returns-in-Some-find c =
    let lines = c.self.inside.lines.items in
    let line = c.in-Some.line.now in
    let known : place_of lines line.host None ≡ Some c.in-Some-find.host =
    sym (c.in-Some-find.ensures lines c.self.invariant.are_objects.keys_are c.self.invariant.are_objects.short ∙ ap (λ h. place_of lines h None) c.bytes.ensures) in
    record {
      services =
          ap (map (object_at Service)) (c.services.ensures ∙ ap (row_of (values_of c.self.inside.objects)) (sym known) ∙ c.self.invariant.are_objects.services_are line.host)
          ∙ services-places line.host 0 lines
          ∙ ap (services_by lines) c.in-Some.ensures
          ∙ ap (λ table. services_by table (slice_get c.args.self.now c.args.place)) c.self.view_is;
    }
