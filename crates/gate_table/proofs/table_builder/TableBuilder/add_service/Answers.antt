use Rattle.std.proofs.Common.{◌≡◌, List, ℕ, take, ap, sym, ◌∙◌, is_some, None, Some, true, arith, length, refl}
use Rattle.std.specs.Map.{values_of}
use Rattle.gate_model.specs.declared.object.ObjectLine.{ObjectLine}
use Rattle.gate_table.specs.inner.NamedObjects.{row_at}
use Rattle.gate_table.specs.inner.Keys.{key_of, is_short}
use Rattle.gate_model.specs.Table.{place_of}
use Rattle.gate_model.proofs.Lists.{none_from_is_some}
use Rattle.gate_table.proofs.BuilderSteps.{IsServiceLine, service_line, place-key, duplicate_service, too_many_services, faultless_service, tracks_service}
use Rattle.gate_table.proofs.ServicePlaces.{object-within}
use Rattle.gate_table.proofs.table_builder.TableBuilder.add_service.Goals as goal

pub returns-then-is_some : goal.returns-then-is_some
returns-then-is_some c =
    let line = c.index-lines-i.result in
    let is : IsServiceLine c.args.lines.now c.args.i line c.args.service.now = service_line c.args.lines.now c.args.i c.index-lines-i.result c.args.service.now c.requires.within c.index-lines-i.is c.requires.service in
    let name = c.bytes-host.ensures ∙ ap (λ (l : ObjectLine). l.host) (sym c.index-lines-i.is) in
    let known : place_of (take c.args.i c.args.lines.now) line.host None ≡ Some c.in-Some.place =
    sym (c.in-Some.ensures (take c.args.i c.args.lines.now) c.requires.tracks.are_objects.keys_are c.requires.tracks.are_objects.short ∙ ap (λ (h : List ℕ). place_of (take c.args.i c.args.lines.now) h None) name) in
    let key = c.deref.ensures.0 ∙ c.in-Some-key_of.ensures.value ∙ ap (λ (h : List ℕ). key_of h (Some c.args.service.now)) name in
    let short = ap (λ (h : List ℕ). is_short h (Some c.args.service.now)) (sym name) ∙ sym c.in-Some-key_of.ensures.short in
    let place = c.place.ensures ∙ place-key c.args.lines.now c.args.i c.index-lines-i.result c.args.self.now c.requires.tracks (Some c.args.service.now) c.deref.result.now short key in
    let taken : is_some (place_of (take c.args.i c.args.lines.now) line.host (Some c.args.service.now)) ≡ true = sym (ap is_some place) ∙ sym c.is_some.ensures ∙ c.if-is_some.true in
    duplicate_service c.args.lines.now c.args.i c.index-lines-i.result c.args.self.now c.requires.tracks c.args.service.now c.in-Some.place is known taken

pub services-requires : goal.services-requires
services-requires c =
    let line = c.index-lines-i.result in
    let is : IsServiceLine c.args.lines.now c.args.i line c.args.service.now = service_line c.args.lines.now c.args.i c.index-lines-i.result c.args.service.now c.requires.within c.index-lines-i.is c.requires.service in
    let name = c.bytes-host.ensures ∙ ap (λ (l : ObjectLine). l.host) (sym c.index-lines-i.is) in
    let known : place_of (take c.args.i c.args.lines.now) line.host None ≡ Some c.in-Some.place =
    sym (c.in-Some.ensures (take c.args.i c.args.lines.now) c.requires.tracks.are_objects.keys_are c.requires.tracks.are_objects.short ∙ ap (λ (h : List ℕ). place_of (take c.args.i c.args.lines.now) h None) name) in
    object-within (take c.args.i c.args.lines.now) c.args.self.now.objects c.requires.tracks.are_objects line.host c.in-Some.place known

pub returns-then-services-ge-SERVICES_OF_HOST : goal.returns-then-services-ge-SERVICES_OF_HOST
returns-then-services-ge-SERVICES_OF_HOST c =
    let line = c.index-lines-i.result in
    let is : IsServiceLine c.args.lines.now c.args.i line c.args.service.now = service_line c.args.lines.now c.args.i c.index-lines-i.result c.args.service.now c.requires.within c.index-lines-i.is c.requires.service in
    let name = c.bytes-host.ensures ∙ ap (λ (l : ObjectLine). l.host) (sym c.index-lines-i.is) in
    let known : place_of (take c.args.i c.args.lines.now) line.host None ≡ Some c.in-Some.place =
    sym (c.in-Some.ensures (take c.args.i c.args.lines.now) c.requires.tracks.are_objects.keys_are c.requires.tracks.are_objects.short ∙ ap (λ (h : List ℕ). place_of (take c.args.i c.args.lines.now) h None) name) in
    let key = c.deref.ensures.0 ∙ c.in-Some-key_of.ensures.value ∙ ap (λ (h : List ℕ). key_of h (Some c.args.service.now)) name in
    let short = ap (λ (h : List ℕ). is_short h (Some c.args.service.now)) (sym name) ∙ sym c.in-Some-key_of.ensures.short in
    let place = c.place.ensures ∙ place-key c.args.lines.now c.args.i c.index-lines-i.result c.args.self.now c.requires.tracks (Some c.args.service.now) c.deref.result.now short key in
    let free : place_of (take c.args.i c.args.lines.now) line.host (Some c.args.service.now) ≡ None = none_from_is_some _ (sym (ap is_some place) ∙ sym c.is_some.ensures ∙ c.if-is_some.false) in
    let count : length c.services.result.now ≡ length (row_at (values_of c.args.self.now.objects) c.in-Some.place) = ap length c.services.ensures in
    too_many_services c.args.lines.now c.args.i c.index-lines-i.result c.args.self.now c.requires.tracks c.args.service.now c.in-Some.place is known free (omega (arith, count, c.if-services-ge-SERVICES_OF_HOST.true))

pub add_service-requires-clause-host : goal.add_service-requires-clause-host
add_service-requires-clause-host c =
    let line = c.index-lines-i.result in
    let is : IsServiceLine c.args.lines.now c.args.i line c.args.service.now = service_line c.args.lines.now c.args.i c.index-lines-i.result c.args.service.now c.requires.within c.index-lines-i.is c.requires.service in
    let name = c.bytes-host.ensures ∙ ap (λ (l : ObjectLine). l.host) (sym c.index-lines-i.is) in
    let known : place_of (take c.args.i c.args.lines.now) line.host None ≡ Some c.in-Some.place =
    sym (c.in-Some.ensures (take c.args.i c.args.lines.now) c.requires.tracks.are_objects.keys_are c.requires.tracks.are_objects.short ∙ ap (λ (h : List ℕ). place_of (take c.args.i c.args.lines.now) h None) name) in
    object-within (take c.args.i c.args.lines.now) c.args.self.now.objects c.requires.tracks.are_objects line.host c.in-Some.place known

pub returns-in-Ok : goal.returns-in-Ok
returns-in-Ok c =
    let line = c.index-lines-i.result in
    let is : IsServiceLine c.args.lines.now c.args.i line c.args.service.now = service_line c.args.lines.now c.args.i c.index-lines-i.result c.args.service.now c.requires.within c.index-lines-i.is c.requires.service in
    let name = c.bytes-host.ensures ∙ ap (λ (l : ObjectLine). l.host) (sym c.index-lines-i.is) in
    let known : place_of (take c.args.i c.args.lines.now) line.host None ≡ Some c.in-Some.place =
    sym (c.in-Some.ensures (take c.args.i c.args.lines.now) c.requires.tracks.are_objects.keys_are c.requires.tracks.are_objects.short ∙ ap (λ (h : List ℕ). place_of (take c.args.i c.args.lines.now) h None) name) in
    let key = c.deref.ensures.0 ∙ c.in-Some-key_of.ensures.value ∙ ap (λ (h : List ℕ). key_of h (Some c.args.service.now)) name in
    let short = ap (λ (h : List ℕ). is_short h (Some c.args.service.now)) (sym name) ∙ sym c.in-Some-key_of.ensures.short in
    let place = c.place.ensures ∙ place-key c.args.lines.now c.args.i c.index-lines-i.result c.args.self.now c.requires.tracks (Some c.args.service.now) c.deref.result.now short key in
    let free : place_of (take c.args.i c.args.lines.now) line.host (Some c.args.service.now) ≡ None = none_from_is_some _ (sym (ap is_some place) ∙ sym c.is_some.ensures ∙ c.if-is_some.false) in
    let count : length c.services.result.now ≡ length (row_at (values_of c.args.self.now.objects) c.in-Some.place) = ap length c.services.ensures in
    record {
      faultless = faultless_service c.args.lines.now c.args.i c.index-lines-i.result c.args.self.now c.requires.tracks c.args.service.now c.in-Some.place is known free (omega (arith, count, c.if-services-ge-SERVICES_OF_HOST.false));
      tracks = tracks_service c.args.lines.now c.args.i c.index-lines-i.result c.args.self.now c.requires.tracks c.args.service.now c.deref-2.result.now c.in-Some.place _ is known (c.deref-2.ensures.0 ∙ c.in-Some-key_of.ensures.value ∙ ap (λ (h : List ℕ). key_of h (Some c.args.service.now)) name) c.in-Ok.ensures.keys c.in-Ok.ensures.services refl;
    }

pub returns-in-Err : goal.returns-in-Err
returns-in-Err c =
    let line = c.index-lines-i.result in
    let is : IsServiceLine c.args.lines.now c.args.i line c.args.service.now = service_line c.args.lines.now c.args.i c.index-lines-i.result c.args.service.now c.requires.within c.index-lines-i.is c.requires.service in
    let name = c.bytes-host.ensures ∙ ap (λ (l : ObjectLine). l.host) (sym c.index-lines-i.is) in
    let known : place_of (take c.args.i c.args.lines.now) line.host None ≡ Some c.in-Some.place =
    sym (c.in-Some.ensures (take c.args.i c.args.lines.now) c.requires.tracks.are_objects.keys_are c.requires.tracks.are_objects.short ∙ ap (λ (h : List ℕ). place_of (take c.args.i c.args.lines.now) h None) name) in
    let key = c.deref.ensures.0 ∙ c.in-Some-key_of.ensures.value ∙ ap (λ (h : List ℕ). key_of h (Some c.args.service.now)) name in
    let short = ap (λ (h : List ℕ). is_short h (Some c.args.service.now)) (sym name) ∙ sym c.in-Some-key_of.ensures.short in
    let place = c.place.ensures ∙ place-key c.args.lines.now c.args.i c.index-lines-i.result c.args.self.now c.requires.tracks (Some c.args.service.now) c.deref.result.now short key in
    let free : place_of (take c.args.i c.args.lines.now) line.host (Some c.args.service.now) ≡ None = none_from_is_some _ (sym (ap is_some place) ∙ sym c.is_some.ensures ∙ c.if-is_some.false) in
    let count : length c.services.result.now ≡ length (row_at (values_of c.args.self.now.objects) c.in-Some.place) = ap length c.services.ensures in
    faultless_service c.args.lines.now c.args.i c.index-lines-i.result c.args.self.now c.requires.tracks c.args.service.now c.in-Some.place is known free (omega (arith, count, c.if-services-ge-SERVICES_OF_HOST.false))
