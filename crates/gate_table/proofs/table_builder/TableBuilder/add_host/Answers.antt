use Rattle.std.proofs.Common.{◌≡◌, List, ℕ, take, ap, sym, ◌∙◌, is_some, None, true, refl}
use Rattle.gate_table.specs.inner.Keys.{key_of, is_short}
use Rattle.gate_model.specs.Table.{place_of}
use Rattle.gate_model.specs.declared.object.ObjectLine.{ObjectLine}
use Rattle.gate_model.proofs.Lists.{none_from_is_some}
use Rattle.gate_table.proofs.BuilderSteps.{IsHostLine, host_line, place-key, duplicate_host, too_many_hosts, faultless_host, tracks_host}
use Rattle.gate_table.proofs.table_builder.TableBuilder.add_host.Goals as goal

pub returns-then-is_some : goal.returns-then-is_some
returns-then-is_some c =
    let line = c.index-lines-i.result in
    let is : IsHostLine c.args.lines.now c.args.i line = host_line c.args.lines.now c.args.i c.index-lines-i.result c.requires.within c.index-lines-i.is c.requires.host in
    let name = c.bytes.ensures ∙ ap (λ (l : ObjectLine). l.host) (sym c.index-lines-i.is) in
    let key = c.deref.ensures.0 ∙ c.in-Some.ensures.value ∙ ap (λ (h : List ℕ). key_of h None) name in
    let short = ap (λ (h : List ℕ). is_short h None) (sym name) ∙ sym c.in-Some.ensures.short in
    let place = c.place.ensures ∙ place-key c.args.lines.now c.args.i c.index-lines-i.result c.args.self.now c.requires.tracks None c.deref.result.now short key in
    let taken : is_some (place_of (take c.args.i c.args.lines.now) line.host None) ≡ true = sym (ap is_some place) ∙ sym c.is_some.ensures ∙ c.if-is_some.true in
    duplicate_host c.args.lines.now c.args.i c.index-lines-i.result c.args.self.now c.requires.tracks is taken

pub returns-then-self-ge-HOSTS : goal.returns-then-self-ge-HOSTS
returns-then-self-ge-HOSTS c =
    let line = c.index-lines-i.result in
    let is : IsHostLine c.args.lines.now c.args.i line = host_line c.args.lines.now c.args.i c.index-lines-i.result c.requires.within c.index-lines-i.is c.requires.host in
    let name = c.bytes.ensures ∙ ap (λ (l : ObjectLine). l.host) (sym c.index-lines-i.is) in
    let key = c.deref.ensures.0 ∙ c.in-Some.ensures.value ∙ ap (λ (h : List ℕ). key_of h None) name in
    let short = ap (λ (h : List ℕ). is_short h None) (sym name) ∙ sym c.in-Some.ensures.short in
    let place = c.place.ensures ∙ place-key c.args.lines.now c.args.i c.index-lines-i.result c.args.self.now c.requires.tracks None c.deref.result.now short key in
    let free : place_of (take c.args.i c.args.lines.now) line.host None ≡ None = none_from_is_some _ (sym (ap is_some place) ∙ sym c.is_some.ensures ∙ c.if-is_some.false) in
    too_many_hosts c.args.lines.now c.args.i c.index-lines-i.result c.args.self.now c.requires.tracks is free c.if-self-ge-HOSTS.true

pub returns-in-Ok : goal.returns-in-Ok
returns-in-Ok c =
    let line = c.index-lines-i.result in
    let is : IsHostLine c.args.lines.now c.args.i line = host_line c.args.lines.now c.args.i c.index-lines-i.result c.requires.within c.index-lines-i.is c.requires.host in
    let name = c.bytes.ensures ∙ ap (λ (l : ObjectLine). l.host) (sym c.index-lines-i.is) in
    let key = c.deref.ensures.0 ∙ c.in-Some.ensures.value ∙ ap (λ (h : List ℕ). key_of h None) name in
    let short = ap (λ (h : List ℕ). is_short h None) (sym name) ∙ sym c.in-Some.ensures.short in
    let place = c.place.ensures ∙ place-key c.args.lines.now c.args.i c.index-lines-i.result c.args.self.now c.requires.tracks None c.deref.result.now short key in
    let free : place_of (take c.args.i c.args.lines.now) line.host None ≡ None = none_from_is_some _ (sym (ap is_some place) ∙ sym c.is_some.ensures ∙ c.if-is_some.false) in
    record {
      faultless = faultless_host c.args.lines.now c.args.i c.index-lines-i.result c.args.self.now c.requires.tracks is free c.if-self-ge-HOSTS.false;
      tracks = tracks_host c.args.lines.now c.args.i c.index-lines-i.result c.args.self.now c.requires.tracks c.deref-2.result.now _ is (c.deref-2.ensures.0 ∙ c.in-Some.ensures.value ∙ ap (λ (h : List ℕ). key_of h None) name) c.in-Ok.ensures.added refl;
    }

pub returns-in-Err : goal.returns-in-Err
returns-in-Err c =
    let line = c.index-lines-i.result in
    let is : IsHostLine c.args.lines.now c.args.i line = host_line c.args.lines.now c.args.i c.index-lines-i.result c.requires.within c.index-lines-i.is c.requires.host in
    let name = c.bytes.ensures ∙ ap (λ (l : ObjectLine). l.host) (sym c.index-lines-i.is) in
    let key = c.deref.ensures.0 ∙ c.in-Some.ensures.value ∙ ap (λ (h : List ℕ). key_of h None) name in
    let short = ap (λ (h : List ℕ). is_short h None) (sym name) ∙ sym c.in-Some.ensures.short in
    let place = c.place.ensures ∙ place-key c.args.lines.now c.args.i c.index-lines-i.result c.args.self.now c.requires.tracks None c.deref.result.now short key in
    let free : place_of (take c.args.i c.args.lines.now) line.host None ≡ None = none_from_is_some _ (sym (ap is_some place) ∙ sym c.is_some.ensures ∙ c.if-is_some.false) in
    faultless_host c.args.lines.now c.args.i c.index-lines-i.result c.args.self.now c.requires.tracks is free c.if-self-ge-HOSTS.false
