use Rattle.std.proofs.Common.{◌≡◌, ℕ, List, [], ◌∷◌, ◌++◌, set, sym, ap, ◌∙◌, arith}
use Rattle.std.specs.Map.{keys_of, values_of}
use Rattle.std.proofs.lemmas.List.{map-append, length-map, get_or_append_left}
use Rattle.gate_table.specs.inner.NamedObjects.{shown, row_at}
use Rattle.gate_table.proofs.IndexSteps.{keys-listed, rows-listed, row_there}
use Rattle.gate_table.proofs.named_objects.NamedObjects.add_service.Goals as goal

pub returns-clause-keys : goal.returns-clause-keys
returns-clause-keys c =
    keys-listed c.self.inside.services.entries c.args.host c.push.new.self
    ∙ ap keys_of (c.self.view_is ∙ c.in_ok-place.ensures.added)
    ∙ map-append (λ (one : List ℕ × List ℕ). one.0) c.args.self.now ((c.args.key.now, []) ∷ [])

pub returns-clause-services : goal.returns-clause-services
returns-clause-services c =
    let entries = c.self.inside.services.entries in
    let host = c.args.host in
    let old : List (List ℕ) = values_of c.args.self.now in
    let more : values_of (shown entries) ≡ old ++ [] ∷ [] =
    ap values_of (c.self.view_is ∙ c.in_ok-place.ensures.added) ∙ map-append (λ (one : List ℕ × List ℕ). one.1) c.args.self.now ((c.args.key.now, []) ∷ []) in
    let before : c.index_mut.result.now.items ≡ row_at old host =
    sym (row_there entries host c.index_mut.result.now c.index_mut.ensures.value) ∙ ap (λ (rows : List (List ℕ)). row_at rows host) more
    ∙ get_or_append_left old ([] ∷ []) [] host (omega (arith, c.requires.host, length-map c.args.self.now (λ (one : List ℕ × List ℕ). one.1))) in
    rows-listed entries host c.push.new.self
    ∙ ap (λ (rows : List (List ℕ)). set rows host c.push.new.self.items) more
    ∙ ap (set (old ++ [] ∷ []) host)
    (c.in_ok-push.ensures.items
    ∙ ap (λ (row : List ℕ). row ++ c.in_ok-place.place ∷ []) before
    ∙ ap (λ (place : ℕ). row_at old host ++ place ∷ []) c.in_ok-place.ensures.place)
