use Rattle.std.proofs.Common.{◌≡◌, ℕ, List, [], ◌∷◌, ◌++◌, None, length, ap, ◌∙◌}
use Rattle.std.specs.Map.{keys_of}
use Rattle.std.specs.List.{position_from}
use Rattle.std.specs.Str.{bytes_eq}
use Rattle.gate_table.specs.inner.NamedObjects.{shown}
use Rattle.gate_table.proofs.IndexSteps.{place_of-new, entries-new}
use Rattle.gate_table.proofs.named_objects.NamedObjects.add.Goals as goal

pub returns-clause-place : goal.returns-clause-place
returns-clause-place c =
    let entries = c.self.inside.services.entries in
    let owned = c.in_ok-owned.owned in
    let absent : position_from (bytes_eq owned.items) 0 (keys_of (shown entries)) ≡ None =
    ap (λ (bytes : List ℕ). position_from (bytes_eq bytes) 0 (keys_of (shown entries))) c.in_ok-owned.ensures.items
    ∙ ap (λ (objects : List (List ℕ × List ℕ)). position_from (bytes_eq c.args.key.now) 0 (keys_of objects)) c.self.view_is ∙ c.requires in
    c.in_ok-place.ensures.index ∙ place_of-new entries owned absent ∙ ap length c.self.view_is

pub returns-clause-added : goal.returns-clause-added
returns-clause-added c =
    let entries = c.self.inside.services.entries in
    let owned = c.in_ok-owned.owned in
    let absent : position_from (bytes_eq owned.items) 0 (keys_of (shown entries)) ≡ None =
    ap (λ (bytes : List ℕ). position_from (bytes_eq bytes) 0 (keys_of (shown entries))) c.in_ok-owned.ensures.items
    ∙ ap (λ (objects : List (List ℕ × List ℕ)). position_from (bytes_eq c.args.key.now) 0 (keys_of objects)) c.self.view_is ∙ c.requires in
    ap shown c.in_ok-place.ensures.entries
    ∙ entries-new c.self.inside.services owned c.new.result absent
    ∙ ap (λ (before : List (List ℕ × List ℕ)). before ++ (owned.items, c.new.result.items) ∷ []) c.self.view_is
    ∙ ap (λ (bytes : List ℕ). c.args.self.now ++ (bytes, c.new.result.items) ∷ []) c.in_ok-owned.ensures.items
    ∙ ap (λ (row : List ℕ). c.args.self.now ++ (c.args.key.now, row) ∷ []) c.new.ensures.items
