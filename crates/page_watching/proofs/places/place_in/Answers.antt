use Rattle.std.proofs.Common.{ℕ, List, subst, sym, ◌∙◌}
use Rattle.std.specs.Net.Grammar.{IsSocketText}
use Rattle.page_watching.proofs.PlaceSteps.{empty_name, some_name}
use Rattle.page_watching.proofs.places.place_in.Goals as goal

pub returns-then-is_empty : goal.returns-then-is_empty
returns-then-is_empty c = λ place names.
    empty_name c.parts_of.result.0.now c.args.value.now c.parts_of.ensures.name (sym c.is_empty.ensures ∙ c.if-is_empty.true) names.2

pub returns-in-Some : goal.returns-in-Some
returns-in-Some c = (
  c.parts_of.ensures.name,
  subst (λ (text : List ℕ). IsSocketText text c.in-Some.address) c.parts_of.ensures.address c.in-Some.ensures,
  some_name c.parts_of.result.0.now c.args.value.now c.parts_of.ensures.name (sym c.is_empty.ensures ∙ c.if-is_empty.false),
)

pub returns-in-None : goal.returns-in-None
returns-in-None c = λ place names. c.in-None.ensures place.address (rw c.parts_of.ensures.address names.1)
