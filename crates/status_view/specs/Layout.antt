-- The parts of a page: `Piece`. Before its texts are there, a slot stands for each. Beside it the words for lists of parts.
use Rattle.std.specs.Prelude.{ℕ, Bool, if◌then◌else◌, List, []}
use Rattle.std.specs.List.{flat_map, enumerate_from}
use Rattle.status_view.specs.declared.layout.Slot.{Slot}
use Rattle.status_view.specs.declared.layout.Node.{Node}
use Rattle.status_view.specs.declared.layout.Node.TheVariants as node

-- a part of a page: markup, a number, or a text, given by its bytes or by its slot
pub data Piece (T : Type 0) : Type 0 where
  Markup : List ℕ → Piece T
  Number : ℕ → Piece T
  Text : T → Piece T

-- a part before its text is there
abbrev pub NodeView : Type 0
NodeView = Piece Slot

-- the value of a part
abbrev pub node_view : Node → NodeView
node_view (node.Markup markup) = Markup markup.now
node_view (node.Number number) = Number number
node_view (node.Slot slot) = Text slot

-- these parts where the condition holds, and none where it doesn't
abbrev pub nodes_if : Bool → List NodeView → List NodeView
nodes_if condition nodes = if condition then nodes else []

-- the parts of each item in turn; an item's parts depend on its index, from 0
abbrev pub each_indexed : {X : Type 0} → (ℕ → X → List NodeView) → List X → List NodeView
each_indexed nodes items = flat_map (λ item. nodes item.0 item.1) (enumerate_from 0 items)
