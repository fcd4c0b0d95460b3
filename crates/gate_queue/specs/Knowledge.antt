-- What is known of a gate's close. Own rules.
use Rattle.std.specs.Prelude.{◌≡◌, ℕ, Option, Some, None, IfSome}
use Rattle.gate_model.specs.declared.record.Moment.{Moment}

-- of which close cell it is known, and the moment of the close, once that is known
pub record CloseKnowledge : Type 0 where
  pub cell : ℕ
  pub known_close : Option Moment

abbrev pub close_knowledge : ℕ → Option Moment → CloseKnowledge
close_knowledge cell known_close = record { cell = cell; known_close = known_close }

-- a close that was known stays known
abbrev pub StaysKnown : Option Moment → Option Moment → Type 0
StaysKnown old new = IfSome old (λ known. new ≡ Some known)

-- a part that learns what another knows, knows afterwards what either knew; if both knew of the close, they knew the
-- same moment
abbrev pub Learns : Option Moment → Option Moment → Option Moment → Type 0
Learns None old new = new ≡ old
Learns (Some learned) None new = new ≡ Some learned
Learns (Some learned) (Some known) new = (known ≡ learned) × (new ≡ Some learned)

-- the new knowledge is the old one, after it learned what the other knows of the same cell
abbrev pub LearnsFrom : CloseKnowledge → CloseKnowledge → CloseKnowledge → Type 0
LearnsFrom other old new = (new.cell ≡ old.cell) × Learns other.known_close old.known_close new.known_close
