-- What contracts see of a notice, and why a gate is not closed. Own rules.
use Rattle.std.specs.Prelude.{◌≡◌, ℕ, Some, None, IfSome}
use Rattle.gate_model.specs.declared.record.Moment.{Moment}
use Rattle.gate_core.specs.declared.submit.CloseFault.{CloseFault}
use Rattle.gate_core.specs.declared.submit.CloseFault.TheVariants.{AlreadyClosing, OutOfMemory}
use Rattle.gate_queue.specs.Knowledge.{CloseKnowledge, close_knowledge}

-- a notice: of which close cell it is, and the moment of the close
pub record NoticeState : Type 0 where
  pub cell : ℕ
  pub moment : Moment

abbrev pub notice_of : ℕ → Moment → NoticeState
notice_of cell moment = record { cell = cell; moment = moment }

-- the closer knows of the first close afterwards; or out of memory, it knew of none and nothing changed
abbrev pub IsCloseFault : CloseFault → CloseKnowledge → CloseKnowledge → Type 0
IsCloseFault (AlreadyClosing first) old new =
    IfSome old.known_close (λ known. known ≡ first) × (new ≡ close_knowledge old.cell (Some first))
IsCloseFault OutOfMemory old new = (old.known_close ≡ None) × (new ≡ old)
