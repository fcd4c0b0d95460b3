-- Why a client's submission or close is refused, and what the client then knows of the close. Own rules.
use Rattle.std.specs.Prelude.{◌≡◌, Option, Some, None, IfSome}
use Rattle.gate_model.specs.declared.record.Moment.{Moment}
use Rattle.gate_model.specs.declared.submission.Body.{Body}
use Rattle.gate_core.specs.declared.submit.Refused.{Refused}
use Rattle.gate_core.specs.declared.submit.Refused.TheVariants.{Closing, Spent, Full}
use Rattle.gate_core.specs.declared.submit.CloseFault.{CloseFault}
use Rattle.gate_core.specs.declared.submit.CloseFault.TheVariants.{AlreadyClosing, OutOfMemory}

-- the body is returned; a client that is refused with Closing then knows the first close, and any other knows of none
abbrev pub Refuses : Refused → Body → Option Moment → Option Moment → Type 0
Refuses (Closing first returned) body knew knows =
    (returned ≡ body) × (knows ≡ Some first) × IfSome knew (λ known. known ≡ first)
Refuses (Spent returned) body knew knows = (returned ≡ body) × (knew ≡ None) × (knows ≡ None)
Refuses (Full returned) body knew knows = (returned ≡ body) × (knew ≡ None) × (knows ≡ None)

-- a client that wasn't first then knows the first close; one whose close ran out of memory knows of none
abbrev pub RefusesClose : CloseFault → Option Moment → Option Moment → Type 0
RefusesClose (AlreadyClosing first) knew knows = (knows ≡ Some first) × IfSome knew (λ known. known ≡ first)
RefusesClose OutOfMemory knew knows = (knew ≡ None) × (knows ≡ None)
