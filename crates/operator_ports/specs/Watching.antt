-- What is read of a gateway's pages, one after another, until one shows a command's effect: `IsWatched`. Own rules.
use Rattle.std.specs.Prelude.{◌≡◌, ◌≢◌, ◌⊎◌, ℕ, ◌-◌, ◌^◌, List, [], ◌∷◌, ◌++◌, length, Option, Some, None}
use Rattle.std.specs.List.{AllByRecursion}
use Rattle.gate_model.specs.declared.submission.Body.{Body}
use Rattle.gate_model.specs.declared.submission.Body.TheVariants.{Shutdown}
use Rattle.status_reading.specs.Rows.{PageView}
use Rattle.status_reading.specs.Page.{page_text}
use Rattle.status_reading.specs.Readable.{IsReadable}
use Rattle.status_reading.specs.RowFaults.{IsSound}
use Rattle.page_changes.specs.declared.effects.Effect.{Effect}
use Rattle.page_changes.specs.Effects.{effect_of}
use Rattle.operator_ports.specs.declared.next.Next.{Next}
use Rattle.operator_ports.specs.declared.next.Next.TheVariants.{Page, Gone, Over}

-- the text is a page that shows the command, where this page was before it, and this effect
abbrev pub ShowsIn : Body → PageView → List ℕ → Effect → Type 0
ShowsIn body before text effect =
    (after : PageView) × IsSound after × (text ≡ page_text after) × (effect_of body before after ≡ Some effect)

-- the text is no page that a gateway writes, or one that doesn't show the command
abbrev pub ShowsNoneIn : Body → PageView → List ℕ → Type 0
ShowsNoneIn body before text =
    (after : PageView) → IsReadable after → IsSound after → text ≡ page_text after → effect_of body before after ≡ None

-- what was read shows the command and this effect; a gateway that was shut down may show no page
abbrev pub Shows : Body → PageView → Next → Effect → Type 0
Shows body before (Page text) effect = ShowsIn body before text.items effect
Shows body before Gone effect = (body ≡ Shutdown) × (effect ≡ record { state = None; made = None })
Shows body before Over effect = ⊥

-- what was read doesn't show the command, and the time isn't over
abbrev pub ShowsNone : Body → PageView → Next → Type 0
ShowsNone body before (Page text) = ShowsNoneIn body before text.items
ShowsNone body before Gone = body ≢ Shutdown
ShowsNone body before Over = ⊥

-- what was read last shows this effect, or it is that the time is over
abbrev pub EndsAt : Body → PageView → Option Effect → Next → Type 0
EndsAt body before (Some effect) next = Shows body before next effect
EndsAt body before None next = next ≡ Over

-- what was read last shows this effect, or is that the time is over, and nothing before it shows the command
pub record IsEnded (body : Body) (before : PageView) (reads : List Next) (seen : Option Effect) : Type 0 where
  pub passed : List Next
  pub last : Next
  pub whole : reads ≡ passed ++ last ∷ []
  pub none : AllByRecursion (ShowsNone body before) passed
  pub ends : EndsAt body before seen last

-- the pages were read to the first that shows the command, with this effect, or until the time is over, and then there is
-- none; nobody reads more than 2^64 - 1 of them
abbrev pub IsWatched : Body → PageView → List Next → Option Effect → Type 0
IsWatched body before reads seen =
    IsEnded body before reads seen
    ⊎ ((seen ≡ None) × AllByRecursion (ShowsNone body before) reads × (length reads ≡ 2 ^ 64 - 1))
