-- That a gateway accepts commands but maybe acknowledgements, where it applies all at one moment: `AcceptsOthers`; and
-- which pages show acknowledgements of problems alone, as a gateway's do: `AcknowledgesProblems`.
use Rattle.std.specs.Prelude.{◌≡◌, Bool, true, false, List, ◌∷◌, ◌++◌}
use Rattle.std.specs.List.{AllByRecursion}
use Rattle.gate_model.specs.declared.record.Moment.{Moment}
use Rattle.gate_model.specs.declared.object.ObjectLine.{ObjectLine}
use Rattle.gate_model.specs.declared.submission.Body.{Body}
use Rattle.gate_model.specs.declared.submission.Body.TheVariants.{Acknowledge}
use Rattle.gate_model.specs.Record.{is_accepted}
use Rattle.gate_model.specs.State.{is_problem}
use Rattle.gate_model.specs.Meaning.{outcome_after}
use Rattle.status_reading.specs.declared.page.StatusPage.{StatusPage}
use Rattle.status_reading.specs.declared.rows.ShownObject.{ShownObject}
use Rattle.status_reading.specs.declared.rows.ShownAcknowledgement.{ShownAcknowledgement}
use Rattle.status_reading.specs.declared.rows.ShownAcknowledgement.TheVariants.{Missing, Normal, Sticky}
use Rattle.restore_plan.specs.Rehearsal.{records_from}

abbrev pub is_acknowledgement : Body → Bool
is_acknowledgement (Acknowledge host service sticky notify persistent author text) = true
is_acknowledgement _ = false

-- after these commands a gateway over these objects accepts this one
abbrev pub accepts_after : List ObjectLine → Moment → List Body → Body → Bool
accepts_after fresh now before body = is_accepted (outcome_after fresh (records_from now 1 before) now body)

-- it accepts each of these commands after those before it, but maybe acknowledgements
abbrev pub AcceptsOthers : List ObjectLine → Moment → List Body → Type 0
AcceptsOthers fresh now commands =
    (before : List Body) (body : Body) (after : List Body) → commands ≡ before ++ body ∷ after
    → is_acknowledgement body ≡ false → accepts_after fresh now before body ≡ true

-- the row's object is acknowledged
abbrev pub is_acknowledged : ShownAcknowledgement → Bool
is_acknowledged Missing = false
is_acknowledged Normal = true
is_acknowledged Sticky = true

-- each object of the page that is acknowledged has a problem
abbrev pub AcknowledgesProblems : StatusPage → Type 0
AcknowledgesProblems page = AllByRecursion
    (λ (row : ShownObject). is_acknowledged row.acknowledgement ≡ true → is_problem row.state ≡ true) page.objects.items
