-- Worked rows of the meaning of results, computed by the definitions.
use Rattle.std.proofs.Common.{◌≡◌, ℕ, List, [], ◌∷◌, refl}
use Rattle.std.specs.Prelude.{Option, Some, None, ℤ, pos, negsuc, codes}
use Rattle.gate_model.specs.declared.object.ObjectLine.{ObjectLine}
use Rattle.gate_model.specs.declared.submission.Body.{Body}
use Rattle.gate_model.specs.declared.submission.Body.TheVariants.{Result, AddComment, DelAllComments, Acknowledge, RemoveAck, Schedule}
use Rattle.gate_model.specs.declared.record.Record.{Record}
use Rattle.gate_model.specs.declared.record.Outcome.TheVariants.{Accepted, NoSuchHost, NoSuchService}
use Rattle.gate_model.specs.declared.state.State.TheVariants.{Pending, Ok, Warning, Critical, Unknown, Up, Down, Unreachable}
use Rattle.gate_model.specs.Status.{last_result}
use Rattle.gate_model.specs.Meaning.{history_of, object_events, outcomes_of, state_at}

-- at place 0 the host web1, at place 1 its service HTTP
abbrev table : List ObjectLine
table =
    record { host = codes "web1"; service = None; threshold = 300 }
    ∷ record { host = codes "web1"; service = Some (codes "HTTP"); threshold = 300 }
    ∷ []

abbrev record_of : ℕ → Body → Record
record_of moment body = record {
  moment = record { 0 = moment };
  item = record { client = 1; number = 1; body = body };
}

abbrev result : ℕ → List ℕ → Option (List ℕ) → ℤ → Record
result moment host service code = record_of moment (Result host service code [])

abbrev web1 : ℕ → ℤ → Record
web1 moment code = result moment (codes "web1") None code

abbrev http : ℕ → ℤ → Record
http moment code = result moment (codes "web1") (Some (codes "HTTP")) code

-- no result
pub no_result-pending : state_at table [] 1 ≡ Pending
no_result-pending = refl

pub other_result-pending : state_at table (web1 1100 (pos 1) ∷ []) 1 ≡ Pending
other_result-pending = refl

pub outside-pending : state_at table (web1 1100 (pos 1) ∷ []) 2 ≡ Pending
outside-pending = refl

-- a service's codes
pub service-0 : state_at table (http 1100 (pos 0) ∷ []) 1 ≡ Ok
service-0 = refl

pub service-1 : state_at table (http 1100 (pos 1) ∷ []) 1 ≡ Warning
service-1 = refl

pub service-2 : state_at table (http 1100 (pos 2) ∷ []) 1 ≡ Critical
service-2 = refl

pub service-3 : state_at table (http 1100 (pos 3) ∷ []) 1 ≡ Unknown
service-3 = refl

pub service-4 : state_at table (http 1100 (pos 4) ∷ []) 1 ≡ Unknown
service-4 = refl

pub service-minus_1 : state_at table (http 1100 (negsuc 0) ∷ []) 1 ≡ Unknown
service-minus_1 = refl

-- a host's codes
pub host-0 : state_at table (web1 1100 (pos 0) ∷ []) 0 ≡ Up
host-0 = refl

pub host-1 : state_at table (web1 1100 (pos 1) ∷ []) 0 ≡ Down
host-1 = refl

pub host-2 : state_at table (web1 1100 (pos 2) ∷ []) 0 ≡ Unreachable
host-2 = refl

pub host-3 : state_at table (web1 1100 (pos 3) ∷ []) 0 ≡ Down
host-3 = refl

pub host-minus_1 : state_at table (web1 1100 (negsuc 0) ∷ []) 0 ≡ Down
host-minus_1 = refl

-- names that the table doesn't have
abbrev strangers : List Record
strangers =
    result 1100 (codes "db1") None (pos 0)
    ∷ result 1100 (codes "db1") (Some (codes "HTTP")) (pos 0)
    ∷ result 1100 (codes "web1") (Some (codes "FTP")) (pos 0)
    ∷ web1 1100 (pos 0)
    ∷ []

pub strangers-outcomes : outcomes_of table strangers ≡ NoSuchHost ∷ NoSuchHost ∷ NoSuchService ∷ Accepted ∷ []
strangers-outcomes = refl

-- other bodies that name an object: of an unknown host, and of an unknown service
abbrev window : ℕ → ℕ → List ℕ → Option (List ℕ) → Body
window starts ends host service =
    Schedule host service (record { 0 = starts }) (record { 0 = ends }) 1 0 0 (codes "ann") (codes "x")

abbrev unknown : List Record
unknown =
    record_of 1100 (AddComment (codes "db1") None 0 (codes "ann") (codes "x"))
    ∷ record_of 1100 (DelAllComments (codes "db1") (Some (codes "HTTP")))
    ∷ record_of 1100 (Acknowledge (codes "web1") (Some (codes "FTP")) 2 0 0 (codes "ann") (codes "x"))
    ∷ record_of 1100 (RemoveAck (codes "web1") (Some (codes "FTP")))
    ∷ record_of 1100 (window 1200 1300 (codes "db1") None)
    ∷ []

pub unknown-outcomes : outcomes_of table unknown ≡ NoSuchHost ∷ NoSuchHost ∷ NoSuchService ∷ NoSuchService ∷ NoSuchHost ∷ []
unknown-outcomes = refl

-- a refused result between two accepted ones: it counts as a record, and changes no state
abbrev mixed : List Record
mixed = http 1100 (pos 2) ∷ result 1110 (codes "web1") (Some (codes "FTP")) (pos 0) ∷ web1 1120 (pos 0) ∷ []

pub refused-changes_nothing : state_at table mixed 1 ≡ Critical
refused-changes_nothing = refl

pub refused-counts : last_result 0 (object_events table (history_of table mixed)) ≡ Some (record { state = Up; moment = record { 0 = 1120 }; log_index = 2 })
refused-counts = refl

-- two results: the last one counts
pub last-counts : state_at table (http 1100 (pos 2) ∷ http 1110 (pos 1) ∷ []) 1 ≡ Warning
last-counts = refl
