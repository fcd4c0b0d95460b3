-- Only proofs and private functions use this: the table of the progress of a worker's connections.
use Rattle.std.specs.Prelude.{◌≡◌, ℕ, List, [], ◌∷◌, get_or, Bool, true, false, if◌then◌else◌}
use Rattle.gate_reader.specs.declared.report.SessionLimits.{SessionLimits}
use Rattle.gate_worker.specs.Work.{ServedPiece, left_after, counted_after, counted_connections}
use Rattle.gate_worker.specs.declared.progress.Progress.{Progress}
use Rattle.gate_worker.specs.declared.progress.ProgressTable.{ProgressTable}

-- so much is left of the limits of a connection, which is counted or not
abbrev pub progress : SessionLimits → Bool → Progress
progress left is_counted = record { left = left; is_counted = is_counted }

-- a connection with these limits, of which nothing was served
abbrev pub whole : SessionLimits → Progress
whole session = progress session false

-- what the entries are for the connection at this place
abbrev pub progress_at : SessionLimits → List Progress → ℕ → Progress
progress_at session entries place = get_or entries place (whole session)

-- what they are for it before this piece of it
abbrev pub progress_before : SessionLimits → List Progress → Bool → ℕ → Progress
progress_before session entries is_first place =
    if is_first then whole session else progress_at session entries place

-- and after the piece, which left this, and of which something was queued or not
abbrev pub progress_after : Progress → SessionLimits → Bool → Progress
progress_after before left queued = progress left (if before.is_counted then true else queued)

-- the table says of each connection what it said before
pub record IsAsBefore (old new : ProgressTable) : Type 0 where
  pub session : new.session ≡ old.session
  pub counted : new.counted ≡ old.counted
  pub entries : (place : ℕ) → progress_at new.session new.entries.items place
      ≡ progress_at old.session old.entries.items place

-- what is left at each place after these pieces
abbrev pub left_after_all : (ℕ → SessionLimits) → List ServedPiece → ℕ → SessionLimits
left_after_all left [] place = left place
left_after_all left (piece ∷ pieces) place = left_after_all (left_after left piece) pieces place

-- which connections are counted after these pieces
abbrev pub counted_after_all : (ℕ → Bool) → List ServedPiece → ℕ → Bool
counted_after_all counted [] place = counted place
counted_after_all counted (piece ∷ pieces) place = counted_after_all (counted_after counted piece) pieces place

-- the table agrees with the pieces that were served: what is left of the limits of each connection, whether it is
-- counted, and how many are
pub record AgreesWith (session : SessionLimits) (table : ProgressTable) (pieces : List ServedPiece) : Type 0 where
  pub session_is : table.session ≡ session
  pub entries_are : (place : ℕ) → progress_at table.session table.entries.items place
      ≡ progress (left_after_all (λ other. session) pieces place) (counted_after_all (λ other. false) pieces place)
  pub counted_is : table.counted ≡ counted_connections (λ other. false) pieces
