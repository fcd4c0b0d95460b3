-- Only private functions use this: a worker, and what becomes of the connections whose pieces it served.
use Rattle.std.specs.Prelude.{◌≡◌, ℕ, List, map, Bool, Option}
use Rattle.gate_model.specs.declared.record.Moment.{Moment}
use Rattle.gate_environment.specs.declared.connections.PieceEnd.{PieceEnd}
use Rattle.gate_environment.specs.Parting.{parting_all}
use Rattle.gate_queue.specs.Client.{ClientState}
use Rattle.gate_reader.specs.declared.report.Report.{Report}
use Rattle.gate_worker.specs.declared.limits.WorkerLimits.{WorkerLimits}
use Rattle.gate_worker.specs.declared.worker.Cause.{Cause}
use Rattle.gate_worker.specs.Work.{ServedPiece, has_queued, IsWork}
use Rattle.gate_worker.specs.inner.Serving.{end_of_piece}

-- what becomes of the connection of a piece that was served, by its report
abbrev pub end_after : ServedPiece → PieceEnd
end_after piece = end_of_piece piece.report.stop (has_queued piece.report.answers)

-- a worker did this, and gave back each piece with the end that its report calls for
pub record GivesBack (is_operator : Bool) (limits : WorkerLimits) (shows : Moment → Type 0)
    (streams : Option (List (List ℕ))) (begun : ClientState) (reports : List Report) (ended : ClientState)
    (cause : Cause) (before after : Option (List PieceEnd)) : Type 0 where
  pub work : IsWork is_operator limits shows streams begun reports ended cause
  pub parted : after ≡ parting_all (map end_after work.serves.pieces) before
