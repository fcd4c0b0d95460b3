-- Since when a peer owes what it owes. Own rules.
use Rattle.std.specs.Prelude.{ℕ, Bool, true, false, ◌||◌, if◌then◌else◌, Option, Some, None}
use Rattle.gate_environment.specs.declared.connections.PieceEnd.{PieceEnd}
use Rattle.gate_environment.specs.declared.connections.PieceEnd.TheVariants.{GoesOn, Over}
use Rattle.gate_turns.specs.declared.standing.Role.{Role}
use Rattle.gate_turns.specs.declared.standing.Role.TheVariants.{Agent, Operator, Reader}
use Rattle.gate_turns.specs.declared.standing.Stage.{Stage}
use Rattle.gate_turns.specs.declared.standing.Stage.TheVariants.{Open, Last, Parting}
use Rattle.gate_turns.specs.declared.standing.Page.{Page}
use Rattle.gate_turns.specs.declared.standing.Standing.{Standing}

-- the bytes that an agent sends give it no more time; what an operator ends, or takes whole, gives it all of its time again
abbrev pub is_renewed : Role → Bool → Bool
is_renewed Agent gone_on = false
is_renewed Operator gone_on = gone_on
is_renewed Reader gone_on = gone_on

abbrev pub since_after : Standing → Bool → ℕ → ℕ
since_after standing gone_on now = if is_renewed standing.role gone_on then now else standing.since

-- something of the piece was queued
abbrev pub has_queued : PieceEnd → Bool
has_queued (GoesOn queued) = queued
has_queued Over = false

-- a piece gives an agent all of its time again where it was greeted in it, or something of it was queued; an operator where
-- it took all of its answers; and a reader, who has its page from then on
abbrev pub is_renewed_by : Role → Bool → PieceEnd → Bool → Bool
is_renewed_by Agent first end sent = first || has_queued end
is_renewed_by Operator first end sent = sent
is_renewed_by Reader first end sent = true

-- after the last piece a peer isn't served any more
abbrev pub stage_after : Stage → PieceEnd → Stage
stage_after stage (GoesOn queued) = stage
stage_after stage Over = Last

-- how a peer stands after a piece
abbrev pub parted : Standing → Bool → PieceEnd → Bool → ℕ → Standing
parted standing first end sent now = record {
  role = standing.role;
  stage = stage_after standing.stage end;
  is_ready = false;
  since = if is_renewed_by standing.role first end sent then now else standing.since;
  order = standing.order;
  address = standing.address;
  page = standing.page;
}

-- how a peer stands once the daemon ends, if it is not let go at once: an operator takes its answers so far, and whoever was
-- served for the last time what is left for it
abbrev pub stopped_as : Stage → Role → Standing → ℕ → Option Standing
stopped_as Open Agent standing now = None
stopped_as Open Reader standing now = None
stopped_as Open Operator standing now = Some (record standing { stage = Last; since = now })
stopped_as Last role standing now = Some (record standing { since = now })
stopped_as Parting role standing now = Some standing

abbrev pub stopped : Standing → ℕ → Option Standing
stopped standing now = stopped_as standing.stage standing.role standing now

-- how a peer stands that has this of its page, where it can, or can't, be served by now: one that was ready keeps its order
abbrev pub settled : Standing → Page → Bool → ℕ → Standing
settled standing page can_begin order = record {
  role = standing.role;
  stage = standing.stage;
  is_ready = can_begin;
  since = standing.since;
  order = if standing.is_ready then standing.order else order;
  address = standing.address;
  page = page;
}
