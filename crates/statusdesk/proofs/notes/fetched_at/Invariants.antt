use Rattle.std.proofs.Common.{◌≡◌, drop}
use Rattle.statusdesk.specs.Notes.{fetched_at}
use Rattle.statusdesk.proofs.notes.fetched_at.Given as goal

abbrev pub invariant-loop-one : goal.invariant-loop-one
invariant-loop-one l = fetched_at l.name (drop l.one-index l.seen) ≡ fetched_at l.name l.seen
