use Rattle.std.proofs.Common.{◌≡◌, ◌++◌, drop, map}
use Rattle.status_merge.specs.Entries.{origin_of}
use Rattle.status_merge.proofs.entries.origins_of.Given as goal

abbrev pub invariant-loop-entry : goal.invariant-loop-entry
invariant-loop-entry g l = l.origins.items ++ map origin_of (drop l.entry-index l.entries) ≡ map origin_of l.entries
