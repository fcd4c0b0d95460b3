use Rattle.std.proofs.Common.{◌≡◌, ◌++◌, Some, drop, map}
use Rattle.status_reading.specs.Rows.{page_view}
use Rattle.operator_effects.specs.Commands.{deletion}
use Rattle.operator_effects.proofs.commands.deletions.Given as goal

abbrev pub invariant-loop-word : goal.invariant-loop-word
invariant-loop-word l =
    map Some l.bodies.items ++ map (deletion l.deleted (page_view l.page)) (drop l.word-index l.words)
    ≡ map (deletion l.deleted (page_view l.page)) l.words
