use Rattle.std.proofs.Common.{◌≡◌, ◌≤◌, ◌+◌, ◌*◌, drop}
use Rattle.gate_turns.specs.Pages.{kept}
use Rattle.gate_turns.proofs.pages.kept.Given as goal

abbrev pub invariant-loop-place : goal.invariant-loop-place
invariant-loop-place l =
    (l.sum + kept (drop l.place l.peers) ≡ kept l.peers) × (l.sum ≤ 18446744073709551615 * l.place)
