use Rattle.std.proofs.Common.{◌∙◌}
use Rattle.gate_boards.proofs.Clocked.{goes_shown}
use Rattle.gate_boards.proofs.starting.fn.start_applier.run.Goals as goal

pub returns : goal.returns
returns g c =
    let kept = c.run_applier.ensures in (
      record { of_gate = kept.gate; none_in = kept.ended ∙ c.requires.none_in; applied = kept.applied },
      kept.same,
      λ are. goes_shown _ _ c.captures.applier c.run_applier.result.1 kept.same kept.clock are,
    )
