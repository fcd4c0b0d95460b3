use Rattle.gate_replay.specs.laws.Endings.{ended_client}
use Rattle.gate_replay.proofs.ending.end_client.Goals as goal

pub returns-clause-ended : goal.returns-clause-ended
returns-clause-ended c = λ run h active.
    ended_client c.args.world.now c.play-ending.new.self c.play-joining.new.self c.args.client c.play-ending.result c.play-joining.result run c.play-ending.ensures.limits c.play-ending.ensures.stands c.play-joining.ensures.stands h active
