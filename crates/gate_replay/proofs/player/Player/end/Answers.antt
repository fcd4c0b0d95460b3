use Rattle.gate_replay.proofs.player.Player.end.Goals as goal

pub returns-clause-ended : goal.returns-clause-ended
returns-clause-ended g c = record { rest = c.end-ended.result; after = c.end-ended.ensures.after; limits_are = c.end-ended.ensures.limits }
