use Rattle.gate_worker.proofs.Ended.{collected_all, collected_none, collected_operator}
use Rattle.gate_worker.proofs.workers.run_workers.Goals as goal

pub returns-then-not-start_agents : goal.returns-then-not-start_agents
returns-then-not-start_agents g c =
    let s = c.start_agents.ensures.started in
    record { ends = collected_all _ _ _ _ _ _ s.0 _ _ _ _ _ _ s.1 c.join_agents.ensures.joined (collected_none _ _ _ _ _ _ c.args.workers.collected c.requires.room.none) }

pub returns : goal.returns
returns g c =
    let s = c.start_agents.ensures.started in
    record {
      ends = collected_all _ _ _ _ _ _ s.0 _ _ _ _ _ _ s.1 c.join_agents-2.ensures.joined
          (collected_operator _ _ _ _ _ _ _ _ _ (s.2 c.if-not-start_agents.false) c.run_operator-cause.ensures.ends);
    }
