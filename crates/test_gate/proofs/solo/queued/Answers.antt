use Rattle.std.proofs.Common.{◌++◌}
use Rattle.gate_core.specs.LocalClient.{submitted}
use Rattle.test_gate.proofs.solo.queued.Goals as goal

pub returns : goal.returns
returns g c =
    let run = c.requires.begun.0 in
    let turned = c.turn_to-queue.result in (
      submitted (g.D.Submit.named turned) c.body.result c.submit.result ++ run,
      g.met.D.SoloQueue.after_submit turned c.submit.new.self c.body.result c.submit.result run c.submit.ensures.answers (c.turn_to-queue.ensures.after run c.requires.begun.1),
    )
