use Rattle.gate_streams.proofs.Outputs.{put_delivered, two_counted}
use Rattle.gate_streams.proofs.sink.put_last.Goals as goal

pub returns-clause-ok : goal.returns-clause-ok
returns-clause-ok g c =
    let state = g.S.Sink.state in
    put_delivered (state c.args.sink.now) (state c.put.new.self) (state c.deliver.new.self) c.args.text.now c.deliver.result
    c.in_ok-put.ensures.bytes c.in_ok-put.ensures.tally c.deliver.ensures.bytes c.deliver.ensures.delivered c.deliver.ensures.tally

pub returns-clause-calls : goal.returns-clause-calls
returns-clause-calls g c =
    let state = g.S.Sink.state in
    two_counted (state c.args.sink.now).tally (state c.put.new.self).tally (state c.deliver.new.self).tally c.deliver.result
    c.in_ok-put.ensures.tally c.deliver.ensures.tally
