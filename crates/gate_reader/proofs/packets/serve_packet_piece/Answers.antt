use Rattle.std.proofs.Common.{◌+◌, length, sym, subst, ap, ◌∙◌}
use Rattle.gate_reader.specs.Session.{client_view, parties}
use Rattle.gate_reader.specs.Packets.{packets}
use Rattle.gate_reader.specs.inner.Progress.{Runs}
use Rattle.gate_reader.proofs.Blocks.{packet_laws}
use Rattle.gate_reader.proofs.Sessions.{front_of_session}
use Rattle.gate_reader.proofs.PieceLimits.{reads_within, piece_of}
use Rattle.gate_reader.proofs.packets.serve_packet_piece.Goals as goal

pub less-left-requires-clause-reads : goal.less-left-requires-clause-reads
less-left-requires-clause-reads g c =
    let view = client_view g.S.Submit (g.S.Submit.named c.args.client.now) in
    let source = g.R.Source.state in
    reads_within view (packets view c.args.limits.items c.args.greatest_age) c.args.limits
    (parties c.args.client.now (g.C.Clock.state c.args.clock.now)) (parties c.read_packets-stop.new.client (g.C.Clock.state c.read_packets-stop.new.clock))
    (source c.args.reader.now) (source c.read_packets-stop.new.reader) c.read_packets-stop.new.answers.items c.read_packets-stop.result.0 c.read_packets-stop.result.1 c.read_packets-stop.ensures.served

pub returns-clause-piece : goal.returns-clause-piece
returns-clause-piece g c =
    let view = client_view g.S.Submit (g.S.Submit.named c.args.client.now) in
    let source = g.R.Source.state in
    let before = parties c.args.client.now (g.C.Clock.state c.args.clock.now) in
    let after = parties c.read_packets-stop.new.client (g.C.Clock.state c.read_packets-stop.new.clock) in
    let kind = packets view c.args.limits.items c.args.greatest_age in
    let stop = c.read_packets-stop.result.0 in
    let reads = c.read_packets-stop.result.1 in
    let runs = subst (λ l. Runs view kind c.args.limits before after (source c.args.reader.now) (source c.read_packets-stop.new.reader) l stop reads) (sym c.new.ensures) c.read_packets-stop.ensures.served in
    let same = c.as_slice.ensures ∙ sym c.new.ensures in
    record {
      readings = runs.readings;
      clock = runs.clock;
      served = piece_of view kind c.args.limits c.less-left.result before after (source c.args.reader.now) (source c.read_packets-stop.new.reader) c.new.result stop reads runs
          (ap (λ l. c.less-left.result.items + length l) (sym same) ∙ c.less-left.ensures.items) c.less-left.ensures.reads;
    }

pub returns-clause-stream : goal.returns-clause-stream
returns-clause-stream g c =
    let view = client_view g.S.Submit (g.S.Submit.named c.args.client.now) in
    let source = g.R.Source.state in
    let piece = returns-clause-piece g c in
    front_of_session view (packets view c.args.limits.items c.args.greatest_age) c.args.limits (packet_laws view c.args.limits.items c.args.greatest_age)
    c.args.client.now piece.readings c.read_packets-stop.new.client (source c.args.reader.now) (source c.read_packets-stop.new.reader) c.new.result c.read_packets-stop.result.0 piece.served.session
