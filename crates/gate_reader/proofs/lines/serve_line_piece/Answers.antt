use Rattle.std.proofs.Common.{◌+◌, length, sym, subst, ap, ◌∙◌}
use Rattle.gate_reader.specs.Session.{parties}
use Rattle.gate_reader.specs.Lines.{operator_view, lines, Answered}
use Rattle.gate_reader.specs.inner.Progress.{Runs}
use Rattle.gate_reader.proofs.LineCuts.{line_laws}
use Rattle.gate_reader.proofs.Sessions.{front_of_session}
use Rattle.gate_reader.proofs.PieceLimits.{reads_within, piece_of}
use Rattle.gate_reader.proofs.lines.serve_line_piece.Goals as goal

pub less-left-requires-clause-reads : goal.less-left-requires-clause-reads
less-left-requires-clause-reads g c =
    let view = operator_view g.O.Submit g.O.Operator (g.O.Submit.named c.args.operator.now) in
    let source = g.R.Source.state in
    reads_within view.client (lines view c.args.limits.items) c.args.limits
    (parties c.args.operator.now (g.C.Clock.state c.args.clock.now)) (parties c.read_lines-stop.new.operator (g.C.Clock.state c.read_lines-stop.new.clock))
    (source c.args.reader.now) (source c.read_lines-stop.new.reader) c.read_lines-stop.new.answers.items c.read_lines-stop.result.0 c.read_lines-stop.result.1 c.read_lines-stop.ensures.served

pub returns-clause-piece : goal.returns-clause-piece
returns-clause-piece g c =
    let view = operator_view g.O.Submit g.O.Operator (g.O.Submit.named c.args.operator.now) in
    let source = g.R.Source.state in
    let sink = g.W.Sink.state in
    let before = parties c.args.operator.now (g.C.Clock.state c.args.clock.now) in
    let after = parties c.read_lines-stop.new.operator (g.C.Clock.state c.read_lines-stop.new.clock) in
    let kind = lines view c.args.limits.items in
    let stop = c.read_lines-stop.result.0 in
    let reads = c.read_lines-stop.result.1 in
    let runs = subst (λ l. Runs view.client kind c.args.limits before after (source c.args.reader.now) (source c.read_lines-stop.new.reader) l stop reads) (sym c.new.ensures) c.read_lines-stop.ensures.served in
    let same = c.as_slice.ensures ∙ sym c.new.ensures in
    record {
      readings = runs.readings;
      clock = runs.clock;
      served = piece_of view.client kind c.args.limits c.less-left.result before after (source c.args.reader.now) (source c.read_lines-stop.new.reader) c.new.result stop reads runs
          (ap (λ l. c.less-left.result.items + length l) (sym same) ∙ c.less-left.ensures.items) c.less-left.ensures.reads;
      written = subst (λ l. Answered stop l (sink c.args.writer.now) (sink c.read_lines-stop.new.writer)) (sym c.new.ensures) c.read_lines-stop.ensures.written;
    }

pub returns-clause-stream : goal.returns-clause-stream
returns-clause-stream g c =
    let view = operator_view g.O.Submit g.O.Operator (g.O.Submit.named c.args.operator.now) in
    let source = g.R.Source.state in
    let piece = returns-clause-piece g c in
    front_of_session view.client (lines view c.args.limits.items) c.args.limits (line_laws view c.args.limits.items) c.args.operator.now piece.readings c.read_lines-stop.new.operator
    (source c.args.reader.now) (source c.read_lines-stop.new.reader) c.new.result c.read_lines-stop.result.0 piece.served.session
