use Rattle.gate_ports.proofs.Lines.{no_end, long_ends, long_goes_on}
use Rattle.gate_ports.proofs.held.Held.end_line.Goals as goal

pub returns-in_ok-add_whole-in-Some-clause-kept : goal.returns-in_ok-add_whole-in-Some-clause-kept
returns-in_ok-add_whole-in-Some-clause-kept c =
    let found = c.in-Some.ensures in
    let old = c.args.self.now in
    let new = c.add_whole.new.self in
    let more = c.in_ok-add_whole-in-Some.ensures in
    long_ends old.whole new.whole old.bytes.items new.bytes.items c.args.bytes.now c.after.result.now c.in-Some.end (old.line c.requires.role).0 c.requires.full
    found.0.high found.0.before found.1 c.after.ensures more.bytes more.whole

pub returns-in-None-clause-kept : goal.returns-in-None-clause-kept
returns-in-None-clause-kept c =
    long_goes_on c.args.self.now.whole c.args.self.now.bytes.items c.args.bytes.now (c.args.self.now.line c.requires.role).0 c.requires.full
    (no_end c.args.bytes.now c.in-None.ensures)
