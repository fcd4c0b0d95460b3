use Rattle.std.proofs.Common.{length, sym, ◌∙◌}
use Rattle.std.proofs.lemmas.Bool.{eqb-true}
use Rattle.gate_ports.proofs.Lines.{added_all}
use Rattle.gate_ports.proofs.held.Held.add_lines.Goals as goal

pub returns-clause-added : goal.returns-clause-added
returns-clause-added c =
    let i = c.loop-rest.invariant in
    let now = c.loop-rest.self in
    let line = now.line (i.role ∙ c.requires) in
    let none = eqb-true (length c.loop-rest.rest.now) 0 (sym c.loop-rest-test.ensures) in
    record {
      kept = added_all c.args.self.now.whole now.whole c.args.self.now.bytes.items now.bytes.items c.args.piece.now c.loop-rest.rest.now none line.0 line.1 i.kept;
      ends = i.ends;
    }
