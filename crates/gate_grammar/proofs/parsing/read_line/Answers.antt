use Rattle.gate_grammar.proofs.FaultLaws.{answer_refused}
use Rattle.gate_grammar.proofs.ReadLaws.{answer_spells, answer_alone}
use Rattle.gate_grammar.proofs.WriteLaws.{answer_writable}
use Rattle.gate_grammar.proofs.parsing.read_line.Goals as goal

pub returns-clause-found : goal.returns-clause-found
returns-clause-found c = answer_spells c.answer.result c.args.line.now c.answer.ensures

pub returns-clause-writable : goal.returns-clause-writable
returns-clause-writable c = answer_writable c.answer.result c.args.line.now (answer_spells c.answer.result c.args.line.now c.answer.ensures)

pub returns-clause-only : goal.returns-clause-only
returns-clause-only c = answer_alone c.answer.result c.args.line.now c.answer.ensures

pub returns-clause-refused : goal.returns-clause-refused
returns-clause-refused c = answer_refused c.answer.result c.args.line.now c.answer.ensures
