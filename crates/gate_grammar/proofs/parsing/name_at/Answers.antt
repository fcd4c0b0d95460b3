use Rattle.gate_grammar.proofs.Tables.{name_parts}
use Rattle.gate_grammar.proofs.parsing.name_at.Goals as goal

pub returns : goal.returns
returns c = rw (c.or-2.ensures, c.or.ensures, c.name_among.ensures, c.name_among-2.ensures, c.name_among-3.ensures, c.commands_on.ensures, c.commands_on-2.ensures) (name_parts c.args.text.now)
