use Rattle.gate_grammar.proofs.FaultIsFirst.{fault_is_first}
use Rattle.gate_grammar.proofs.ReadLaws.{spelled_alone, faultless_spells, spelled_faultless}
use Rattle.gate_grammar.proofs.Tables.{command_again, made}
use Rattle.gate_grammar.proofs.WriteLaws.{written_spells}
use Rattle.gate_grammar.proofs.canonical.round_trip.Goals as goal

pub returns-clause-bodies_are_made : goal.returns-clause-bodies_are_made
returns-clause-bodies_are_made c = λ body. ((command_again body).body, (command_again body).kinds)

pub returns-clause-made_by_one_command : goal.returns-clause-made_by_one_command
returns-clause-made_by_one_command c = λ name values of_kinds. ((made name values of_kinds).same_name, (made name values of_kinds).same_values)

pub returns-clause-written_is_read : goal.returns-clause-written_is_read
returns-clause-written_is_read c = written_spells

pub returns-clause-one_at_most : goal.returns-clause-one_at_most
returns-clause-one_at_most c = spelled_alone

pub returns-clause-unless_faulty : goal.returns-clause-unless_faulty
returns-clause-unless_faulty c = faultless_spells

pub returns-clause-faultless : goal.returns-clause-faultless
returns-clause-faultless c = spelled_faultless

pub returns-clause-fault_is_first : goal.returns-clause-fault_is_first
returns-clause-fault_is_first c = fault_is_first
