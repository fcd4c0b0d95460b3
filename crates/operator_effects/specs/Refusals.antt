-- The first command that a gateway would refuse, by its page, and how: `first_refusal`.
use Rattle.std.specs.Prelude.{Bool, true, false, not, List, find, Option, option_map}
use Rattle.gate_model.specs.declared.record.Outcome.{Outcome}
use Rattle.gate_model.specs.declared.record.Outcome.TheVariants.{Accepted}
use Rattle.gate_grammar.specs.declared.commands.Command.{Command}
use Rattle.status_reading.specs.Rows.{PageView}
use Rattle.page_changes.specs.Foreseen.{outcome_on}

abbrev pub is_accepted : Outcome → Bool
is_accepted Accepted = true
is_accepted other = false

-- a page shows that the command would be refused
abbrev pub is_refused : PageView → Command → Bool
is_refused page command = not (is_accepted (outcome_on page command.body))

-- the first of these commands, with its outcome
abbrev pub first_refusal : PageView → List Command → Option (Command × Outcome)
first_refusal page commands =
    option_map (λ (command : Command). (command, outcome_on page command.body)) (find (is_refused page) commands)
