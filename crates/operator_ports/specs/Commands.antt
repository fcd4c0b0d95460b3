-- When a command is entered: `entered_at` (External Command List, the time in brackets).
use Rattle.gate_model.specs.declared.record.Moment.{Moment}
use Rattle.gate_model.specs.declared.submission.Body.{Body}
use Rattle.gate_grammar.specs.declared.commands.Command.{Command}

-- a command that is entered at this moment
abbrev pub entered_at : Moment → Body → Command
entered_at moment body = record { entered = moment; body = body }
