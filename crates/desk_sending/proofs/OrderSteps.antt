-- A line that spells a command.
use Rattle.std.proofs.Common.{◌≡◌, ℕ, List, subst}
use Rattle.gate_grammar.specs.declared.commands.Command.{Command}
use Rattle.gate_grammar.specs.Canonical.{canonical_line}
use Rattle.gate_grammar.specs.Spelling.{Spells}
use Rattle.gate_grammar.specs.RoundTrip.{SpellsOneAtMost}
use Rattle.operator_lines.proofs.SendingSteps.{unbroken}
use Rattle.desk_sending.specs.Orders.{IsOneLine}

-- it is one line, and spells no other
pub one_line : (line : List ℕ) (command : Command) → line ≡ canonical_line command → Spells line command → SpellsOneAtMost
    → IsOneLine command
one_line line command is spelled once =
    let spells : Spells (canonical_line command) command = subst (λ (text : List ℕ). Spells text command) is spelled in
    record {
      no_break = unbroken (canonical_line command) spells.clean;
      alone = record {
        spells = spells;
        alone = λ other spelled_other. once (canonical_line command) other command spelled_other spells;
      };
    }
