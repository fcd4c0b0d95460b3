use Rattle.std.proofs.Common.{◌++◌, [], ℕ, ◌+◌, List, drop, map, sym, ap, subst, ◌∙◌, append_assoc}
use Rattle.std.specs.List.{AllByRecursion, flat_map}
use Rattle.gate_grammar.specs.Canonical.{canonical_line}
use Rattle.gate_grammar.specs.Writability.{IsWritable}
use Rattle.gate_reader.specs.Lines.{CutsLines}
use Rattle.operator_lines.specs.Sending.{sent, SpellsAlone}
use Rattle.operator_lines.proofs.SendingSteps.{left_at, cuts, all_sent, all_read}
use Rattle.operator_lines.proofs.sending.sent_lines.Goals as goal

pub loop-command-preserved : goal.loop-command-preserved
loop-command-preserved c =
    let commands = c.args.commands.now in
    let command = c.command-item.result in
    let next = drop (c.loop-command.command-index + 1) commands in
    let left = left_at commands c.loop-command.command-index command c.loop-command-test.true c.command-item.is in
    let alone : SpellsAlone command = record {
      spells = c.in_ok-push_line.ensures.spells;
      alone = λ other spelled. c.round_trip.ensures.one_at_most (canonical_line command) other command spelled c.in_ok-push_line.ensures.spells;
    } in
    record {
      sent =
          ap (λ out. out ++ flat_map sent next) c.in_ok-push_line.ensures.added
          ∙ append_assoc c.loop-command.out.items (sent command) (flat_map sent next)
          ∙ ap (λ rest. c.loop-command.out.items ++ flat_map sent rest) (sym left)
          ∙ c.loop-command.invariant.sent;
      read = λ rest. c.loop-command.invariant.read (subst (AllByRecursion SpellsAlone) (sym left) (alone, rest));
      writable = λ all. (subst (AllByRecursion IsWritable) left (c.loop-command.invariant.writable all)).1;
    }

pub returns-clause-cut : goal.returns-clause-cut
returns-clause-cut c =
    let commands = c.args.commands.now in
    let all = all_read commands c.loop-command.command-index c.loop-command-test.false c.loop-command.invariant.read in
    let whole = all_sent c.loop-command.out.items commands c.loop-command.command-index c.loop-command-test.false c.loop-command.invariant.sent in
    subst (λ (bytes : List ℕ). CutsLines bytes (map canonical_line commands) []) (sym whole) (cuts commands all)
