use Rattle.std.proofs.Common.{rules}
use Rattle.gate_grammar.proofs.Starts.{starts_after, on_err}
use Rattle.gate_grammar.proofs.canonical.push_arguments.Goals as goal

pub returns-in_err-push_argument : goal.returns-in_err-push_argument
returns-in_err-push_argument c = record {
  ok = search rules;
  err = on_err _ _ (starts_after _ _ _ c.in_err-push_argument.ensures.err c.loop-argument.invariant.starts);
}
