use Rattle.std.proofs.Common.{◌≡◌, ℕ, ◌+◌, List, length, map, subst, ◌∙◌, arith, Bor}
use Rattle.std.proofs.lemmas.List.{length-map}
use Rattle.gate_grammar.specs.declared.commands.Command.{Command}
use Rattle.gate_streams.specs.Sink.{Delivers}
use Rattle.gate_kept.specs.Written.{IsWritten}
use Rattle.operator_restoring.proofs.RestoredSteps.{status_same}
use Rattle.operator_restoring.proofs.restore_word.print_kept.Goals as goal

pub returns-clause-printed : goal.returns-clause-printed
returns-clause-printed g c =
    let text = c.in_ok-written.written.text.items in
    let refused = c.in_ok-written.written.left.items in
    let left : List Command = map (λ (one : Bor Command). one.now) refused in
    let counted : length left ≡ length refused = length-map refused (λ (one : Bor Command). one.now) in
    record {
      text = text;
      left = left;
      written = subst (λ (commands : List Command). IsWritten commands text left)
          (c.as_slice-3.ensures.value ∙ c.in_ok-commands.ensures) c.in_ok-written.ensures;
      printed = subst (λ (bytes : List ℕ). Delivers (g.W.Sink.state c.args.output.now) (g.W.Sink.state c.print-4.new.output) bytes)
          c.as_slice-6.ensures.value c.in_ok-print-4.ensures.ok;
      status_is = c.status_of-status.ensures.status
          ∙ status_same c.saturating_add.result (c.args.prospect.named + length left)
          (λ none. omega (arith, none, c.saturating_add.ensures, c.len.ensures, counted))
          (λ none. omega (arith, none, c.saturating_add.ensures, c.len.ensures, counted));
    }
