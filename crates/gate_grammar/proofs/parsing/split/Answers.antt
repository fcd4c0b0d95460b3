use Rattle.std.proofs.Common.{length, ◌∙◌, sym, ap, take, drop, arith}
use Rattle.std.proofs.lemmas.Bool.{false_from_ne_true}
use Rattle.std.proofs.lemmas.List.Sums.{position_or_len_is}
use Rattle.gate_grammar.proofs.parsing.split.Goals as goal

pub returns-in-Some-clause-before : goal.returns-in-Some-clause-before
returns-in-Some-clause-before c =
    let found = c.in-Some.ensures in
    let at = position_or_len_is _ c.args.text.now c.in-Some.offset 0 (omega arith) (λ k low. false_from_ne_true _ (found.0.before k (omega arith) low)) (λ low. found.1) in
    c.split_at.ensures.front ∙ ap (λ i. take i c.args.text.now) (sym at)

pub returns-in-Some-clause-from : goal.returns-in-Some-clause-from
returns-in-Some-clause-from c =
    let found = c.in-Some.ensures in
    let at = position_or_len_is _ c.args.text.now c.in-Some.offset 0 (omega arith) (λ k low. false_from_ne_true _ (found.0.before k (omega arith) low)) (λ low. found.1) in
    c.split_at.ensures.back ∙ ap (λ i. drop i c.args.text.now) (sym at)

pub returns-in-None-clause-before : goal.returns-in-None-clause-before
returns-in-None-clause-before c =
    let at = position_or_len_is _ c.args.text.now (length c.args.text.now) 0 (omega arith) (λ k low. false_from_ne_true _ (c.in-None.ensures k (omega arith) low)) (λ low. absurd (omega arith)) in
    c.split_at-in-None.ensures.front ∙ ap (λ i. take i c.args.text.now) (sym at)

pub returns-in-None-clause-from : goal.returns-in-None-clause-from
returns-in-None-clause-from c =
    let at = position_or_len_is _ c.args.text.now (length c.args.text.now) 0 (omega arith) (λ k low. false_from_ne_true _ (c.in-None.ensures k (omega arith) low)) (λ low. absurd (omega arith)) in
    c.split_at-in-None.ensures.back ∙ ap (λ i. drop i c.args.text.now) (sym at)
