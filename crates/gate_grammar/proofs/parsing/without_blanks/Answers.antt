use Rattle.std.proofs.Common.{◌∙◌, sym, ap, take, arith, ◌-◌, ◌+◌, ◌≡◌, length, get_or}
use Rattle.std.specs.List.{suffix_len}
use Rattle.std.proofs.lemmas.Bool.{not-true, not_from_false, true_from_ne_false}
use Rattle.std.proofs.lemmas.List.Sums.{suffix_len_is}
use Rattle.gate_grammar.specs.Spelling.{is_blank}
use Rattle.gate_grammar.proofs.Cuts.{in_blanks}
use Rattle.gate_grammar.proofs.parsing.without_blanks.Goals as goal

pub returns-in-Some : goal.returns-in-Some
returns-in-Some c =
    let found = c.in-Some.ensures in
    let before : c.in-Some.last + 1 - 1 ≡ c.in-Some.last = omega arith in
    let counted = suffix_len_is is_blank c.args.line.now (c.in-Some.last + 1) 0 (omega (arith, found.0.high)) (λ k low high. true_from_ne_false _ (λ n. found.0.after k (omega arith) high (not_from_false _ (in_blanks _ ∙ n)))) (λ some. ap (λ i. is_blank (get_or c.args.line.now i 0)) before ∙ (sym (in_blanks _) ∙ not-true _ found.1)) in
    let end : c.in-Some.last + 1 ≡ length c.args.line.now - suffix_len is_blank c.args.line.now = omega (arith, found.0.high) in
    ap (λ i. take i c.args.line.now) end

pub returns-in-None : goal.returns-in-None
returns-in-None c =
    let counted = suffix_len_is is_blank c.args.line.now 0 0 (omega arith) (λ k low high. true_from_ne_false _ (λ n. c.in-None.ensures k (omega arith) high (not_from_false _ (in_blanks _ ∙ n)))) (λ some. absurd (omega arith)) in
    let end : 0 ≡ length c.args.line.now - suffix_len is_blank c.args.line.now = omega arith in
    ap (λ i. take i c.args.line.now) end
