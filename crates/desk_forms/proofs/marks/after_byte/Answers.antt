use Rattle.std.proofs.Common.{◌+◌, length, drop, arith, sym, ap, ◌∙◌}
use Rattle.std.proofs.lemmas.Bool.{false_from_ne_true}
use Rattle.std.proofs.lemmas.List.{drop_all, take_rest}
use Rattle.std.proofs.lemmas.List.Sums.{position_or_len_is}
use Rattle.desk_forms.proofs.marks.after_byte.Goals as goal

pub returns-in-Some : goal.returns-in-Some
returns-in-Some c =
    let text = c.args.text.now in
    let found = c.in-Some.ensures in
    let at = position_or_len_is _ text c.in-Some.index 0 (omega (arith, found.0.high)) (λ k low. false_from_ne_true _ (found.0.before k (omega arith) low)) (λ low. found.1) in
    take_rest text (c.in-Some.index + 1) ∙ ap (λ index. drop (index + 1) text) (sym at)

pub returns-in-None : goal.returns-in-None
returns-in-None c =
    let text = c.args.text.now in
    let at = position_or_len_is _ text (length text) 0 (omega arith) (λ k low. false_from_ne_true _ (c.in-None.ensures k (omega arith) low)) (λ low. absurd (omega arith)) in
    sym (ap (λ index. drop (index + 1) text) at ∙ drop_all (length text + 1) text (omega arith))
