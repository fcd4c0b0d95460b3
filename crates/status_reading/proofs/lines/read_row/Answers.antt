use Rattle.std.proofs.Common.{sym, ◌∙◌}
use Rattle.std.proofs.lemmas.Bool.{false≢true}
use Rattle.status_reading.proofs.ReadSteps.{word_of, no_word}
use Rattle.status_reading.proofs.lines.read_row.Goals as goal

pub returns-else-is_word-4 : goal.returns-else-is_word-4
returns-else-is_word-4 c =
    λ row readable is.
    let known = word_of row c.args.line.now c.in_ok-word.word.now c.in_ok-word.rest.now c.in_ok-word.ensures.parts.0 c.in_ok-word.ensures.parts.1 is in
    no_word row c.in_ok-word.word.now
    (λ same. false≢true (sym c.if-is_word.false ∙ c.is_word.ensures.1 same))
    (λ same. false≢true (sym c.if-is_word-2.false ∙ c.is_word-else-is_word.ensures.1 same))
    (λ same. false≢true (sym c.if-is_word-3.false ∙ c.is_word-else-is_word-2.ensures.1 same))
    (λ same. false≢true (sym c.if-is_word-4.false ∙ c.is_word-else-is_word-3.ensures.1 same))
    known.0
