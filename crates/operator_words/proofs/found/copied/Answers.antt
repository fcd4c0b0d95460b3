use Rattle.std.proofs.Common.{◌+◌, ◌++◌, List, ℕ, [], ◌∷◌, drop, ap, sym, subst, ◌≡◌, ◌∙◌}
use Rattle.clap.specs.Walk.{texts}
use Rattle.operator_words.proofs.FoundSteps.{word_at, left_at, one_more, all_copied}
use Rattle.operator_words.proofs.found.copied.Goals as goal

pub loop-word-preserved : goal.loop-word-preserved
loop-word-preserved c =
    let words = c.args.words.now in
    let rest = texts (drop (c.loop-word.word-index + 1) words) in
    ap (λ copies. copies ++ rest) (c.in_ok-push.ensures.items ∙ ap (λ text. c.loop-word.list.items ++ text ∷ []) (c.in_ok-text.ensures ∙ c.as_bytes.ensures.value))
    ∙ one_more c.loop-word.list.items (word_at words c.loop-word.word-index) rest (texts words)
    (texts (drop c.loop-word.word-index words)) (left_at words c.loop-word.word-index c.loop-word-test.true) c.loop-word.invariant
