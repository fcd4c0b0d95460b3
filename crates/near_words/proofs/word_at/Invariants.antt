use Rattle.std.proofs.Common.{◌≡◌, drop, map}
use Rattle.near_words.specs.Near.{word_at}
use Rattle.near_words.proofs.word_at.Given as goal

abbrev pub invariant-loop-word : goal.invariant-loop-word
invariant-loop-word l =
    word_at l.edits l.text (map (λ word. word.now) (drop l.word-index l.words))
    ≡ word_at l.edits l.text (map (λ word. word.now) l.words)
