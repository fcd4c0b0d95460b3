use Rattle.std.proofs.Common.{◌≡◌, ◌++◌, drop}
use Rattle.clap.specs.Walk.{texts}
use Rattle.operator_words.proofs.found.copied.Given as goal

abbrev pub invariant-loop-word : goal.invariant-loop-word
invariant-loop-word l = l.list.items ++ texts (drop l.word-index l.words) ≡ texts l.fn.words
