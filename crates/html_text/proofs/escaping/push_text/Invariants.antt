use Rattle.std.proofs.Common.{◌≡◌, ◌++◌, drop}
use Rattle.html_text.specs.Escaping.{html_text}
use Rattle.html_text.proofs.escaping.push_text.Given as goal

abbrev pub invariant-loop-byte : goal.invariant-loop-byte
invariant-loop-byte l = l.out.items ++ html_text (drop l.byte-index l.text) ≡ l.fn.out.items ++ html_text l.text
