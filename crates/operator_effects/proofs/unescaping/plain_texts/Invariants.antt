use Rattle.std.proofs.Common.{◌≡◌, ◌++◌, drop, map}
use Rattle.status_reading.specs.Plain.{plain_bytes}
use Rattle.operator_effects.proofs.unescaping.plain_texts.Given as goal

abbrev pub invariant-loop-text : goal.invariant-loop-text
invariant-loop-text l = l.list.items ++ map plain_bytes (drop l.text-index l.texts) ≡ map plain_bytes l.texts
