-- The field that shows a text stands for it where its bytes are UTF-8.
use Rattle.std.proofs.Common.{◌≡◌, ℕ, List, ap, ◌∙◌}
use Rattle.std.specs.Str.{IsUtf8}
use Rattle.std.specs.Str.Lossy.{utf8_lossy}
use Rattle.std.proofs.lemmas.Str.{utf8_lossy-IsUtf8}
use Rattle.gate_model.specs.Escaping.{escaped}
use Rattle.status_reading.proofs.PlainLaws.{plain_escaped}
use Rattle.status_export.specs.Document.{plain_text}

pub plain_utf8 : (text : List ℕ) → IsUtf8 text → plain_text (escaped text) ≡ text
plain_utf8 text utf8 = ap utf8_lossy (plain_escaped text) ∙ utf8_lossy-IsUtf8 text utf8
