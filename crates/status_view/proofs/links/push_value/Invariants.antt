use Rattle.std.proofs.Common.{◌≡◌, ◌++◌, string_bytes}
use Rattle.form_urlencoded.specs.Form.{byte_serialize}
use Rattle.form_urlencoded.specs.Serialize.{serialized_text}
use Rattle.status_view.proofs.links.push_value.Given as goal

abbrev pub invariant-loop-piece : goal.invariant-loop-piece
invariant-loop-piece l =
    string_bytes l.link ++ serialized_text l.piece-iterator ≡ string_bytes l.fn.link ++ byte_serialize l.text
