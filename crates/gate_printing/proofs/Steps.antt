-- What is printed piece by piece.
use Rattle.std.proofs.Common.{◌≡◌, ℕ, ◌+◌, ◌<◌, List, ◌∷◌, ◌++◌, length, map, get_or, drop, None, Result, Ok, Err, refl, sym, ap, ◌∙◌, subst, append_assoc}
use Rattle.std.specs.Prelude.{OnOk}
use Rattle.std.specs.List.{position}
use Rattle.std.specs.Io.KnownBytes.{Appends}
use Rattle.std.proofs.lemmas.Grind.{flat_map-append}
use Rattle.std.proofs.lemmas.List.{at_drop_more}
use Rattle.gate_model.specs.Escaping.{is_escaped, escaped, escaped_byte}
use Rattle.gate_model.proofs.EscapeSteps.{rest-escaped}
use Rattle.gate_grammar.specs.declared.arguments.Argument.{Argument}
use Rattle.gate_grammar.specs.Canonical.{shown}
use Rattle.gate_grammar.specs.Spelling.{joined}
use Rattle.gate_grammar.specs.inner.Values.{value_of}
use Rattle.gate_streams.specs.Source.{Counts, CountsCall}
use Rattle.gate_streams.specs.Sink.{SinkState, Writes}
use Rattle.gate_streams.proofs.Calls.{counts_fail}
use Rattle.gate_streams.proofs.Outputs.{writes_on, fails_then}
use Rattle.gate_printing.specs.inner.Printed.{Prints, fields_text}

-- ---- calls

-- bytes that a call wrote
pub put_wrote : (a b : SinkState) (x : List ℕ) → Appends a.written b.written x → Counts a.tally b.tally 1 0 → Writes a b x
put_wrote a b x bytes count = record { appended = bytes; none_failed = counts_fail a.tally b.tally 1 0 count }

-- a piece after what was written
pub prints_on : {X E : Type 0} (a b c : SinkState) (x y whole : List ℕ) (r : Result X E)
    → Writes a b x → Prints b c r y → x ++ y ≡ whole → Prints a c r whole
prints_on a b c x y whole (Ok v) p q is = record { ok = subst (Writes a c) is (writes_on a b c x y p q.ok); err = tt }
prints_on a b c x y whole (Err e) p q is = record { ok = tt; err = fails_then a.tally b.tally c.tally 1 p.none_failed q.err }

-- one call is a piece
pub put_prints : {X E : Type 0} (a b : SinkState) (x : List ℕ) (r : Result X E)
    → OnOk r (Appends a.written b.written x) → CountsCall a.tally b.tally r → Prints a b r x
put_prints a b x (Ok v) bytes count = record { ok = put_wrote a b x bytes count; err = tt }
put_prints a b x (Err e) bytes count = record { ok = tt; err = counts_fail a.tally b.tally 1 1 count }

-- ---- texts

-- a text without a byte that has an escape stays
pub last_run : (done rest whole : List ℕ) → position is_escaped rest ≡ None → done ++ escaped rest ≡ whole → done ++ rest ≡ whole
last_run done rest whole none same = rest-escaped {E = Unit {0}} (Ok tt) done (done ++ rest) rest whole none refl same

pub escaped-append : (xs ys : List ℕ) → escaped (xs ++ ys) ≡ escaped xs ++ escaped ys
escaped-append xs ys = flat_map-append escaped_byte xs ys

-- one more argument
pub argument-more : (done : List ℕ) (arguments : List Argument) (whole : List ℕ) (index : ℕ) (other : Argument) → index < length arguments
    → done ++ fields_text (map value_of (drop index arguments)) ≡ whole
    → (done ++ escaped (59 ∷ shown (value_of (get_or arguments index other)))) ++ fields_text (map value_of (drop (index + 1) arguments)) ≡ whole
argument-more done arguments whole index other less same =
    append_assoc done (escaped (59 ∷ shown (value_of (get_or arguments index other)))) (fields_text (map value_of (drop (index + 1) arguments)))
    ∙ ap (λ text. done ++ text) (sym (escaped-append (59 ∷ shown (value_of (get_or arguments index other))) (joined (map shown (map value_of (drop (index + 1) arguments))))))
    ∙ ap (λ text. done ++ text) (sym (at_drop_more (λ (l : List Argument). fields_text (map value_of l)) arguments index other less))
    ∙ same
