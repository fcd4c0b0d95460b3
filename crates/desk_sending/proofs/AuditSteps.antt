-- A line of the audit log has no LF.
use Rattle.std.proofs.Common.{◌≡◌, ℕ, ◌<◌, ◌^◌, ◌==◌, false, List, ◌∷◌, ◌++◌, arith}
use Rattle.std.specs.Fmt.{decimal}
use Rattle.gate_grammar.specs.Spelling.{holds}
use Rattle.gate_grammar.proofs.Numerals.{decimal_digits, none_in_digits, digit_isnt}
use Rattle.gate_model.specs.Escaping.{escaped}
use Rattle.status_reading.proofs.CutSteps.{none_together}
use Rattle.status_reading.proofs.BoardFields.{text_in_line}
use Rattle.desk_sending.specs.Audit.{audit_text}

number_clean : (number : ℕ) → number < 2 ^ 64 → holds 10 (decimal number) ≡ false
number_clean number small =
    none_in_digits (λ byte. byte == 10) (λ byte low high. digit_isnt 10 byte low high (λ e. omega arith)) (decimal number)
    (decimal_digits number small)

-- a field more
field_more : (front text : List ℕ) → holds 10 front ≡ false → holds 10 (front ++ 9 ∷ escaped text) ≡ false
field_more front text clean = none_together 10 front (9 ∷ escaped text) clean (text_in_line text)

pub audit_clean : (moment : ℕ) (user gateway line answer : List ℕ) → moment < 2 ^ 64
    → holds 10 (audit_text moment user gateway line answer) ≡ false
audit_clean moment user gateway line answer small =
    let one = decimal moment in
    let two = one ++ 9 ∷ escaped user in
    let three = two ++ 9 ∷ escaped gateway in
    let four = three ++ 9 ∷ escaped line in
    field_more four answer (field_more three line (field_more two gateway (field_more one user (number_clean moment small))))
