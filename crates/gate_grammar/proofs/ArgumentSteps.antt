-- One turn of the loop that reads arguments.
use Rattle.std.proofs.Common.{◌≡◌, ℕ, suc, ◌+◌, ◌<◌, ◌≤◌, List, [], ◌∷◌, ◌++◌, length, drop, get_or, Result, Ok, Err, refl, sym, ap, ◌∙◌, arith, append_assoc, append-nil, add-one}
use Rattle.std.proofs.Math.Seq.{drop-cons}
use Rattle.std.proofs.lemmas.List.{drop_all}
use Rattle.gate_grammar.specs.declared.arguments.ArgumentKind.{ArgumentKind}
use Rattle.gate_grammar.specs.declared.faults.LineFault.{LineFault}
use Rattle.gate_grammar.specs.declared.faults.LineFault.TheVariants as fault
use Rattle.gate_grammar.specs.Arguments.{ArgumentValue}
use Rattle.gate_grammar.specs.Parsing.{◌>>=◌, values_at, value_at, argument_text, argument_rest}

-- what is read, after the values that were read before
abbrev pub read_after : List ArgumentValue → Result (List ArgumentValue) LineFault → Result (List ArgumentValue) LineFault
read_after front read = read >>= λ values. Ok (front ++ values)

read_after_one : (front : List ArgumentValue) (value : ArgumentValue) (read : Result (List ArgumentValue) LineFault) → read_after front (read >>= λ values. Ok (value ∷ values)) ≡ read_after (front ++ value ∷ []) read
read_after_one front value (Ok values) = ap Ok (sym (append_assoc front (value ∷ []) values))
read_after_one front value (Err fault) = refl

read_after_value : (front : List ArgumentValue) (one : Result ArgumentValue LineFault) (read : Result (List ArgumentValue) LineFault) → read_after front (one >>= λ value. read >>= λ values. Ok (value ∷ values)) ≡ (one >>= λ value. read_after (front ++ value ∷ []) read)
read_after_value front (Ok value) read = read_after_one front value read
read_after_value front (Err fault) read = refl

-- one argument more
values_step : (front : List ArgumentValue) (number : ℕ) (kinds : List ArgumentKind) (i : ℕ) (d : ArgumentKind) (rest : List ℕ) → i < length kinds → 0 < length rest → read_after front (values_at number (drop i kinds) rest) ≡ (value_at (get_or kinds i d) number (argument_text (drop (i + 1) kinds) (drop 1 rest)) >>= λ value. read_after (front ++ value ∷ []) (values_at (number + 1) (drop (i + 1) kinds) (argument_rest (drop (i + 1) kinds) (drop 1 rest))))
unfolding values_at
values_step front number kinds i d [] at some = absurd (omega arith)
values_step front number kinds i d (byte ∷ text) at some =
    rw (drop-cons kinds i d at, add-one i) (read_after_value front (value_at (get_or kinds i d) number (argument_text (drop (suc i) kinds) text)) (values_at (number + 1) (drop (suc i) kinds) (argument_rest (drop (suc i) kinds) text)))

pub values_missing : (front : List ArgumentValue) (number : ℕ) (kinds : List ArgumentKind) (i : ℕ) (d : ArgumentKind) (rest : List ℕ) → i < length kinds → length rest ≡ 0 → read_after front (values_at number (drop i kinds) rest) ≡ Err (fault.MissingArgument number)
unfolding values_at
values_missing front number kinds i d [] at none = rw (drop-cons kinds i d at) refl
values_missing front number kinds i d (byte ∷ text) at none = absurd (omega arith)

pub values_end : (front : List ArgumentValue) (number : ℕ) (kinds : List ArgumentKind) (i : ℕ) (rest : List ℕ) → length kinds ≤ i → length rest ≡ 0 → read_after front (values_at number (drop i kinds) rest) ≡ Ok front
unfolding values_at
values_end front number kinds i [] at none = rw (drop_all i kinds at) (ap Ok (append-nil front))
values_end front number kinds i (byte ∷ text) at none = absurd (omega arith)

pub values_extra : (front : List ArgumentValue) (number : ℕ) (kinds : List ArgumentKind) (i : ℕ) (rest : List ℕ) → length kinds ≤ i → 0 < length rest → read_after front (values_at number (drop i kinds) rest) ≡ Err fault.ExtraArgument
unfolding values_at
values_extra front number kinds i [] at some = absurd (omega arith)
values_extra front number kinds i (byte ∷ text) at some = rw (drop_all i kinds at) refl

pub values_fault : (front : List ArgumentValue) (number : ℕ) (kinds : List ArgumentKind) (i : ℕ) (d : ArgumentKind) (rest text : List ℕ) (cause : LineFault) → i < length kinds → 0 < length rest → text ≡ argument_text (drop (i + 1) kinds) (drop 1 rest) → value_at (get_or kinds i d) number text ≡ Err cause → read_after front (values_at number (drop i kinds) rest) ≡ Err cause
values_fault front number kinds i d rest text cause at some is faulty =
    values_step front number kinds i d rest at some ∙ rw (← is, faulty) refl

pub values_good : (front : List ArgumentValue) (number : ℕ) (kinds : List ArgumentKind) (i : ℕ) (d : ArgumentKind) (rest text after : List ℕ) (value : ArgumentValue) → i < length kinds → 0 < length rest → text ≡ argument_text (drop (i + 1) kinds) (drop 1 rest) → after ≡ argument_rest (drop (i + 1) kinds) (drop 1 rest) → value_at (get_or kinds i d) number text ≡ Ok value → read_after (front ++ value ∷ []) (values_at (number + 1) (drop (i + 1) kinds) after) ≡ read_after front (values_at number (drop i kinds) rest)
values_good front number kinds i d rest text after value at some is left good =
    sym (values_step front number kinds i d rest at some ∙ rw (← is, ← left, good) refl)
