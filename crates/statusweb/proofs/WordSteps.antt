-- Values that were given, or their defaults, and what they set.
use Rattle.std.proofs.Common.{◌≡◌, ◌<◌, ◌==◌, true, false, ℕ, List, [], ◌∷◌, length, Option, Some, None, Result, Ok, Err, unwrap_or, Bor, ◌⊎◌, inl, inr, ap, sym, subst, ◌∙◌, arith}
use Rattle.std.proofs.lemmas.Bool.{eqb-true, true≢false}
use Rattle.std.proofs.lemmas.List.{nil_from_length}
use Rattle.clap.specs.Walk.{texts}
use Rattle.clap.specs.Words.{IsAmong, Kinds, Row, Text, kind_of}
use Rattle.clap.specs.declared.error.Error.{Error}
use Rattle.clap.specs.declared.error.kind.ErrorKind.{ErrorKind}
use Rattle.statusweb.specs.declared.words.BadValue.{BadValue}
use Rattle.statusweb.specs.declared.words.WordsFault.{WordsFault}
use Rattle.statusweb.specs.declared.words.WordsFault.TheVariants.{Refused, Bad, OutOfMemory}
use Rattle.statusweb.specs.Words.{gateways_of}

pub given : {A : Type 0} {value : A} {found : Option A} (default : A) → Some value ≡ found
    → value ≡ unwrap_or found default
given default is = ap (λ found. unwrap_or found default) is

pub not_given : {A : Type 0} {found : Option A} (default : A) → None ≡ found → default ≡ unwrap_or found default
not_given default is = ap (λ found. unwrap_or found default) is

pub nothing_given : (values : List (Bor (List ℕ))) (found : List Row) → texts values ≡ gateways_of found
    → (length values == 0) ≡ true → gateways_of found ≡ []
nothing_given values found same none = sym same ∙ ap texts (nil_from_length values (eqb-true (length values) 0 none))

pub some_given : (values : List (Bor (List ℕ))) (found : List Row) → texts values ≡ gateways_of found
    → (length values == 0) ≡ false → 0 < length (gateways_of found)
some_given [] found same some = absurd (true≢false some)
some_given (value ∷ values) found same some =
    let more : 0 < length (texts (value ∷ values)) = omega arith in
    subst (λ (given : List Text). 0 < length given) same more

-- the value of a fault that is this one
pub same_value : {T : Type 0} (known value : BadValue) → ◌≡◌ {A = Result T WordsFault} (Err (Bad known)) (Err (Bad value))
    → known ≡ value
same_value known value same =
    ap (λ result. elim result [
      | Ok other ↦ known
      | Err fault ↦ elim fault [ Refused error ↦ known | Bad found ↦ found | OutOfMemory ↦ known ]
    ]) same

-- what clap refuses, but where memory ran out
pub is_among : {T : Type 0} (kinds : Kinds) (error other : Error) (fault : WordsFault) (memory : ErrorKind)
    → ((known : Error) → fault ≡ Refused known → (error ≡ known) × (kind_of error ≡ memory → ⊥))
    → ◌≡◌ {A = Result T WordsFault} (Err fault) (Err (Refused other))
    → (kind_of error ≡ memory) ⊎ IsAmong (kind_of error) kinds → IsAmong (kind_of other) kinds
is_among kinds error other fault memory refused same has =
    let known = refused other (ap (λ result. elim result [ Ok value ↦ fault | Err found ↦ found ]) same) in
    subst (λ (error : Error). IsAmong (kind_of error) kinds) known.0
    (elim has [ inl is ↦ absurd (known.1 is) | inr among ↦ among ])
