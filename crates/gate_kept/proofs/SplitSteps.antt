-- A packet that is split off.
use Rattle.std.proofs.Common.{◌≡◌, ℕ, suc, ◌+◌, List, [], ◌∷◌, ◌++◌, length, length-append, take, drop, true, Option, Some, None, IfSome, MatchOption, refl, sym, ap, ◌∙◌, arith}
use Rattle.std.proofs.lemmas.List.{take-append-drop}
use Rattle.gate_kept.specs.Kept.{begins_packet, IsBlock}

-- what holds of each value that there may be
pub if_some : {X : Type 0} (P : Type 0) (Q R : X → Type 0) (o : Option X) → MatchOption o P Q → ((x : X) → Q x → R x) → IfSome o R
if_some P Q R None m f = tt
if_some P Q R (Some x) m f = f x m

begins_again : (count : ℕ) (bytes : List ℕ) → begins_packet (take (suc count) bytes) ≡ begins_packet bytes
begins_again count [] = refl
begins_again count (byte ∷ bytes) = refl

joined : (bytes front rest : List ℕ) → front ≡ take 4304 bytes → rest ≡ drop 4304 bytes → bytes ≡ front ++ rest
joined bytes front rest is other =
    sym (take-append-drop 4304 bytes) ∙ ap (λ l. l ++ drop 4304 bytes) (sym is) ∙ ap (λ l. front ++ l) (sym other)

front_long : (bytes front rest : List ℕ) → bytes ≡ front ++ rest → length rest + 4304 ≡ length bytes → length front ≡ 4304
front_long bytes front rest whole long = omega (arith, long, ap length whole, length-append front rest)

pub split_off : (bytes front rest : List ℕ) → begins_packet bytes ≡ true → front ≡ take 4304 bytes → rest ≡ drop 4304 bytes
    → length rest + 4304 ≡ length bytes → (bytes ≡ front ++ rest) × IsBlock front
split_off bytes front rest begins is other long = let whole = joined bytes front rest is other in (
  whole,
  record { begins = ap begins_packet is ∙ begins_again 4303 bytes ∙ begins; whole = front_long bytes front rest whole long },
)
