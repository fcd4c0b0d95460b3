-- What is read of a reader up to a limit.
use Rattle.std.proofs.Common.{◌≡◌, ℕ, List, [], ◌++◌, take, Option, Some, None, IfSome, sym, ap, ◌∙◌}
use Rattle.std.specs.declared.io.traits.Take.{Take}
use Rattle.std.specs.Option.{option_map}
use Rattle.std.specs.Io.Take.{take_limit, take_inner, take_remaining}

front : (limit most : ℕ) (known : Option (List ℕ)) (old got : List ℕ) → limit ≡ most → old ≡ []
    → IfSome (option_map (take limit) known) (λ bytes. got ≡ old ++ bytes) → IfSome known (λ bytes. got ≡ take most bytes)
front limit most None old got same none is = is
front limit most (Some bytes) old got same none is =
    is ∙ ap (λ start. start ++ take limit bytes) none ∙ ap (λ count. take count bytes) same

pub known_front : {R : Type 0} (remaining : R → Option (List ℕ)) (reader : R) (taken : Take R) (most : ℕ) (old got : List ℕ) → take_limit taken ≡ most
    → take_inner taken ≡ reader → old ≡ [] → IfSome (take_remaining remaining taken) (λ bytes. got ≡ old ++ bytes)
    → IfSome (remaining reader) (λ bytes. got ≡ take most bytes)
known_front remaining reader taken most old got same inner none is =
    rw (sym inner) (front (take_limit taken) most (remaining (take_inner taken)) old got same none is)
