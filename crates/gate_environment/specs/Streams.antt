-- What connections send, one after the other, where that is known. None claims nothing. Own rules.
use Rattle.std.specs.Prelude.{◌≡◌, ℕ, List, [], ◌∷◌, ◌++◌, map, Option, Some, None, IfSome, ⊤}

-- the next connection sent the first of these streams, and the others are left; where none came, no stream was left
abbrev pub ComesNext : Option (List (List ℕ)) → Option (Option (List ℕ)) → Option (List (List ℕ)) → Type 0
ComesNext None sent left = ⊤
ComesNext (Some streams) None left = streams ≡ []
ComesNext (Some streams) (Some sent) left =
    (stream : List ℕ) × (others : List (List ℕ))
    × (streams ≡ stream ∷ others) × (sent ≡ Some stream) × (left ≡ Some others)

-- no stream is left
abbrev pub AreSent : Option (List (List ℕ)) → Type 0
AreSent streams = IfSome streams (λ left. left ≡ [])

-- connections one after the other sent the first of these streams, and the others are left
abbrev pub SendFirst : Option (List (List ℕ)) → List (Option (List ℕ)) → Option (List (List ℕ)) → Type 0
SendFirst None sent left = ⊤
SendFirst (Some streams) sent left =
    (others : List (List ℕ)) × (map Some streams ≡ sent ++ map Some others) × (left ≡ Some others)
