-- Texts that references hold.
use Rattle.std.proofs.Common.{◌≡◌, ℕ, ◌+◌, Bool, true, false, not, cond, if◌then◌else◌, ◌||◌, List, [], ◌∷◌, ◌++◌, Bor, refl, ap, ◌∙◌}
use Rattle.std.specs.List.{list_any, position_or_len}
use Rattle.std.specs.Str.{bytes_eq}
use Rattle.std.proofs.lemmas.List.{map-append}
use Rattle.indexmap.specs.IndexSet.{insert_key}
use Rattle.log_summary.specs.inner.Groups.{hosts_in}

-- whether two references hold the same text
abbrev pub same_text : Bor (List ℕ) → Bor (List ℕ) → Bool
same_text one other = bytes_eq one.now other.now

pub any_read : (host : Bor (List ℕ)) (hosts : List (Bor (List ℕ))) → list_any (same_text host) hosts ≡ list_any (bytes_eq host.now) (hosts_in hosts)
any_read host [] = refl
any_read host (one ∷ hosts) = ap (λ (b : Bool). bytes_eq host.now one.now || b) (any_read host hosts)

pub place_read : (host : Bor (List ℕ)) (hosts : List (Bor (List ℕ)))
    → position_or_len (same_text host) hosts ≡ position_or_len (bytes_eq host.now) (hosts_in hosts)
place_read host [] = refl
place_read host (one ∷ hosts) = ap (λ (n : ℕ). cond (not (bytes_eq host.now one.now)) (1 + n) 0) (place_read host hosts)

chosen : (host : Bor (List ℕ)) (hosts : List (Bor (List ℕ))) (b : Bool)
    → hosts_in (if b then hosts else hosts ++ host ∷ []) ≡ (if b then hosts_in hosts else hosts_in hosts ++ host.now ∷ [])
chosen host hosts true = refl
chosen host hosts false = map-append (λ (one : Bor (List ℕ)). one.now) hosts (host ∷ [])

pub added_read : (host : Bor (List ℕ)) (hosts : List (Bor (List ℕ)))
    → hosts_in (insert_key same_text hosts host) ≡ insert_key bytes_eq (hosts_in hosts) host.now
added_read host hosts =
    chosen host hosts (list_any (same_text host) hosts)
    ∙ ap (λ (b : Bool). if b then hosts_in hosts else hosts_in hosts ++ host.now ∷ []) (any_read host hosts)
