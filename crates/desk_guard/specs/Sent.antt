-- The forms that were sent in the last ten minutes (`recent`), and the tests of a form among them (`form_tests`). Own
-- rules: 600 seconds, 131,072 forms, and that a form is known by the SHA-256 digest of its bytes.
use Rattle.std.specs.Prelude.{ℕ, ◌+◌, Bool, not, nat_lt, List, [], ◌∷◌, length, filter}
use Rattle.std.specs.List.{list_any}
use Rattle.std.specs.Str.{bytes_eq}
use Rattle.sha2.specs.Sha256.{sha256}
use Rattle.desk_guard.specs.declared.sent.SentForm.{SentForm}
use Rattle.desk_guard.specs.declared.refusal.Refusal.{Refusal}
use Rattle.desk_guard.specs.declared.refusal.Refusal.TheVariants.{Repeated, TooMany}

-- a form was sent less than ten minutes ago
abbrev pub is_recent : ℕ → SentForm → Bool
is_recent now form = nat_lt now (form.moment + 600)

-- those of these forms, in their order
abbrev pub recent : ℕ → List SentForm → List SentForm
recent now sent = filter (is_recent now) sent

-- the form of this digest is among them
abbrev pub is_among : List ℕ → List SentForm → Bool
is_among digest sent = list_any (λ form. bytes_eq form.digest digest) sent

-- the tests of a form: it was not sent in the last ten minutes, and fewer than 131,072 forms were
abbrev pub form_tests : List ℕ → ℕ → List SentForm → List (Bool × Refusal)
form_tests form now sent =
    (not (is_among (sha256 form) (recent now sent)), Repeated)
    ∷ (nat_lt (length (recent now sent)) 131072, TooMany)
    ∷ []
