-- Which requests may send a command: those that pass each of `tests_of`, in their order. Own rules.
use Rattle.std.specs.Prelude.{ℕ, Bool, false, List, [], ◌∷◌, ◌++◌, Option, unwrap_or, is_some, codes}
use Rattle.std.specs.Borrow.{Bor}
use Rattle.std.specs.List.{list_any}
use Rattle.std.specs.Option.{option_map_or}
use Rattle.std.specs.Str.{bytes_eq}
use Rattle.http.specs.declared.request.Request.{Request}
use Rattle.http.specs.Request.{head_of, body_of}
use Rattle.desk_guard.specs.declared.guard.Guard.{Guard}
use Rattle.desk_guard.specs.declared.sent.SentForm.{SentForm}
use Rattle.desk_guard.specs.declared.refusal.Refusal.{Refusal}
use Rattle.desk_guard.specs.declared.refusal.Refusal.TheVariants.{WrongMethod, WrongHost, OtherSite, WrongKind, NoUser, UnknownUser, OldToken}
use Rattle.desk_guard.specs.Token.{is_current}
use Rattle.desk_guard.specs.Sent.{form_tests}
use Rattle.desk_guard.specs.Fields.{values_of, only, is_host_of, is_own_origin, is_same_origin}

-- whether a text is one of these
abbrev pub is_one_of : List (Bor (List ℕ)) → List ℕ → Bool
is_one_of known text = list_any (λ one. bytes_eq one.now text) known

-- whether a value of Host is one of these hosts, with a port or without one
abbrev pub is_served : List (Bor (List ℕ)) → List ℕ → Bool
is_served hosts value = list_any (λ host. is_host_of host.now value) hosts

-- the host that a request is sent to, where Host is there once
abbrev pub host_of : Request (List ℕ) → Option (List ℕ)
host_of request = only (values_of (codes "host") request)

-- the user that the proxy names, where its field is there once
abbrev pub user_of : Guard → Request (List ℕ) → Option (List ℕ)
user_of guard request = only (values_of guard.user_header.now request)

-- whether the body is a form (URL Standard, section 5; HTML, 4.10.21.7)
abbrev pub is_form : List ℕ → Bool
is_form kind = bytes_eq kind (codes "application/x-www-form-urlencoded")

-- what is asked, and from where
abbrev pub site_tests : List (Bor (List ℕ)) → Request (List ℕ) → List (Bool × Refusal)
site_tests hosts request =
    (bytes_eq (head_of request).method (codes "POST"), WrongMethod)
    ∷ (option_map_or (is_served hosts) (host_of request) false, WrongHost)
    ∷ (is_own_origin (unwrap_or (host_of request) []) (values_of (codes "origin") request), OtherSite)
    ∷ (is_same_origin (values_of (codes "sec-fetch-site") request), OtherSite)
    ∷ (option_map_or is_form (only (values_of (codes "content-type") request)) false, WrongKind)
    ∷ []

-- who asks
abbrev pub user_tests : Guard → Request (List ℕ) → List (Bool × Refusal)
user_tests guard request =
    (is_some (user_of guard request), NoUser)
    ∷ (is_one_of guard.users.items (unwrap_or (user_of guard request) []), UnknownUser)
    ∷ []

-- by which page
abbrev pub token_tests : List ℕ → List ℕ → List ℕ → ℕ → List (Bool × Refusal)
token_tests key user token now = (is_current key user now token, OldToken) ∷ []

-- all tests of a request whose form has this token, where these forms were sent before
abbrev pub tests_of : Guard → List SentForm → Request (List ℕ) → List ℕ → ℕ → List (Bool × Refusal)
tests_of guard sent request token now =
    site_tests guard.hosts.items request
    ++ (user_tests guard request
    ++ (token_tests guard.key (unwrap_or (user_of guard request) []) token now
    ++ form_tests (body_of request) now sent))
