-- What was printed, by what the words ask for.
use Rattle.std.proofs.Common.{◌≡◌, ℕ, Bool, true, false, ◌||◌, List, [], ◌∷◌, ◌++◌, Option, Some, None, Result, Ok, Err, refl}
use Rattle.std.specs.Prelude.{is_some, IfOk}
use Rattle.gate_streams.specs.Sink.{SinkState}
use Rattle.status_merge.specs.Asking.{Asked}
use Rattle.operator_ports.specs.declared.next.Next.{Next}
use Rattle.operator_ports.specs.Steps.{Step, Read, IsTextOf}
use Rattle.operator_showing.specs.Choosing.{IsAskedFor}
use Rattle.operator_showing.specs.Shown.{IsPageShown, IsChosenShown, IsJsonShown, IsShownOf, IsShown}

-- this text was read since these steps, and nothing else was done
pub record IsReadSince (old new : List Step) (text : List ℕ) : Type 0 where
  pub first : Next
  pub is_text : IsTextOf first text
  pub done : new ≡ old ++ Read first ∷ []

-- since these steps the page was read and shown
abbrev pub IsShownSince : List Step → List Step → Bool → List ℕ → Option (List ℕ) → Option (List ℕ) → SinkState → SinkState → Type 0
IsShownSince old new json name state host before after =
    (steps : List Step) × (new ≡ old ++ steps) × IsShown json name state host steps before after

shown : {E : Type 0} (result : Result ℕ E) (json : Bool) (state host : Option (List ℕ)) (asked : Asked) (text name : List ℕ)
    (old new : List Step) (before after : SinkState) → IsReadSince old new text
    → IsAskedFor state host asked → IfOk result (λ status. (status ≡ 0) × IsShownOf json name state host asked text before after)
    → IfOk result (λ status. IsShownSince old new json name state host before after)
shown (Ok status) json state host asked text name old new before after read is printed = (
  Read read.first ∷ [],
  read.done,
  record { first = read.first; text = text; is_text = read.is_text; done = refl; asked = asked; is_asked = is; shown = printed.1 },
)
shown (Err fault) json state host asked text name old new before after read is printed = tt

pub json_shown : {E : Type 0} (result : Result ℕ E) (json : Bool) (state host : Option (List ℕ)) (asked : Asked) (text name : List ℕ)
    (old new : List Step) (before after : SinkState) → IsReadSince old new text
    → json ≡ true → IsAskedFor state host asked → IfOk result (λ status. (status ≡ 0) × IsJsonShown text name asked before after)
    → IfOk result (λ status. IsShownSince old new json name state host before after)
json_shown result true state host asked text name old new before after read as_json is printed =
    shown result true state host asked text name old new before after read is printed
json_shown result false state host asked text name old new before after read as_json is printed = absurd (cc)

pub chosen_shown : {E : Type 0} (result : Result ℕ E) (json : Bool) (state host : Option (List ℕ)) (asked : Asked) (text name : List ℕ)
    (old new : List Step) (before after : SinkState) → IsReadSince old new text
    → json ≡ false → (is_some state || is_some host) ≡ true → IsAskedFor state host asked
    → IfOk result (λ status. (status ≡ 0) × IsChosenShown text asked before after)
    → IfOk result (λ status. IsShownSince old new json name state host before after)
chosen_shown result false (Some state) host asked text name old new before after read plain some is printed =
    shown result false (Some state) host asked text name old new before after read is printed
chosen_shown result false None (Some host) asked text name old new before after read plain some is printed =
    shown result false None (Some host) asked text name old new before after read is printed
chosen_shown result false None None asked text name old new before after read plain some is printed = absurd (cc)
chosen_shown result true state host asked text name old new before after read plain some is printed = absurd (cc)

pub page_shown : {E : Type 0} (result : Result ℕ E) (json : Bool) (state host : Option (List ℕ)) (asked : Asked) (text name : List ℕ)
    (old new : List Step) (before after : SinkState) → IsReadSince old new text
    → json ≡ false → (is_some state || is_some host) ≡ false → IsAskedFor state host asked
    → IfOk result (λ status. (status ≡ 0) × IsPageShown text before after)
    → IfOk result (λ status. IsShownSince old new json name state host before after)
page_shown result false None None asked text name old new before after read plain none is printed =
    shown result false None None asked text name old new before after read is printed
page_shown result false None (Some host) asked text name old new before after read plain none is printed = absurd (cc)
page_shown result false (Some state) host asked text name old new before after read plain none is printed = absurd (cc)
page_shown result true state host asked text name old new before after read plain none is printed = absurd (cc)
