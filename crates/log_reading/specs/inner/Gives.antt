-- For proofs and private functions alone: what a search finds, and what is read of a text.
use Rattle.std.specs.Prelude.{◌≡◌, ℕ, List, Option, Some, Result, MatchOption, MatchResult, IfOk, Vec}
use Rattle.gate_model.specs.declared.submission.Body.{Body}
use Rattle.gate_grammar.specs.Canonical.{body_text}
use Rattle.log_reading.specs.declared.logged.Logged.{Logged}
use Rattle.log_reading.specs.declared.page.LogFault.{LogFault}
use Rattle.log_reading.specs.declared.page.LogFault.TheVariants.{OutOfMemory}
use Rattle.log_reading.specs.Log.{IsReadableBody, AreReadable, logged_text}

-- something is found, and is so
abbrev pub Finds : {A : Type 0} → Option A → (A → Type 0) → Type 0
Finds found P = MatchOption found ⊥ P

-- this is found, unless memory ran out
abbrev pub Gives : {A E : Type 0} → Result (Option A) E → A → Type 0
Gives result one = IfOk result (λ found. found ≡ Some one)

-- the body of which this is the text is given, where it can be known from it
abbrev pub GivesBody : {E : Type 0} → List ℕ → Result (Option Body) E → Type 0
GivesBody text result = (body : Body) → IsReadableBody body → text ≡ body_text body → Gives result body

-- the text is the page of what was read
abbrev pub IsPageOf : {Allocator : Type 0} → List ℕ → Vec Logged Allocator → Type 0
IsPageOf text log = text ≡ logged_text log.items

-- a page is read as what it was written from, unless memory ran out
abbrev pub ReadsPage : {Allocator : Type 0} → List ℕ → Result (Vec Logged Allocator) LogFault → Type 0
ReadsPage text result =
    (log : List Logged) → AreReadable log → text ≡ logged_text log
    → MatchResult result (λ found. found.items ≡ log) (λ fault. fault ≡ OutOfMemory)
