-- What a subcommand asks for, and what faulty words do not.
use Rattle.std.proofs.Common.{◌≡◌, ◌⊎◌, ℕ, false, List, [], ◌∷◌, Option, Some, None, option_map, unwrap_or, Result, Ok, Err, IfOk, codes, refl, ap, sym, inl, inr, is_some}
use Rattle.std.proofs.lemmas.Bool.{false≢true}
use Rattle.std.specs.Result.{result_ok}
use Rattle.std.specs.Str.{bytes_eq}
use Rattle.clap.specs.Words.{Row, Text, Kinds, IsAmong, fault_of, first_of}
use Rattle.clap.specs.declared.error.kind.ErrorKind.{ErrorKind}
use Rattle.gate_words.specs.declared.words.Request.{Request}
use Rattle.gate_words.specs.Words.{Asked, serve, asked_by, asked_with, asked_of, program, unless_faulty}

pub names_same : {A B C : Type 0} (name : A → B) (rows : A → C) (met : Option A)
    → option_map name met ≡ option_map (λ (p : B × C). p.0) (option_map (λ a. (name a, rows a)) met)
names_same name rows None = refl
names_same name rows (Some a) = refl

pub entered : {A B : Type 0} (met : Option (A × B)) (name : A) (rows : B) → Some name ≡ option_map (λ (p : A × B). p.0) met
    → Some rows ≡ option_map (λ (p : A × B). p.1) met → met ≡ Some (name, rows)
entered None name rows is_name is_rows = absurd (false≢true (sym (ap is_some is_name)))
entered (Some p) name rows is_name is_rows =
    let first : name ≡ p.0 = ap (λ found. unwrap_or found name) is_name in
    let second : rows ≡ p.1 = ap (λ found. unwrap_or found rows) is_rows in
    rw (first, second) refl

pub asked_to_serve : (met : Option (Text × List Row)) (name : Text) (rows : List Row) (path : Option (List ℕ)) → met ≡ Some (name, rows)
    → bytes_eq name (codes "replay") ≡ false → path ≡ first_of (codes "config") rows → option_map serve path ≡ asked_with met
asked_to_serve met name rows path is not_replay found = rw (is, not_replay, found)

faulty : (kind : ErrorKind) (kinds : Kinds) (asked : Option Asked) → IsAmong kind kinds → unless_faulty kinds asked ≡ None
faulty kind [] asked never = absurd never
faulty kind (first ∷ kinds) asked _ = refl

pub refused_words : (words : List Text) (kind memory : ErrorKind) → (kind ≡ memory → ⊥) → (kind ≡ memory) ⊎ IsAmong kind (fault_of program words)
    → asked_of words ≡ None
refused_words words kind memory not_memory has =
    elim has [ inl is ↦ absurd (not_memory is) | inr among ↦ faulty kind (fault_of program words) _ among ]

pub asked_found : (kinds : Kinds) (met found : Option (Text × List Row)) (asked : Option Asked) → kinds ≡ [] → met ≡ found → asked ≡ asked_with met
    → unless_faulty kinds (asked_with found) ≡ asked
asked_found kinds met found asked faultless same asks = rw (faultless, ← same, ← asks) refl

pub if_ok_asked : {E : Type 0} (result : Result Request E) (asked : Option Asked) → asked ≡ option_map asked_by (result_ok result)
    → IfOk result (λ request. asked ≡ Some (asked_by request))
if_ok_asked (Ok request) asked is = is
if_ok_asked (Err fault) asked is = tt
