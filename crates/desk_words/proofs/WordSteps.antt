-- Values that were given, or their defaults, and why they set nothing.
use Rattle.std.proofs.Common.{◌≡◌, ◌⊎◌, ◌<◌, ◌==◌, true, false, ℕ, List, [], ◌∷◌, length, Option, Some, None, Result, Ok, Err, Bor, codes, unwrap_or, inl, inr, refl, ap, sym, subst, ◌∙◌, arith}
use Rattle.std.proofs.lemmas.Bool.{eqb-true, true≢false}
use Rattle.std.proofs.lemmas.List.{nil_from_length}
use Rattle.clap.specs.Walk.{texts}
use Rattle.clap.specs.Words.{IsAmong, Row, Text, fault_of, kind_of}
use Rattle.clap.specs.Simple.{matches_of}
use Rattle.clap.specs.declared.error.Error.{Error}
use Rattle.clap.specs.declared.error.kind.ErrorKind.{ErrorKind}
use Rattle.page_watching.specs.declared.places.Place.{Place}
use Rattle.page_watching.specs.Places.{NameAll}
use Rattle.desk_words.specs.declared.words.BadValue.{BadValue}
use Rattle.desk_words.specs.declared.words.BadValue.TheVariants.{Listen, NotLoopback, Gateway, SameName, Operators}
use Rattle.desk_words.specs.declared.words.WordsFault.{WordsFault}
use Rattle.desk_words.specs.declared.words.WordsFault.TheVariants.{Refused, Bad, OutOfMemory}
use Rattle.desk_words.specs.Words.{value_of, values_of, IsListenFault, IsPlacesFault, HavePorts, IsBadValue, IsFaultIn, IsWordsFault, program}

pub given : {A : Type 0} {value : A} {found : Option A} (default : A) → Some value ≡ found
    → value ≡ unwrap_or found default
given default is = ap (λ found. unwrap_or found default) is

pub not_given : {A : Type 0} {found : Option A} (default : A) → None ≡ found → default ≡ unwrap_or found default
not_given default is = ap (λ found. unwrap_or found default) is

pub some_given : (values : List (Bor (List ℕ))) (given : List Text) → texts values ≡ given → (length values == 0) ≡ false
    → 0 < length given
some_given [] given same some = absurd (true≢false some)
some_given (value ∷ values) given same some =
    let more : 0 < length (texts (value ∷ values)) = omega arith in
    subst (λ (given : List Text). 0 < length given) same more

pub nothing_given : (values : List (Bor (List ℕ))) (given : List Text) → texts values ≡ given → (length values == 0) ≡ true
    → given ≡ []
nothing_given values given same none = sym same ∙ ap texts (nil_from_length values (eqb-true (length values) 0 none))

-- ---- why there are no settings

module _ (found : List Row) where
  pub listen_fault : (text : List ℕ) (fault : WordsFault)
      → text ≡ value_of (codes "listen") (codes "127.0.0.1:8081") found → IsListenFault text fault → IsFaultIn found fault
  listen_fault text (Bad Listen) same is = subst (λ (text : List ℕ). IsListenFault text (Bad Listen)) same is
  listen_fault text (Bad NotLoopback) same is = subst (λ (text : List ℕ). IsListenFault text (Bad NotLoopback)) same is
  listen_fault text other same is = absurd is

  pub gateway_fault : (values : List Text) (fault : WordsFault) → values ≡ values_of (codes "gateway") found
      → IsPlacesFault values fault → IsFaultIn found fault
  gateway_fault values (Bad Gateway) same is = inl (subst (λ (values : List Text). IsPlacesFault values (Bad Gateway)) same is)
  gateway_fault values (Bad SameName) same is = inl (subst (λ (values : List Text). IsPlacesFault values (Bad SameName)) same is)
  gateway_fault values OutOfMemory same is = tt
  gateway_fault values other same is = absurd is

  pub operators_fault : (values : List Text) (fault : WordsFault) → values ≡ values_of (codes "operators") found
      → IsPlacesFault values fault → IsFaultIn found fault
  operators_fault values (Bad Gateway) same is = inr (subst (λ (values : List Text). IsPlacesFault values (Bad Gateway)) same is)
  operators_fault values (Bad SameName) same is = inr (subst (λ (values : List Text). IsPlacesFault values (Bad SameName)) same is)
  operators_fault values OutOfMemory same is = tt
  operators_fault values other same is = absurd is

  pub ports_fault : (places ports : List Place) (fault : WordsFault) → fault ≡ Bad Operators
      → NameAll (values_of (codes "gateway") found) places → NameAll (values_of (codes "operators") found) ports
      → (HavePorts places ports → ⊥) → IsFaultIn found fault
  ports_fault places ports fault is named others none =
      subst (IsFaultIn found) (sym is) (places, ports, named, others, none)

-- what was found is what clap makes of the words
pub words_fault : (words : List Text) (found : List Row) (fault : WordsFault) → found ≡ matches_of program words
    → IsFaultIn found fault → IsWordsFault words fault
words_fault words found (Refused error) same is = absurd is
words_fault words found (Bad value) same is = subst (IsBadValue value) same is
words_fault words found OutOfMemory same is = tt

-- what clap refuses, but where memory ran out
pub refused_fault : (words : List Text) (error : Error) (fault : WordsFault) (memory : ErrorKind)
    → ((value : BadValue) → fault ≡ Bad value → ⊥)
    → ((other : Error) → fault ≡ Refused other → (error ≡ other) × (kind_of error ≡ memory → ⊥))
    → (kind_of error ≡ memory) ⊎ IsAmong (kind_of error) (fault_of program words) → IsWordsFault words fault
refused_fault words error (Bad value) memory bad refused has = absurd (bad value refl)
refused_fault words error OutOfMemory memory bad refused has = tt
refused_fault words error (Refused other) memory bad refused has =
    let known = refused other refl in
    subst (λ (error : Error). IsAmong (kind_of error) (fault_of program words)) known.0
    (elim has [ inl is ↦ absurd (known.1 is) | inr among ↦ among ])
