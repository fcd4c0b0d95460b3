-- The services of a host: how many they are, and where.
use Rattle.std.proofs.Common.{◌≡◌, ℕ, zero, suc, ◌+◌, ◌<◌, ◌≤◌, ◌⊎◌, Bool, true, false, cond, not, ◌&&◌, List, [], ◌∷◌, ◌++◌, length, map, take, drop, max, Option, Some, None, is_some, is_none, refl, sym, ap, ◌∙◌, inl, inr, arith, if◌then◌else◌, subst, get_or, eqb}
use Rattle.std.specs.Prelude.{All, filter, count_by, slice_get, nat_lt}
use Rattle.std.specs.List.{enumerate_from, list_all}
use Rattle.std.specs.Str.{bytes_eq}
use Rattle.std.proofs.lemmas.Bool.{cases_Bool, and_parts, ltb-true, ne_eqb}
use Rattle.std.proofs.lemmas.List.Sums.{sum_by-cons, sum_by-append}
use Rattle.std.proofs.lemmas.List.{take_all, take_more, drop_more}
use Rattle.std.proofs.lemmas.Option.{slice_get-get_or}
use Rattle.std.specs.Cmp.Lexicographic.{bytes_decides}
use Rattle.gate_model.specs.declared.object.Kind.TheVariants.{Service}
use Rattle.gate_model.specs.declared.object.ObjectId.{ObjectId}
use Rattle.gate_model.specs.declared.object.ObjectLine.{ObjectLine}
use Rattle.gate_table.specs.declared.table.TableFault.{TableFault}
use Rattle.gate_table.specs.declared.table.TableFault.TheVariants.{BadName, NoSuchHost, DuplicateService, TooMany}
use Rattle.gate_model.specs.Table.{place_of, is_line_of, has_object, object_at, is_service_line_of, services_from, services_of, services_by, services_at, greatest, most_services}
use Rattle.gate_table.specs.Faults.{is_named, host_fault, line_fault, line_fault_at, fault_at, IsFaultless}
use Rattle.gate_model.proofs.Lists.{some_is, none_is_not_some, position_from-found}
use Rattle.gate_table.proofs.KeySteps.{line_decides}

pub map-cond : {X Y : Type 0} (f : X → Y) (b : Bool) (x : X) (xs : List X) → map f (cond b (x ∷ xs) xs) ≡ cond b (f x ∷ map f xs) (map f xs)
map-cond f true x xs = refl
map-cond f false x xs = refl

-- one line more
pub services-cons : (host : List ℕ) (place : ℕ) (line : ObjectLine) (lines : List ObjectLine)
    → services_from host place (line ∷ lines)
    ≡ cond (is_service_line_of host line) (object_at Service place ∷ services_from host (place + 1) lines) (services_from host (place + 1) lines)
services-cons host place line lines =
    map-cond (λ (one : ℕ × ObjectLine). object_at Service one.0) (is_service_line_of host line) (place, line)
    (filter (λ (one : ℕ × ObjectLine). is_service_line_of host one.1) (enumerate_from (place + 1) lines))

length-cond : (b : Bool) (object : ObjectId) (rest : List ObjectId) → length (cond b (object ∷ rest) rest) ≡ cond b 1 0 + length rest
length-cond true object rest = omega arith
length-cond false object rest = omega arith

pub length-services : (host : List ℕ) (place : ℕ) (lines : List ObjectLine) → length (services_from host place lines) ≡ count_by (is_service_line_of host) lines
length-services host place [] = refl
length-services host place (line ∷ lines) =
    ap length (services-cons host place line lines)
    ∙ length-cond (is_service_line_of host line) (object_at Service place) (services_from host (place + 1) lines)
    ∙ ap (λ n. cond (is_service_line_of host line) 1 0 + n) (length-services host (place + 1) lines)
    ∙ sym (sum_by-cons (λ (one : ObjectLine). cond (is_service_line_of host one) 1 0) line lines)

-- ---- no host has more services than the one with the most of them

-- of a host with services there is a line
counted : (table lines : List ObjectLine) (host : List ℕ)
    → (count_by (is_service_line_of host) lines ≡ 0)
    ⊎ (count_by (is_service_line_of host) table ≤ greatest (map (λ (line : ObjectLine). count_by (is_service_line_of line.host) table) lines))
counted table [] host = inl refl
counted table (line ∷ lines) host = elim (cases_Bool (bytes_eq line.host host)) [
  | inl same ↦
      let named : line.host ≡ host = (bytes_decides line.host host).0 same in
      let here : count_by (is_service_line_of line.host) table ≡ count_by (is_service_line_of host) table = ap (λ h. count_by (is_service_line_of h) table) named in
      inr (omega (arith, here))
  | inr apart ↦
      let none : cond (is_service_line_of host line) 1 0 ≡ 0 = ap (λ (b : Bool). let n : ℕ = cond (b && is_some line.service) 1 0 in n) apart in
      let step = sum_by-cons (λ (one : ObjectLine). cond (is_service_line_of host one) 1 0) line lines in
      elim (counted table lines host) [
        | inl zero_left ↦ inl (omega (arith, none, step, zero_left))
        | inr more ↦ inr (omega (arith, more))
      ]
]

pub services-few : (table : List ObjectLine) (host : List ℕ) → length (services_of table host) ≤ most_services table
services-few table host = elim (counted table table host) [
  | inl zero_left ↦ omega (arith, zero_left, length-services host 0 table)
  | inr more ↦ omega (arith, more, length-services host 0 table)
]

-- ---- each service is in the table

All-cons : {A : Type 0} (P : A → Type 0) (x : A) (xs : List A) → P x → All P xs → All P (x ∷ xs)
All-cons P x xs here rest zero other within = here
All-cons P x xs here rest (suc index) other within = rest index other (omega (arith, within))

cond-all : (P : ObjectId → Type 0) (b : Bool) (x : ObjectId) (xs : List ObjectId) → P x → All P xs → All P (cond b (x ∷ xs) xs)
cond-all P true x xs here rest = All-cons P x xs here rest
cond-all P false x xs here rest = rest

within-bound : (host : List ℕ) (place bound : ℕ) (lines : List ObjectLine) → place + length lines ≤ bound → All (λ (one : ObjectId). one.place < bound) (services_from host place lines)
within-bound host place bound [] le = λ index other within. let none : ⊥ = omega (arith, within) in absurd none
within-bound host place bound (line ∷ lines) le =
    subst (All (λ (one : ObjectId). one.place < bound)) (sym (services-cons host place line lines))
    (cond-all (λ (one : ObjectId). one.place < bound) (is_service_line_of host line) (object_at Service place) (services_from host (place + 1) lines) (omega (arith, le))
    (within-bound host (place + 1) bound lines (omega (arith, le))))

pub services-within : (table : List ObjectLine) (host : List ℕ) → All (λ (one : ObjectId). one.place < length table) (services_of table host)
services-within table host = within-bound host 0 (length table) table (omega arith)

apart-cond : (p : ObjectId → Bool) (b : Bool) (x : ObjectId) (xs : List ObjectId) → p x ≡ true → list_all p xs ≡ true → list_all p (cond b (x ∷ xs) xs) ≡ true
apart-cond p true x xs here rest = ap (λ c. c && list_all p xs) here ∙ rest
apart-cond p false x xs here rest = rest

apart-bound : (host : List ℕ) (place other : ℕ) (lines : List ObjectLine) → place + length lines ≤ other → list_all (λ (one : ObjectId). not (eqb one.place other)) (services_from host place lines) ≡ true
apart-bound host place other [] le = refl
apart-bound host place other (line ∷ lines) le =
    ap (list_all (λ (one : ObjectId). not (eqb one.place other))) (services-cons host place line lines)
    ∙ apart-cond (λ (one : ObjectId). not (eqb one.place other)) (is_service_line_of host line) (object_at Service place) (services_from host (place + 1) lines)
    (ap not (ne_eqb place other (λ same. omega (arith, same, le)))) (apart-bound host (place + 1) other lines (omega (arith, le)))

-- no service is at a place outside the table
pub services-apart : (table : List ObjectLine) (host : List ℕ) (other : ℕ) → length table ≤ other → list_all (λ (one : ObjectId). not (eqb one.place other)) (services_of table host) ≡ true
services-apart table host other outside = apart-bound host 0 other table (omega (arith, outside))

-- ---- a host has at most 1,024 services

few-before : (before : List ObjectLine) (number : ℕ) (line : ObjectLine) → is_some line.service ≡ true → line_fault before number line ≡ None → nat_lt (count_by (is_service_line_of line.host) before) 1024 ≡ true
few-before before number line service e = elim (cases_Bool (nat_lt (count_by (is_service_line_of line.host) before) 1024)) [
  | inl few ↦ few
  | inr many ↦ absurd (faulty (is_named line) (is_none line.service) (has_object before line.host None) (has_object before line.host line.service) (nat_lt (count_by (is_service_line_of line.host) before) 1024) (host_fault before number line) (none-of line.service service) many e)
]
  where
    none-of : {X : Type 0} (o : Option X) → is_some o ≡ true → is_none o ≡ false
    none-of None h = cc
    none-of (Some x) h = refl

    faulty : (named host known taken few : Bool) (other : Option TableFault) → host ≡ false → few ≡ false
        → (if not named then Some (BadName number) else (if host then other else (if not known then Some (NoSuchHost number) else (if taken then Some (DuplicateService number) else (if few then None else Some (TooMany number)))))) ≡ None → ⊥
    faulty false host known taken few other h f e = cc
    faulty true true known taken few other h f e = cc
    faulty true false false taken few other h f e = cc
    faulty true false true true few other h f e = cc
    faulty true false true false true other h f e = cc
    faulty true false true false false other h f e = cc

few-step : (lines : List ObjectLine) (host : List ℕ) (i : ℕ) (line : ObjectLine) → fault_at lines i ≡ None → slice_get lines i ≡ Some line → count_by (is_service_line_of host) (take i lines) ≤ 1024
    → count_by (is_service_line_of host) (take i lines) + cond (is_service_line_of host line) 1 0 ≤ 1024
few-step lines host i line faultless at so_far = elim (cases_Bool (is_service_line_of host line)) [
  | inl mine ↦
      let both = and_parts (bytes_eq line.host host) (is_some line.service) mine in
      let named : line.host ≡ host = (bytes_decides line.host host).0 both.0 in
      let few = few-before (take i lines) (i + 1) line both.1 (sym (ap (line_fault_at lines i) at) ∙ faultless) in
      let less : count_by (is_service_line_of line.host) (take i lines) < 1024 = ltb-true (count_by (is_service_line_of line.host) (take i lines)) 1024 few in
      omega (arith, less, ap (λ h. count_by (is_service_line_of h) (take i lines)) named, ap (λ (b : Bool). let n : ℕ = cond b 1 0 in n) mine)
  | inr other ↦ omega (arith, so_far, ap (λ (b : Bool). let n : ℕ = cond b 1 0 in n) other)
]

few-next : (lines : List ObjectLine) (host : List ℕ) (i : ℕ) (found : Option ObjectLine) → fault_at lines i ≡ None → slice_get lines i ≡ found → i < length lines → count_by (is_service_line_of host) (take i lines) ≤ 1024
    → count_by (is_service_line_of host) (take (i + 1) lines) ≤ 1024
few-next lines host i None faultless at within so_far = absurd (none_is_not_some (get_or lines i none_line) (sym at ∙ slice_get-get_or lines i none_line within))
  where
    none_line : ObjectLine
    none_line = record { host = []; service = None; threshold = 0 }
few-next lines host i (Some line) faultless at within so_far =
    let same : get_or lines i line ≡ line = some_is (get_or lines i line) line (sym (slice_get-get_or lines i line within) ∙ at) in
    let more : take (i + 1) lines ≡ take i lines ++ line ∷ [] = take_more lines i line within ∙ ap (λ one. take i lines ++ one ∷ []) same in
    let counts = ap (count_by (is_service_line_of host)) more ∙ sum_by-append (λ (x : ObjectLine). cond (is_service_line_of host x) 1 0) (take i lines) (line ∷ []) in
    let one = sum_by-cons (λ (x : ObjectLine). cond (is_service_line_of host x) 1 0) line [] in
    omega (arith, counts, one, few-step lines host i line faultless at so_far)

few-all : (lines : List ObjectLine) (host : List ℕ) → IsFaultless lines → (i : ℕ) → i ≤ length lines → count_by (is_service_line_of host) (take i lines) ≤ 1024
few-all lines host good zero le = omega arith
few-all lines host good (suc i) le =
    let next : count_by (is_service_line_of host) (take (i + 1) lines) ≤ 1024 = few-next lines host i (slice_get lines i) (good.each i) refl (omega (arith, le)) (few-all lines host good i (omega (arith, le))) in
    omega (arith, next, ap (λ n. count_by (is_service_line_of host) (take n lines)) (let same : i + 1 ≡ suc i = omega arith in same))

few-greatest : (table lines : List ObjectLine) → ((host : List ℕ) → count_by (is_service_line_of host) table ≤ 1024) → greatest (map (λ (line : ObjectLine). count_by (is_service_line_of line.host) table) lines) ≤ 1024
few-greatest table [] few = omega arith
few-greatest table (line ∷ lines) few = omega (arith, few line.host, few-greatest table lines few)

pub services-modest : (table : List ObjectLine) → IsFaultless table → most_services table ≤ 1024
services-modest table good =
    few-greatest table table (λ host.
    let all = few-all table host good (length table) (omega arith) in
    omega (arith, all, ap (count_by (is_service_line_of host)) (take_all (length table) table (omega arith))))

-- ---- the line of a host

-- the line at the place of a host has its name
pub host-line : (table : List ObjectLine) (host : List ℕ) (place : ℕ) (line : ObjectLine) → place_of table host None ≡ Some place → slice_get table place ≡ Some line → line.host ≡ host
host-line table host place line found at =
    let one = position_from-found (is_line_of host None) table place found in
    let names = (line_decides host None one.0).0 one.2 in
    ap (λ (l : ObjectLine). l.host) (some_is line one.0 (sym at ∙ one.1)) ∙ names.0

-- the greatest so far, with one line more
pub most-next : (f : ObjectLine → ℕ) (lines : List ObjectLine) (i most here whole : ℕ) (line : ObjectLine) → i < length lines → line ≡ get_or lines i line → here ≡ f line
    → max most (greatest (map f (drop i lines))) ≡ whole → max (max most here) (greatest (map f (drop (i + 1) lines))) ≡ whole
most-next f lines i most here whole line within is at so_far =
    let next : greatest (map f (drop i lines)) ≡ max (f line) (greatest (map f (drop (i + 1) lines))) =
    ap (λ rest. greatest (map f rest)) (drop_more lines i line within) ∙ ap (λ (one : ObjectLine). max (f one) (greatest (map f (drop (i + 1) lines)))) (sym is)
    in
    omega (arith, next, at, so_far)

-- the services at the place of a host are those of its name
pub services-named : (table : List ObjectLine) (host : List ℕ) (place : ℕ) → place_of table host None ≡ Some place → services_at table place ≡ services_of table host
services-named table host place found =
    let one = position_from-found (is_line_of host None) table place found in
    ap (services_by table) one.1 ∙ ap (services_of table) (host-line table host place one.0 found one.1)
