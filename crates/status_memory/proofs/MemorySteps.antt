-- What is kept after one fetch more.
use Rattle.std.proofs.Common.{◌≡◌, ℕ, Bool, true, false, cond, List, [], ◌∷◌, ◌++◌, map, Option, Some, None, Ok, Err, refl, sym, ap, ◌∙◌, arith, append-nil}
use Rattle.std.specs.Prelude.{filter_map, reverse, slice_get, if◌then◌else◌, unwrap_or, is_some}
use Rattle.std.proofs.lemmas.Bool.{eqb-true}
use Rattle.std.proofs.lemmas.List.Sums.{take_while-cons}
use Rattle.std.specs.List.{cons_option, take_while, last_or}
use Rattle.std.proofs.lemmas.List.{reverse-append, map-append}
use Rattle.status_memory.specs.declared.memory.Fetch.{Fetch}
use Rattle.status_memory.specs.declared.memory.Page.{Page}
use Rattle.status_memory.specs.declared.memory.Kept.{Kept}
use Rattle.status_memory.specs.declared.memory.Memory.{Memory}
use Rattle.status_memory.specs.declared.alarm.Alarm.{Alarm}
use Rattle.status_memory.specs.Memory.{last_of, page_in, fault_in, pages_in, has_objects, run_start, agreed_in, most_in, other_at, other_in, agreed_after, most_after, other_after, IsMemoryOf, alarms_from, alarms_of, alarms_at}

last_more : {A : Type 0} (list : List A) (one : A) → last_of (list ++ one ∷ []) ≡ Some one
last_more list one = ap (λ turned. slice_get turned 0) (reverse-append list (one ∷ []))

cons-option-append : {A : Type 0} (found : Option A) (front back : List A) → cons_option found front ++ back ≡ cons_option found (front ++ back)
cons-option-append None front back = refl
cons-option-append (Some one) front back = refl

filter_more : {A B : Type 0} (made : A → Option B) (list more : List A) → filter_map made (list ++ more) ≡ filter_map made list ++ filter_map made more
filter_more made [] more = refl
filter_more made (one ∷ list) more =
    ap (cons_option (made one)) (filter_more made list more)
    ∙ sym (cons-option-append (made one) (filter_map made list) (filter_map made more))

page_is : {T F : Type 0} (fetch : Fetch T F) (page : Page T) → fetch.page ≡ Ok page → page_in fetch ≡ Some (record { page = page; moment = fetch.moment })
page_is fetch page is = rw is refl

none_is : {T F : Type 0} (fetch : Fetch T F) (why : F) → fetch.page ≡ Err why → page_in fetch ≡ None
none_is fetch why is = rw is refl

no_fault : {T F : Type 0} (fetch : Fetch T F) (page : Page T) → fetch.page ≡ Ok page → fault_in (Some fetch) ≡ None
no_fault fetch page is = rw is refl

fault_is : {T F : Type 0} (fetch : Fetch T F) (why : F) → fetch.page ≡ Err why → fault_in (Some fetch) ≡ Some why
fault_is fetch why is = rw is refl

-- whether the last page has other objects
other_last : {T : Type 0} (moments : List ℕ) (kept : Kept T) (is : Bool) → kept.page.is_other ≡ is
    → last_of (moments ++ cons_option (other_at kept) []) ≡ other_after (last_of moments) is kept.moment
other_last moments kept true is = rw is (last_more moments kept.moment)
other_last moments kept false is = rw (is, append-nil moments) refl

other_more : {T : Type 0} (pages : List (Kept T)) (kept : Kept T)
    → other_in (pages ++ kept ∷ []) ≡ other_after (other_in pages) kept.page.is_other kept.moment
other_more pages kept =
    ap last_of (filter_more other_at pages (kept ∷ []))
    ∙ other_last (filter_map other_at pages) kept kept.page.is_other refl

-- ---- pages that agree

always : (one : ℕ) (rest : List ℕ) (default other : ℕ) → unwrap_or (last_or (Some one) rest) default ≡ unwrap_or (last_or (Some one) rest) other
always one [] default other = refl
always one (next ∷ rest) default other = always next rest default other

last_step : (first : ℕ) (rest : List ℕ) (default : ℕ) → unwrap_or (last_or (Some first) rest) default ≡ unwrap_or (last_or None rest) first
last_step first [] default = refl
last_step first (next ∷ rest) default = always next rest default first

abbrev start_in : {T : Type 0} → ℕ → List (Kept T) → ℕ
start_in {T} moment run = unwrap_or (last_or None (map (λ (kept : Kept T). kept.moment) run)) moment

run_more : {T : Type 0} (objects moment : ℕ) (page : Kept T) (before : List (Kept T)) (has : Bool) → has_objects objects page ≡ has
    → agreed_after (Some page) (agreed_in (page ∷ before)) objects moment ≡ run_start objects moment (page ∷ before)
run_more objects moment page before true has =
    let same : page.page.objects ≡ objects = eqb-true page.page.objects objects has in
    let run : take_while (has_objects objects) (page ∷ before) ≡ page ∷ take_while (has_objects objects) before =
    take_while-cons (has_objects objects) page before
    ∙ ap (λ (test : Bool). cond test (page ∷ take_while (has_objects objects) before) []) has in
    ap (λ (test : Bool). if test then agreed_in (page ∷ before) else moment) has
    ∙ ap (λ (many : ℕ). run_start many page.moment before) same
    ∙ sym (ap (start_in moment) run ∙ last_step page.moment (map (λ (kept : Kept _). kept.moment) (take_while (has_objects objects) before)) moment)
run_more objects moment page before false has =
    let run : take_while (has_objects objects) (page ∷ before) ≡ [] =
    take_while-cons (has_objects objects) page before
    ∙ ap (λ (test : Bool). cond test (page ∷ take_while (has_objects objects) before) []) has in
    ap (λ (test : Bool). if test then agreed_in (page ∷ before) else moment) has ∙ sym (ap (start_in moment) run)

agreed_more : {T : Type 0} (objects moment : ℕ) (pages : List (Kept T))
    → agreed_after (slice_get pages 0) (agreed_in pages) objects moment ≡ run_start objects moment pages
agreed_more objects moment [] = refl
agreed_more objects moment (page ∷ before) = run_more objects moment page before (has_objects objects page) refl

pub page_more : {T F : Type 0} (fetches : List (Fetch T F)) (old new : Memory T F) (fetch : Fetch T F) (page : Page T) → fetch.page ≡ Ok page
    → IsMemoryOf fetches old → new.last ≡ Some (record { page = page; moment = fetch.moment }) → new.fault ≡ None → new.agreed ≡ agreed_after old.last old.agreed page.objects fetch.moment
    → new.most ≡ most_after old.most page.objects fetch.moment new.agreed
    → new.other ≡ other_after old.other page.is_other fetch.moment
    → IsMemoryOf (fetches ++ fetch ∷ []) new
page_more {T} {F} fetches old new fetch page given is last fault agreed most other =
    let kept : Kept T = record { page = page; moment = fetch.moment } in
    let more : pages_in (fetches ++ fetch ∷ []) ≡ pages_in fetches ++ kept ∷ [] =
    filter_more page_in fetches (fetch ∷ []) ∙ ap (λ found. pages_in fetches ++ cons_option found []) (page_is fetch page given) in
    let turned : reverse (pages_in (fetches ++ fetch ∷ [])) ≡ kept ∷ reverse (pages_in fetches) =
    ap reverse more ∙ reverse-append (pages_in fetches) (kept ∷ []) in
    let run : new.agreed ≡ agreed_in (kept ∷ reverse (pages_in fetches)) =
    agreed ∙ (λ i. agreed_after (is.last i) (is.agreed i) page.objects fetch.moment)
    ∙ agreed_more page.objects fetch.moment (reverse (pages_in fetches)) in
    record {
      last = last ∙ sym (ap last_of more ∙ last_more (pages_in fetches) kept);
      fault = fault ∙ sym (ap fault_in (last_more fetches fetch) ∙ no_fault fetch page given);
      most = most ∙ (λ i. most_after (is.most i) page.objects fetch.moment (run i)) ∙ sym (ap most_in turned);
      agreed = run ∙ sym (ap agreed_in turned);
      other = other ∙ ap (λ known. other_after known page.is_other fetch.moment) is.other
          ∙ sym (ap other_in more ∙ other_more (pages_in fetches) kept);
    }

pub fault_more : {T F : Type 0} (fetches : List (Fetch T F)) (old new : Memory T F) (fetch : Fetch T F) (why : F) → fetch.page ≡ Err why
    → IsMemoryOf fetches old → new.last ≡ old.last → new.fault ≡ Some why → new.agreed ≡ old.agreed → new.most ≡ old.most → new.other ≡ old.other
    → IsMemoryOf (fetches ++ fetch ∷ []) new
fault_more {T} {F} fetches old new fetch why given is last fault agreed most other =
    let more : pages_in (fetches ++ fetch ∷ []) ≡ pages_in fetches =
    filter_more page_in fetches (fetch ∷ [])
    ∙ ap (λ found. pages_in fetches ++ cons_option found []) (none_is fetch why given) ∙ append-nil (pages_in fetches) in
    record {
      last = last ∙ is.last ∙ sym (ap last_of more);
      fault = fault ∙ sym (ap fault_in (last_more fetches fetch) ∙ fault_is fetch why given);
      most = most ∙ is.most ∙ sym (ap (λ list. most_in (reverse list)) more);
      agreed = agreed ∙ is.agreed ∙ sym (ap (λ list. agreed_in (reverse list)) more);
      other = other ∙ is.other ∙ sym (ap other_in more);
    }

pub same_alarms : {T F : Type 0} (fetches : List (Fetch T F)) (memory : Memory T F) (now : ℕ) → IsMemoryOf fetches memory
    → alarms_of now memory ≡ alarms_at now fetches
same_alarms fetches memory now is = λ i. alarms_from now (is_some (is.fault i)) (is.last i) (is.most i) (is.other i)
