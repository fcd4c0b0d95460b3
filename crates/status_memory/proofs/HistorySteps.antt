-- What is known after one page more: `history_more`.
use Rattle.std.proofs.Common.{◌≡◌, ℕ, ◌+◌, ◌-◌, ◌<◌, ◌≤◌, suc, Bool, true, false, ◌&&◌, ◌||◌, cond, Bor, List, [], ◌∷◌, ◌++◌, length, map, drop, get_or, find, ◌==◌, Option, Some, None, unwrap_or, refl, sym, ap, ◌∙◌, subst, arith, inl, inr, append_assoc, length-append, length-drop, drop-drop, drop-cons}
use Rattle.std.specs.Prelude.{if◌then◌else◌, nat_lt, not, count_by, filter, is_some}
use Rattle.std.specs.List.{flat_map, take_while, last_or, list_all, list_any}
use Rattle.std.specs.Option.{option_map, option_map_or}
use Rattle.std.specs.Str.{bytes_eq}
use Rattle.std.specs.HashMap.{HashMap, get}
use Rattle.std.proofs.lemmas.Bool.{cases_Bool, eqb-true}
use Rattle.std.proofs.lemmas.List.{drop-append-le, drop-map, length-map, map-append}
use Rattle.std.proofs.lemmas.List.Sums.{take_while-cons}
use Rattle.std.proofs.lemmas.Slice.Eq.{bytes_eq-Decides}
use Rattle.circular_buffer.specs.Buffer.{Buffer, buffer, keep_last}
use Rattle.gate_model.specs.declared.state.State.{State}
use Rattle.gate_model.specs.declared.state.State.TheVariants.{Pending, Ok, Warning, Critical, Unknown, Up, Down, Unreachable}
use Rattle.gate_model.specs.State.{number_of_state, is_same_state}
use Rattle.status_reading.specs.declared.rows.ShownObject.{ShownObject}
use Rattle.status_reading.specs.declared.page.StatusPage.{StatusPage}
use Rattle.status_reading.specs.Rows.{ObjectView, PageView, object_view, page_view}
use Rattle.status_reading.proofs.DepthSteps.{count_map}
use Rattle.status_memory.specs.declared.history.Known.{Known}
use Rattle.status_memory.specs.declared.history.Since.{Since}
use Rattle.status_memory.specs.declared.history.StateChange.{StateChange}
use Rattle.status_memory.specs.History.{KnownView, ResultView, ChangeView, HistoryView, change_view, is_of, row_on, state_on, shows, goes_on, run_of, first_moment, since_of, is_pending, result_on, result_of, is_held, held_result, by_result, shown_row, shown_since, shown_rows, last_result, known_on, known_of, change_from, state_before, changes_of, shared, is_other, is_other_in, has_page, IsHistoryOf}
use Rattle.status_memory.specs.inner.Known.{Key, same_key, known_view, lent_view, standing_in, since_now, since_result, since_after, result_in, state_of, result_with, known_with, held_in, since_in, all_held, known_at, change_at, standing_at, changes_if, shared_with, all_known, all_changes}

-- ---- the last changes

pub keep_again : {X : Type 0} (n : ℕ) (xs ys : List X) → keep_last n (keep_last n xs ++ ys) ≡ keep_last n (xs ++ ys)
keep_again n xs ys =
    let short : length xs - n ≤ length xs = omega arith in
    let whole : (length xs - n) + (length (drop (length xs - n) (xs ++ ys)) - n) ≡ length (xs ++ ys) - n =
    omega (arith, length-append xs ys, length-drop (length xs - n) (xs ++ ys)) in
    ap (keep_last n) (sym (drop-append-le (length xs - n) xs ys short))
    ∙ drop-drop (length (drop (length xs - n) (xs ++ ys)) - n) (length xs - n) (xs ++ ys)
    ∙ ap (λ m. drop m (xs ++ ys)) whole

pub keep_map : {X Y : Type 0} (f : X → Y) (n : ℕ) (xs : List X) → keep_last n (map f xs) ≡ map f (keep_last n xs)
keep_map f n xs = drop-map f (length (map f xs) - n) xs ∙ ap (λ m. map f (drop (m - n) xs)) (length-map xs f)

pub keep_all : {X : Type 0} (n : ℕ) (xs : List X) → length xs ≤ n → keep_last n xs ≡ xs
keep_all n xs fits = let none : length xs - n ≡ 0 = omega arith in ap (λ m. drop m xs) none

pub kept_more : {X Y : Type 0} (view : X → Y) (old new rest : List X) (one : X) (all : List Y) → new ≡ keep_last 1000 (old ++ one ∷ [])
    → keep_last 1000 (map view old ++ map view (one ∷ rest)) ≡ all → keep_last 1000 (map view new ++ map view rest) ≡ all
kept_more view old new rest one all pushed so_far =
    ap (λ items. keep_last 1000 (map view items ++ map view rest)) pushed
    ∙ ap (λ items. keep_last 1000 (items ++ map view rest)) (sym (keep_map view 1000 (old ++ one ∷ [])) ∙ ap (keep_last 1000) (map-append view old (one ∷ [])))
    ∙ keep_again 1000 (map view old ++ view one ∷ []) (map view rest)
    ∙ ap (keep_last 1000) (append_assoc (map view old) (view one ∷ []) (map view rest))
    ∙ so_far

pub kept_step : (old new : Buffer StateChange) (rest next : List StateChange) (one : StateChange) (all : List ChangeView)
    → old.capacity ≡ 1000 → new ≡ buffer (keep_last old.capacity (old.items ++ one ∷ [])) old.capacity → rest ≡ one ∷ next
    → keep_last 1000 (map change_view old.items ++ map change_view rest) ≡ all
    → (new.capacity ≡ 1000) × (keep_last 1000 (map change_view new.items ++ map change_view next) ≡ all)
kept_step old new rest next one all room pushed is so_far = (
  ap (λ (buffer : Buffer StateChange). buffer.capacity) pushed ∙ room,
  kept_more change_view old.items new.items next one all
      (ap (λ (buffer : Buffer StateChange). buffer.items) pushed ∙ ap (λ most. keep_last most (old.items ++ one ∷ [])) room)
      (ap (λ items. keep_last 1000 (map change_view old.items ++ map change_view items)) (sym is) ∙ so_far),
)

-- ---- the map

lent_more : (test : Bool) (one : Bor Known) (rest : Option (Bor Known))
    → option_map lent_view (cond test (Some one) rest) ≡ cond test (Some (known_view one.now)) (option_map lent_view rest)
lent_more true one rest = refl
lent_more false one rest = refl

pub by_name_more : (known : List Known) (index next : ℕ) (one : Bor Known) (key q : Key) (before after : Option (Bor Known))
    → next < length known → suc next ≡ index → one.now ≡ get_or known next one.now
    → key.0.now ≡ one.now.host.items → key.1.now ≡ one.now.service.items
    → after ≡ cond (same_key key q) (Some one) before
    → option_map lent_view before ≡ standing_in (map known_view (drop index known)) q.0.now q.1.now
    → option_map lent_view after ≡ standing_in (map known_view (drop next known)) q.0.now q.1.now
by_name_more known index next one key q before after inside step is host service updated so_far =
    let opened : drop next known ≡ one.now ∷ drop index known =
    drop-cons known next one.now inside ∙ ap (λ first. first ∷ drop (suc next) known) (sym is)
    ∙ ap (λ n. one.now ∷ drop n known) step in
    ap (option_map lent_view) updated
    ∙ lent_more (same_key key q) one before
    ∙ (λ i. cond (bytes_eq (host i) q.0.now && bytes_eq (service i) q.1.now) (Some (known_view one.now)) (so_far i))
    ∙ ap (λ list. standing_in (map known_view list) q.0.now q.1.now) (sym opened)

-- what the map has is what the list has
pub known_by : {S : Type 0} (had : Bool) (found : HashMap Key (Bor Known) S) (known : List KnownView) (moment : ℕ) (rows : List ShownObject)
    → ((key : Key) → option_map lent_view (get same_key found key) ≡ standing_in known key.0.now key.1.now)
    → map (known_at had found moment) rows ≡ all_known had known moment rows
known_by had found known moment [] is = refl
known_by had found known moment (row ∷ rows) is =
    λ i. known_with had (is (row.host, row.service) i) moment (object_view row) ∷ known_by had found known moment rows is i

pub changes_by : {S : Type 0} (found : HashMap Key (Bor Known) S) (known : List KnownView) (moment : ℕ) (rows : List ShownObject)
    → ((key : Key) → option_map lent_view (get same_key found key) ≡ standing_in known key.0.now key.1.now)
    → flat_map (change_at found moment) rows ≡ all_changes known moment rows
changes_by found known moment [] is = refl
changes_by found known moment (row ∷ rows) is =
    λ i. change_from moment (object_view row) (state_of (is (row.host, row.service) i)) ++ changes_by found known moment rows is i

-- ---- what is found

found_map : {A B : Type 0} (made : A → B) (test : B → Bool) (list : List A)
    → find test (map made list) ≡ option_map made (find (λ one. test (made one)) list)
found_map made test [] = refl
found_map made test (one ∷ list) = elim (cases_Bool (test (made one))) [
  | inl passes ↦ rw passes refl
  | inr fails ↦ rw fails (found_map made test list)
]

passes_of : {A : Type 0} (test : A → Bool) (list : List A) (one : A) → find test list ≡ Some one → test one ≡ true
passes_of test [] one is = cc
passes_of test (next ∷ list) one is = elim (cases_Bool (test next)) [
  | inl passes ↦ let same : next ≡ one = let here : Some next ≡ Some one = rw passes at is in cc in subst (λ it. test it ≡ true) same passes
  | inr fails ↦ passes_of test list one (rw fails at is)
]

both : (one other : Bool) → one && other ≡ true → (one ≡ true) × (other ≡ true)
both true true e = (refl, refl)
both true false e = cc
both false other e = cc

neither : (one other : Bool) → (one || other) ≡ false → (one ≡ false) × (other ≡ false)
neither true other e = cc
neither false other e = (refl, e)

same_bytes : (one other : List ℕ) → bytes_eq one other ≡ true → one ≡ other
same_bytes one other is = (bytes_eq-Decides one other).0 is

abbrev state_back : ℕ → State
state_back number =
    if number == 0 then Pending
    else if number == 1 then Ok
    else if number == 2 then Warning
    else if number == 3 then Critical
    else if number == 4 then Unknown
    else if number == 5 then Up
    else if number == 6 then Down
    else Unreachable

state_again : (state : State) → state_back (number_of_state state) ≡ state
state_again Pending = refl
state_again Ok = refl
state_again Warning = refl
state_again Critical = refl
state_again Unknown = refl
state_again Up = refl
state_again Down = refl
state_again Unreachable = refl

same_state : (one other : State) → is_same_state one other ≡ true → one ≡ other
same_state one other is =
    let number : number_of_state one ≡ number_of_state other = eqb-true (number_of_state one) (number_of_state other) is in
    sym (state_again one) ∙ ap state_back number ∙ state_again other

-- ---- since when

always : {X : Type 0} (one : X) (rest : List X) (default other : X) → unwrap_or (last_or (Some one) rest) default ≡ unwrap_or (last_or (Some one) rest) other
always one [] default other = refl
always one (next ∷ rest) default other = always next rest default other

last_step : {X : Type 0} (first : X) (rest : List X) (default : X) → unwrap_or (last_or (Some first) rest) default ≡ unwrap_or (last_or None rest) first
last_step first [] default = refl
last_step first (next ∷ rest) default = always next rest default first

-- the moment of the first page of the run, of these pages
abbrev moment_in_run : List ℕ → List ℕ → State → List PageView → ℕ → ℕ
moment_in_run host service state pages moment =
    unwrap_or (last_or None (map (λ (page : PageView). page.moment) (run_of host service state pages))) moment

-- since when, of these pages, where the page after them shows the state, or doesn't
abbrev since_in_run : List ℕ → List ℕ → State → List PageView → Bool → ℕ → Since
since_in_run host service state pages first moment = record {
  moment = moment_in_run host service state pages moment;
  at_least = list_all (goes_on host service state) pages && unwrap_or (last_or None (map (shows host service state) pages)) first;
  is_held = false;
}

module _ (host service : List ℕ) (state : State) (page : PageView) (before : List PageView) (moment : ℕ) where
  abbrev run : List PageView
  run = take_while (goes_on host service state) before

  -- the pages from this one on by which the state goes on
  opened : goes_on host service state page ≡ true → take_while (goes_on host service state) (page ∷ before) ≡ page ∷ run
  opened on =
      take_while-cons (goes_on host service state) page before ∙ ap (λ test. cond test (page ∷ run) []) on

  -- this page shows the state
  run_goes_on : shows host service state page ≡ true → (first : Bool)
      → since_in_run host service state (page ∷ before) first moment ≡ since_in_run host service state before true page.moment
  run_goes_on is first =
      let on : goes_on host service state page ≡ true = ap (λ shown. shown || shows host service Pending page) is in
      let here : run_of host service state (page ∷ before) ≡ page ∷ run_of host service state before =
      ap (filter (shows host service state)) (opened on)
      ∙ ap (λ test. cond test (page ∷ filter (shows host service state) run) (filter (shows host service state) run)) is in
      let from : moment_in_run host service state (page ∷ before) moment ≡ moment_in_run host service state before page.moment =
      ap (λ pages. unwrap_or (last_or None (map (λ (page : PageView). page.moment) pages)) moment) here
      ∙ last_step page.moment (map (λ (page : PageView). page.moment) (run_of host service state before)) moment in
      let oldest = last_step (shows host service state page) (map (shows host service state) before) first
      ∙ ap (unwrap_or (last_or None (map (shows host service state) before))) is in
      λ i. record {
        moment = from i;
        at_least = (on i && list_all (goes_on host service state) before) && oldest i;
        is_held = false;
      }

  -- this page shows the object without a result
  run_waits : shows host service state page ≡ false → shows host service Pending page ≡ true → (first : Bool)
      → since_in_run host service state (page ∷ before) first moment ≡ since_in_run host service state before false moment
  run_waits not_so pending first =
      let on : goes_on host service state page ≡ true = λ i. not_so i || pending i in
      let here : run_of host service state (page ∷ before) ≡ run_of host service state before =
      ap (filter (shows host service state)) (opened on)
      ∙ ap (λ test. cond test (page ∷ filter (shows host service state) run) (filter (shows host service state) run)) not_so in
      let from : moment_in_run host service state (page ∷ before) moment ≡ moment_in_run host service state before moment =
      ap (λ pages. unwrap_or (last_or None (map (λ (page : PageView). page.moment) pages)) moment) here in
      let oldest = last_step (shows host service state page) (map (shows host service state) before) first
      ∙ ap (unwrap_or (last_or None (map (shows host service state) before))) not_so in
      λ i. record {
        moment = from i;
        at_least = (on i && list_all (goes_on host service state) before) && oldest i;
        is_held = false;
      }

  -- this page shows neither
  run_begins : shows host service state page ≡ false → shows host service Pending page ≡ false → (first : Bool)
      → since_in_run host service state (page ∷ before) first moment ≡ since_now true moment
  run_begins not_so not_pending first =
      let off : goes_on host service state page ≡ false = λ i. not_so i || not_pending i in
      let none : take_while (goes_on host service state) (page ∷ before) ≡ [] =
      take_while-cons (goes_on host service state) page before ∙ ap (λ test. cond test (page ∷ run) []) off in
      let from : moment_in_run host service state (page ∷ before) moment ≡ moment =
      ap (λ pages. unwrap_or (last_or None (map (λ (page : PageView). page.moment) (filter (shows host service state) pages))) moment) none in
      λ i. record {
        moment = from i;
        at_least = (off i && list_all (goes_on host service state) before)
            && unwrap_or (last_or None (map (shows host service state) (page ∷ before))) first;
        is_held = false;
      }

-- ---- a row of a page

shows_none : (host service : List ℕ) (state : State) (page : PageView) → row_on host service page ≡ None
    → shows host service state page ≡ false
shows_none host service state page is =
    ap (λ found. option_map_or (λ shown. is_same_state shown state) (option_map (λ (row : ObjectView). row.state) found) false) is

shows_some : (host service : List ℕ) (state : State) (page : PageView) (row : ObjectView) → row_on host service page ≡ Some row
    → shows host service state page ≡ is_same_state row.state state
shows_some host service state page row is =
    ap (λ found. option_map_or (λ shown. is_same_state shown state) (option_map (λ (row : ObjectView). row.state) found) false) is

has_names : (host service : List ℕ) (page : PageView) (row : ObjectView) → row_on host service page ≡ Some row
    → (row.host ≡ host) × (row.service ≡ service)
has_names host service page row is =
    let names = both (bytes_eq row.host host) (bytes_eq row.service service) (passes_of (is_of host service) page.objects row is) in
    (same_bytes row.host host names.0, same_bytes row.service service names.1)

-- the last result after one page more
result_none : (host service : List ℕ) (page : PageView) (before : List PageView) → row_on host service page ≡ None
    → result_of host service (page ∷ before) ≡ None
result_none host service page before is =
    ap (λ test. if test then result_of host service before else option_map (result_on before page.moment) (row_on host service page))
    (shows_none host service Pending page is)
    ∙ ap (option_map (result_on before page.moment)) is

result_some : (host service : List ℕ) (page : PageView) (before : List PageView) (row : ObjectView) → row_on host service page ≡ Some row
    → result_of host service (page ∷ before)
    ≡ (if is_pending row.state then result_of host service before else Some (result_on before page.moment row))
result_some host service page before row is =
    (λ i. if shows_some host service Pending page row is i then result_of host service before
    else option_map (result_on before page.moment) (is i))

-- since when a row has its state, by the pages before its page
since_by_names : (host service : List ℕ) (state : State) (page : PageView) (before : List PageView) (row : ObjectView)
    → row_on host service page ≡ Some row → is_same_state row.state state ≡ true
    → since_of before page.moment row ≡ since_in_run host service state before true page.moment
since_by_names host service state page before row is same =
    let names = has_names host service page row is in
    let alike = same_state row.state state same in
    λ i. since_in_run (names.0 i) (names.1 i) (alike i) before true page.moment

-- ---- by the last result

-- a state that isn't PENDING after a page that shows the object as PENDING
abbrev AfterPending : List ℕ → List ℕ → State → List PageView → ℕ → Type 0
AfterPending host service state pages moment =
    since_result true (result_of host service pages) state moment ≡ since_in_run host service state pages false moment

after_pending_found : (host service : List ℕ) (state : State) (page : PageView) (before : List PageView) (moment : ℕ)
    → is_same_state Pending state ≡ false → AfterPending host service state before moment
    → (found : Option ObjectView) → row_on host service page ≡ found
    → AfterPending host service state (page ∷ before) moment
after_pending_found host service state page before moment other next None is =
    ap (λ result. since_result true result state moment) (result_none host service page before is)
    ∙ sym (run_begins host service state page before moment (shows_none host service state page is)
    (shows_none host service Pending page is) false)
after_pending_found host service state page before moment other next (Some row) is =
    let shown = shows_some host service state page row is in
    let waits = shows_some host service Pending page row is in
    let last = result_some host service page before row is in
    elim (cases_Bool (is_same_state row.state Pending)) [
      | inl pending ↦
          let alike = same_state row.state Pending pending in
          let not_so : is_same_state row.state state ≡ false = ap (λ known. is_same_state known state) alike ∙ other in
          let earlier : result_of host service (page ∷ before) ≡ result_of host service before =
          last ∙ ap (λ test. if test then result_of host service before else Some (result_on before page.moment row)) pending in
          ap (λ result. since_result true result state moment) earlier
          ∙ next
          ∙ sym (run_waits host service state page before moment (shown ∙ not_so) (waits ∙ pending) false)
      | inr known ↦
          let here : result_of host service (page ∷ before) ≡ Some (result_on before page.moment row) =
          last ∙ ap (λ test. if test then result_of host service before else Some (result_on before page.moment row)) known in
          ap (λ result. since_result true result state moment) here
          ∙ elim (cases_Bool (is_same_state row.state state)) [
            | inl same ↦
                ap (λ test. if test then since_of before page.moment row else since_now true moment) same
                ∙ since_by_names host service state page before row is same
                ∙ sym (run_goes_on host service state page before moment (shown ∙ same) false)
            | inr differs ↦
                ap (λ test. if test then since_of before page.moment row else since_now true moment) differs
                ∙ sym (run_begins host service state page before moment (shown ∙ differs) (waits ∙ known) false)
          ]
    ]

after_pending : (host service : List ℕ) (state : State) (pages : List PageView) (moment : ℕ) → is_same_state Pending state ≡ false
    → AfterPending host service state pages moment
after_pending host service state [] moment other = refl
after_pending host service state (page ∷ before) moment other =
    after_pending_found host service state page before moment other (after_pending host service state before moment other)
    (row_on host service page) refl

-- ---- what is known of an object

standing_on : (page : PageView) (before : List PageView) (host service : List ℕ)
    → standing_in (known_of (page ∷ before)) host service
    ≡ option_map (known_on before page.moment) (row_on host service page)
standing_on page before host service =
    found_map (known_on before page.moment) (λ (one : KnownView). bytes_eq one.host host && bytes_eq one.service service) page.objects

since_found : (page : PageView) (before : List PageView) (host service : List ℕ) (state : State) (moment : ℕ) (found : Option ObjectView)
    → row_on host service page ≡ found
    → since_after true (option_map (known_on before page.moment) found) state moment
    ≡ since_in_run host service state (page ∷ before) true moment
since_found page before host service state moment None is =
    sym (run_begins host service state page before moment (shows_none host service state page is)
    (shows_none host service Pending page is) true)
since_found page before host service state moment (Some row) is =
    let shown = shows_some host service state page row is in
    let waits = shows_some host service Pending page row is in
    let names = has_names host service page row is in
    let by_result : Option ResultView → Since = λ result. since_result true result state moment in
    elim (cases_Bool (is_same_state row.state state)) [
      | inl same ↦
          ap (λ test. if test then since_of before page.moment row else by_result (last_result before page.moment row)) same
          ∙ since_by_names host service state page before row is same
          ∙ sym (run_goes_on host service state page before moment (shown ∙ same) true)
      | inr differs ↦
          ap (λ test. if test then since_of before page.moment row else by_result (last_result before page.moment row)) differs
          ∙ elim (cases_Bool (is_same_state row.state Pending)) [
            | inl pending ↦
                let alike = same_state row.state Pending pending in
                let other : is_same_state Pending state ≡ false = ap (λ known. is_same_state known state) (sym alike) ∙ differs in
                ap (λ test. by_result (if test then result_of row.host row.service before else Some (result_on before page.moment row))) pending
                ∙ (λ i. by_result (result_of (names.0 i) (names.1 i) before))
                ∙ after_pending host service state before moment other
                ∙ sym (run_waits host service state page before moment (shown ∙ differs) (waits ∙ pending) true)
            | inr known ↦
                ap (λ test. by_result (if test then result_of row.host row.service before else Some (result_on before page.moment row))) known
                ∙ ap (λ test. if test then since_of before page.moment row else since_now true moment) differs
                ∙ sym (run_begins host service state page before moment (shown ∙ differs) (waits ∙ known) true)
          ]
    ]

since_more : (pages : List PageView) (moment : ℕ) (row : ObjectView)
    → since_after (has_page pages) (standing_in (known_of pages) row.host row.service) row.state moment
    ≡ since_of pages moment row
since_more [] moment row = refl
since_more (page ∷ before) moment row =
    ap (λ standing. since_after true standing row.state moment) (standing_on page before row.host row.service)
    ∙ since_found page before row.host row.service row.state moment (row_on row.host row.service page) refl

result_found : (page : PageView) (before : List PageView) (host service : List ℕ) (found : Option ObjectView)
    → row_on host service page ≡ found
    → result_in (option_map (known_on before page.moment) found) ≡ result_of host service (page ∷ before)
result_found page before host service None is = sym (result_none host service page before is)
result_found page before host service (Some row) is =
    let names = has_names host service page row is in
    (λ i. if is_pending row.state then result_of (names.0 i) (names.1 i) before else Some (result_on before page.moment row))
    ∙ sym (result_some host service page before row is)

result_more : (pages : List PageView) (host service : List ℕ)
    → result_in (standing_in (known_of pages) host service) ≡ result_of host service pages
result_more [] host service = refl
result_more (page ∷ before) host service =
    ap result_in (standing_on page before host service)
    ∙ result_found page before host service (row_on host service page) refl

-- one object of the next page
one_more : (pages : List PageView) (moment : ℕ) (row : ObjectView)
    → known_with (has_page pages) (standing_in (known_of pages) row.host row.service) moment row ≡ known_on pages moment row
one_more pages moment row =
    let since = since_more pages moment row in
    let last = result_more pages row.host row.service in
    λ i. record {
      host = row.host;
      service = row.service;
      state = row.state;
      since = since i;
      result = if is_pending row.state then last i else Some (result_with (since i) row);
      is_held = is_pending row.state && is_some (last i) && (row.stale || nat_lt (moment - (since i).moment) 3600);
      is_stale = row.stale;
    }

known_more : (pages : List PageView) (moment : ℕ) (rows : List ShownObject)
    → all_known (has_page pages) (known_of pages) moment rows ≡ map (known_on pages moment) (map object_view rows)
known_more pages moment [] = refl
known_more pages moment (row ∷ rows) = λ i. one_more pages moment (object_view row) i ∷ known_more pages moment rows i

-- ---- changes

changed_rows : (pages : List PageView) (moment : ℕ) (rows : List ShownObject)
    → all_changes (known_of pages) moment rows
    ≡ flat_map (λ row. change_from moment row (state_before row.host row.service pages)) (map object_view rows)
changed_rows pages moment [] = refl
changed_rows pages moment (row ∷ rows) =
    let before = ap (option_map (λ (result : ResultView). result.state)) (result_more pages row.host.now row.service.now) in
    λ i. change_from moment (object_view row) (before i) ++ changed_rows pages moment rows i

changes_more : (pages : List PageView) (page : StatusPage)
    → changes_of pages ++ changes_if (has_page pages) (all_changes (known_of pages) page.moment page.objects.items)
    ≡ changes_of (page_view page ∷ pages)
changes_more [] page = refl
changes_more (before ∷ earlier) page =
    ap (λ more. changes_of (before ∷ earlier) ++ more) (changed_rows (before ∷ earlier) page.moment page.objects.items)

-- ---- other objects

-- what the map has is what the list has
pub shared_by : {S : Type 0} (found : HashMap Key (Bor Known) S) (known : List KnownView) (rows : List ShownObject)
    → ((key : Key) → option_map lent_view (get same_key found key) ≡ standing_in known key.0.now key.1.now)
    → count_by (λ (row : ShownObject). is_some (standing_at found row)) rows ≡ shared_with known rows
shared_by found known rows is = λ i. count_by (λ (row : ShownObject). is_some (is (row.host, row.service) i)) rows

some_known : {A B : Type 0} (made : A → B) (found : Option A) → is_some (option_map made found) ≡ is_some found
some_known made None = refl
some_known made (Some one) = refl

shared_rows : (page : PageView) (before : List PageView) (rows : List ShownObject)
    → shared_with (known_of (page ∷ before)) rows
    ≡ count_by (λ (row : ObjectView). is_some (state_on row.host row.service page)) (map object_view rows)
shared_rows page before rows =
    let same : (row : ShownObject) → is_some (standing_in (known_of (page ∷ before)) row.host.now row.service.now)
    ≡ is_some (state_on row.host.now row.service.now page) =
    λ row. ap is_some (standing_on page before row.host.now row.service.now)
    ∙ some_known (known_on before page.moment) (row_on row.host.now row.service.now page)
    ∙ sym (some_known (λ (row : ObjectView). row.state) (row_on row.host.now row.service.now page)) in
    (λ i. count_by (λ (row : ShownObject). same row i) rows)
    ∙ sym (count_map (λ (row : ObjectView). is_some (state_on row.host row.service page)) object_view rows)

other_more : (pages : List PageView) (page : StatusPage)
    → (has_page pages && nat_lt (shared_with (known_of pages) page.objects.items)
    (length page.objects.items - shared_with (known_of pages) page.objects.items))
    ≡ is_other_in (page_view page ∷ pages)
other_more [] page = refl
other_more (before ∷ earlier) page =
    let same = shared_rows before earlier page.objects.items in
    let many = sym (length-map page.objects.items object_view) in
    λ i. nat_lt (same i) (many i - same i)

-- ---- what is kept

pub history_more : (pages : List PageView) (page : StatusPage) (old new : HistoryView) (items made : List ChangeView)
    → old.changes ≡ keep_last 1000 items
    → new.known ≡ all_known old.has_page old.known page.moment page.objects.items
    → made ≡ changes_if old.has_page (all_changes old.known page.moment page.objects.items)
    → new.has_page ≡ true
    → new.is_other
    ≡ (old.has_page && nat_lt (shared_with old.known page.objects.items)
    (length page.objects.items - shared_with old.known page.objects.items))
    → new.changes ≡ keep_last 1000 (items ++ made)
    → IsHistoryOf pages old → IsHistoryOf (page_view page ∷ pages) new
history_more pages page old new items made kept known changed has_page is_other changes is = record {
  has_page = has_page;
  is_other = is_other
      ∙ (λ i. is.has_page i && nat_lt (shared_with (is.known i) page.objects.items)
      (length page.objects.items - shared_with (is.known i) page.objects.items))
      ∙ other_more pages page;
  known = known
      ∙ (λ i. all_known (is.has_page i) (is.known i) page.moment page.objects.items)
      ∙ known_more pages page.moment page.objects.items;
  changes = changes
      ∙ sym (keep_again 1000 items made)
      ∙ ap (λ front. keep_last 1000 (front ++ made)) (sym kept ∙ is.changes)
      ∙ keep_again 1000 (changes_of pages) made
      ∙ ap (λ more. keep_last 1000 (changes_of pages ++ more))
      (changed ∙ (λ i. changes_if (is.has_page i) (all_changes (is.known i) page.moment page.objects.items)))
      ∙ ap (keep_last 1000) (changes_more pages page);
}

-- ---- what is shown

pub any_held : (known : List Known) → list_any (λ (one : KnownView). one.is_held) (map known_view known) ≡ list_any (λ (one : Known). one.is_held) known
any_held [] = refl
any_held (one ∷ known) = ap (λ rest. one.is_held || rest) (any_held known)

-- only an object that is PENDING is shown by an earlier result
held_of_known : (before : List PageView) (moment : ℕ) (row : ObjectView) → held_in (known_on before moment row) ≡ held_result before moment row
held_of_known before moment row = elim (cases_Bool (is_pending row.state)) [
  | inl pending ↦
      ap (λ test. if is_held before moment row then (if test then result_of row.host row.service before else Some (result_on before moment row)) else None)
      pending
  | inr known ↦
      let not_held : is_held before moment row ≡ false =
      ap (λ test. test && is_some (result_of row.host row.service before) && (row.stale || nat_lt (moment - first_moment before moment row) 3600)) known in
      ap (λ test. if test then last_result before moment row else None) not_held
      ∙ sym (ap (λ test. if test then result_of row.host row.service before else None) not_held)
]

since_of_known : (before : List PageView) (moment : ℕ) (row : ObjectView) → since_in (known_on before moment row) ≡ shown_since before moment row
since_of_known before moment row =
    ap (λ held. elim held [
      | None ↦ since_of before moment row
      | Some result ↦ record result.since { is_held = not row.stale }
    ]) (held_of_known before moment row)

pub since_on : (before : List PageView) (moment : ℕ) (rows : List ObjectView)
    → map since_in (map (known_on before moment) rows) ≡ map (shown_since before moment) rows
since_on before moment [] = refl
since_on before moment (row ∷ rows) = λ i. since_of_known before moment row i ∷ since_on before moment rows i

held_each : (before : List PageView) (moment : ℕ) (rows : List ObjectView)
    → shown_rows rows (map held_in (map (known_on before moment) rows)) ≡ map (shown_row before moment) rows
held_each before moment [] = refl
held_each before moment (row ∷ rows) = λ i. by_result row (held_of_known before moment row i) ∷ held_each before moment rows i

-- rows of which none is held
none_held : (before : List PageView) (moment : ℕ) (rows : List ObjectView)
    → list_any (λ (one : KnownView). one.is_held) (map (known_on before moment) rows) ≡ false
    → rows ≡ map (shown_row before moment) rows
none_held before moment [] none = refl
none_held before moment (row ∷ rows) none =
    let parts = neither (is_held before moment row) (list_any (λ (one : KnownView). one.is_held) (map (known_on before moment) rows)) none in
    let here : row ≡ shown_row before moment row =
    ap (λ test. by_result row (if test then result_of row.host row.service before else None)) (sym parts.0) in
    λ i. here i ∷ none_held before moment rows parts.1 i

-- rows without earlier results
pub as_they_are : (rows : List ObjectView) → shown_rows rows [] ≡ rows
as_they_are [] = refl
as_they_are (row ∷ rows) = refl

pub held_on : (before : List PageView) (moment : ℕ) (rows : List ObjectView)
    → shown_rows rows (all_held (map (known_on before moment) rows)) ≡ map (shown_row before moment) rows
held_on before moment rows =
    let known = map (known_on before moment) rows in
    elim (cases_Bool (list_any (λ (one : KnownView). one.is_held) known)) [
      | inl some ↦ ap (λ test. shown_rows rows (if test then map held_in known else [])) some ∙ held_each before moment rows
      | inr none ↦
          ap (λ test. shown_rows rows (if test then map held_in known else [])) none
          ∙ as_they_are rows ∙ none_held before moment rows none
    ]
