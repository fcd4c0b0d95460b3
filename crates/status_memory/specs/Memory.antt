-- What is kept of all fetches of a gateway's page: `IsMemoryOf`. The alarms about the gateway: `alarms_at`; and of them
-- the one by which the page that is kept is old: `old_alarm`. Own rules.
use Rattle.std.specs.Prelude.{◌≡◌, ℕ, ◌-◌, max, min, nat_lt, Bool, false, ◌==◌, ◌||◌, if◌then◌else◌, List, [], ◌∷◌, ◌++◌, map, filter_map, reverse, slice_get, Option, Some, None, unwrap_or, is_some, Ok, Err}
use Rattle.std.specs.List.{take_while, last_or}
use Rattle.std.specs.Option.{option_to_list}
use Rattle.status_memory.specs.declared.alarm.Alarm.{Alarm}
use Rattle.status_memory.specs.declared.alarm.Alarm.TheVariants.{NoPage, NoNewPage, StandsStill, ClockAhead, Closing, FewerObjects, OtherObjects}
use Rattle.status_memory.specs.declared.memory.Fetch.{Fetch}
use Rattle.status_memory.specs.declared.memory.Kept.{Kept}
use Rattle.status_memory.specs.declared.memory.Memory.{Memory}

-- the last of a list
abbrev pub last_of : {A : Type 0} → List A → Option A
last_of list = slice_get (reverse list) 0

-- the page that a fetch gave, with its moment
abbrev pub page_in : {T F : Type 0} → Fetch T F → Option (Kept T)
page_in fetch = elim fetch.page [
  | Ok page ↦ Some (record { page = page; moment = fetch.moment })
  | Err fault ↦ None
]

-- why a fetch gave none
abbrev pub fault_in : {T F : Type 0} → Option (Fetch T F) → Option F
fault_in None = None
fault_in (Some fetch) = elim fetch.page [
  | Ok page ↦ None
  | Err fault ↦ Some fault
]

-- the pages that fetches gave, in their order
abbrev pub pages_in : {T F : Type 0} → List (Fetch T F) → List (Kept T)
pages_in fetches = filter_map page_in fetches

-- whether a page has so many objects
abbrev pub has_objects : {T : Type 0} → ℕ → Kept T → Bool
has_objects objects kept = kept.page.objects == objects

-- when the first page was fetched of the run of those that have as many objects as a page of this moment after them. Of
-- these pages the first is the newest.
abbrev pub run_start : {T : Type 0} → ℕ → ℕ → List (Kept T) → ℕ
run_start {T} objects moment before =
    unwrap_or
    (last_or None (map (λ (kept : Kept T). kept.moment) (take_while (has_objects objects) before)))
    moment

-- the same of the newest of these pages
abbrev pub agreed_in : {T : Type 0} → List (Kept T) → ℕ
agreed_in [] = 0
agreed_in (page ∷ before) = run_start page.page.objects page.moment before

-- the most objects after a page of this moment, where pages have had as many objects as it since then: so many after an
-- hour
abbrev pub most_after : ℕ → ℕ → ℕ → ℕ → ℕ
most_after most objects moment agreed = if nat_lt (moment - agreed) 3600 then max most objects else objects

-- the most objects of a page, back to the newest with which pages have had as many objects as it for an hour
abbrev pub most_in : {T : Type 0} → List (Kept T) → ℕ
most_in [] = 0
most_in (page ∷ before) = most_after (most_in before) page.page.objects page.moment (agreed_in (page ∷ before))

-- when a page with other objects than the one before it was fetched
abbrev pub other_at : {T : Type 0} → Kept T → Option ℕ
other_at kept = if kept.page.is_other then Some kept.moment else None

-- when the last of these pages that are so was fetched
abbrev pub other_in : {T : Type 0} → List (Kept T) → Option ℕ
other_in pages = last_of (filter_map other_at pages)

-- the same after one page more
abbrev pub agreed_after : {T : Type 0} → Option (Kept T) → ℕ → ℕ → ℕ → ℕ
agreed_after None agreed objects moment = moment
agreed_after (Some last) agreed objects moment = if has_objects objects last then agreed else moment

abbrev pub other_after : Option ℕ → Bool → ℕ → Option ℕ
other_after other is_other moment = if is_other then Some moment else other

-- this is kept of these fetches, of which the last is the newest: the last page, the fault of the last fetch, the
-- greatest number of objects of a page, and when the last page with other objects than the one before it was fetched
pub record IsMemoryOf {T F : Type 0} (fetches : List (Fetch T F)) (memory : Memory T F) : Type 0 where
  pub last : memory.last ≡ last_of (pages_in fetches)
  pub fault : memory.fault ≡ fault_in (last_of fetches)
  pub most : memory.most ≡ most_in (reverse (pages_in fetches))
  pub agreed : memory.agreed ≡ agreed_in (reverse (pages_in fetches))
  pub other : memory.other ≡ other_in (pages_in fetches)

-- ---- alarms

-- how many seconds before the clock a page was fetched, or its moment is, whichever is more
abbrev pub page_age : {T : Type 0} → ℕ → Kept T → ℕ
page_age now kept = min (max (now - kept.moment) (now - kept.page.moment)) 4294967295

-- the alarm by which a page is old at this clock: a later fetch failed, or it was fetched more than 60 seconds ago; or
-- its moment is more than 60 seconds before the clock, or after it
abbrev pub time_alarm : {T : Type 0} → ℕ → Bool → Kept T → Option Alarm
time_alarm now failed kept =
    if failed || nat_lt 60 (now - kept.moment) then Some (NoNewPage (page_age now kept))
    else if nat_lt 60 (now - kept.page.moment) then Some (StandsStill (page_age now kept))
    else if nat_lt 60 (kept.page.moment - now) then Some (ClockAhead (min (kept.page.moment - now) 4294967295))
    else None

-- this alarm where this holds
abbrev pub alarm_if : Bool → Alarm → List Alarm
alarm_if holds alarm = if holds then alarm ∷ [] else []

-- whether a moment is of the last hour
abbrev pub is_recent : ℕ → Option ℕ → Bool
is_recent now None = false
is_recent now (Some moment) = nat_lt (now - moment) 3600

-- the alarms about a gateway of which this page is kept, where its pages have shown this many objects at most, and the
-- last one with other objects than the one before it was fetched then
abbrev pub page_alarms : {T : Type 0} → ℕ → Bool → Kept T → ℕ → Option ℕ → List Alarm
page_alarms now failed kept most other =
    option_to_list (time_alarm now failed kept)
    ++ alarm_if kept.page.closing Closing
    ++ alarm_if (nat_lt kept.page.objects most) (FewerObjects kept.page.objects most)
    ++ alarm_if (is_recent now other) OtherObjects

-- the alarms about a gateway, whether such a page is kept or none
abbrev pub alarms_from : {T : Type 0} → ℕ → Bool → Option (Kept T) → ℕ → Option ℕ → List Alarm
alarms_from now failed last most other = elim last [
  | None ↦ NoPage ∷ []
  | Some kept ↦ page_alarms now failed kept most other
]

-- the alarms at this clock about a gateway whose page was fetched so, the newest fetch last
abbrev pub alarms_at : {T F : Type 0} → ℕ → List (Fetch T F) → List Alarm
alarms_at now fetches =
    let pages = pages_in fetches in
    alarms_from now (is_some (fault_in (last_of fetches))) (last_of pages) (most_in (reverse pages)) (other_in pages)

-- ---- the same of what is kept

abbrev pub age_of : {T F : Type 0} → ℕ → Memory T F → ℕ
age_of now memory = elim memory.last [ None ↦ 0 | Some kept ↦ page_age now kept ]

-- the last page is old where there is such an alarm
abbrev pub old_alarm : {T F : Type 0} → ℕ → Memory T F → Option Alarm
old_alarm now memory = elim memory.last [ None ↦ None | Some kept ↦ time_alarm now (is_some memory.fault) kept ]

abbrev pub alarms_of : {T F : Type 0} → ℕ → Memory T F → List Alarm
alarms_of now memory = alarms_from now (is_some memory.fault) memory.last memory.most memory.other
