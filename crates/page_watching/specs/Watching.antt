-- What is kept of each gateway: what a fetch gave, as it is kept (`IsFetchOf`), and what a memory holds, whoever else
-- reads its page (`memory_view`).
use Rattle.std.specs.Prelude.{◌≡◌, ℕ, ◌⊎◌, List, ◌∷◌, length, map, is_some, Option, Some, None, Result, Ok, Err, Vec}
use Rattle.std.specs.declared.alloc.Global.{Global}
use Rattle.std.specs.declared.sync.Arc.{Arc}
use Rattle.std.specs.Arc.{arc_value}
use Rattle.std.specs.Option.{option_map}
use Rattle.circular_buffer.specs.Buffer.{keep_last}
use Rattle.status_reading.specs.Rows.{PageView}
use Rattle.status_reading.specs.Faults.{IsFaultOf}
use Rattle.status_reading.specs.Text.{IsTextOf}
use Rattle.status_memory.specs.declared.memory.Page.{Page}
use Rattle.status_memory.specs.declared.memory.Fetch.{Fetch}
use Rattle.status_memory.specs.declared.memory.Kept.{Kept}
use Rattle.status_memory.specs.declared.memory.Memory.{Memory}
use Rattle.status_memory.specs.History.{HistoryView, shown_row, shown_rows, shown_since, changes_of, change_view, result_view, is_other_in, IsHistoryOf}
use Rattle.page_watching.specs.declared.places.Place.{Place}
use Rattle.page_fetching.specs.declared.fetching.FetchFault.{FetchFault}
use Rattle.page_watching.specs.declared.causes.NoPage.{NoPage}
use Rattle.page_watching.specs.declared.causes.NoPage.TheVariants as none
use Rattle.page_watching.specs.declared.watching.Contents.{Contents}
use Rattle.page_watching.specs.declared.watching.Watched.{Watched}
use Rattle.page_watching.specs.declared.watching.Seen.{Seen}

-- ---- what a fetch gave

-- a page that is shared
abbrev pub Shared : Type 0
Shared = Arc Contents Global

-- the bytes of its text
abbrev pub bytes_of : Shared → List ℕ
bytes_of shared = (arc_value shared).text.bytes.items

-- what a fetch gave: a text or a fault
abbrev pub text_of : Result (Vec ℕ Global) FetchFault → Result (List ℕ) FetchFault
text_of (Ok text) = Ok text.items
text_of (Err fault) = Err fault

-- a page is kept with its moment, with the number of its objects, and with whether its gateway is closing
pub record HasFactsOf (page : PageView) (kept : Page Shared) : Type 0 where
  pub moment : kept.moment ≡ page.moment
  pub objects : kept.objects ≡ length page.objects
  pub closing : kept.closing ≡ is_some page.closing

-- the text is that of a page, and is kept with those
abbrev pub IsPageIn : List ℕ → Page Shared → Type 0
IsPageIn text kept = (bytes_of kept.text ≡ text) × ((page : PageView) × IsTextOf text page × HasFactsOf page kept)

-- a fetch gave this text, or this fault, and this page is kept of it, or this cause why there is none
abbrev pub IsTaken : Result (List ℕ) FetchFault → Result (Page Shared) NoPage → Type 0
IsTaken (Ok text) (Ok page) = IsPageIn text page
IsTaken (Ok text) (Err (none.Read fault)) = IsFaultOf text fault
IsTaken (Err fault) (Err (none.Fetch given)) = given ≡ fault
IsTaken _ _ = ⊥

-- the same of a fetch that ended at this moment
pub record IsFetchOf (fetched : Result (List ℕ) FetchFault) (now : ℕ) (fetch : Fetch Shared NoPage) : Type 0 where
  pub moment : fetch.moment ≡ now
  pub page : IsTaken fetched fetch.page

-- ---- what the history takes in

-- beside the text of a page, after these pages: the earlier results by which its objects are shown, since when each has the
-- state that is shown, and the last 1,000 changes
pub record Notes (before : List PageView) (page : PageView) (contents : Contents) : Type 0 where
  pub shown : shown_rows page.objects (map (option_map result_view) contents.held.items)
      ≡ map (shown_row before page.moment) page.objects
  pub since : contents.since.items ≡ map (shown_since before page.moment) page.objects
  pub changes : map change_view contents.changes.items ≡ keep_last 1000 (changes_of (page ∷ before))

-- after these pages the history is that of them and the page that a text is
abbrev pub TakesIn : List PageView → List ℕ → HistoryView → PageView → Type 0
TakesIn before text history page = IsTextOf text page × IsHistoryOf (page ∷ before) history

-- a text was read after these pages: its page is in the history, and its notes are kept, and whether it has other
-- objects; where memory ran out after
-- that, it is in the history; and otherwise the history has these pages alone
abbrev pub IsObserved : {F : Type 0} → List PageView → List ℕ → HistoryView → Result (Page Shared) F → Type 0
IsObserved before text history (Ok kept) =
    (page : PageView) × TakesIn before text history page × Notes before page (arc_value kept.text)
    × (kept.is_other ≡ is_other_in (page ∷ before))
IsObserved before text history (Err fault) =
    IsHistoryOf before history ⊎ ((page : PageView) × TakesIn before text history page)

-- a fetch after these pages leaves this history
abbrev pub LeavesHistory : List PageView → Result (List ℕ) FetchFault → HistoryView → Fetch Shared NoPage → Type 0
LeavesHistory before (Ok text) history fetch = IsObserved before text history fetch.page
LeavesHistory before (Err fault) history fetch = IsHistoryOf before history

-- ---- gateways

abbrev pub place_of : Watched → Place
place_of watched = watched.place

abbrev pub seen_place : Seen → Place
seen_place seen = seen.place

-- ---- what a memory holds

-- a page with what is shared of it
abbrev pub kept_view : Kept Shared → Kept Contents
kept_view kept = record {
  page = record {
    text = arc_value kept.page.text;
    moment = kept.page.moment;
    objects = kept.page.objects;
    closing = kept.page.closing;
    is_other = kept.page.is_other;
  };
  moment = kept.moment;
}

abbrev pub last_view : Option (Kept Shared) → Option (Kept Contents)
last_view None = None
last_view (Some kept) = Some (kept_view kept)

abbrev pub memory_view : Memory Shared NoPage → Memory Contents NoPage
memory_view memory = record { last = last_view memory.last; fault = memory.fault; most = memory.most; agreed = memory.agreed; other = memory.other }
