-- Gateways that are shown one after another, what a query selects of their objects, and the page of that.
use Rattle.std.proofs.Common.{◌≡◌, ℕ, ◌+◌, ◌-◌, ◌*◌, ◌<◌, ◌≤◌, List, [], ◌∷◌, ◌++◌, length, map, take, drop, get_or, Result, Ok, Err, IfOk, ap, sym, ◌∙◌, subst}
use Rattle.std.specs.List.{AllZip}
use Rattle.std.proofs.lemmas.List.{drop-map, length-map, take-map, take_all, take_more}
use Rattle.std.proofs.lemmas.Slice.Zip.{all_zipped_more}
use Rattle.status_merge.specs.declared.gateway.Gateway.{Gateway}
use Rattle.status_merge.specs.declared.gateway.MergedObject.{MergedObject}
use Rattle.status_merge.specs.Asking.{Asked}
use Rattle.status_merge.specs.Selecting.{selected, page_rows}
use Rattle.status_merge.specs.Sorting.{IsInOrder}
use Rattle.status_merge.specs.declared.query.Sort.{Sort}
use Rattle.status_view.specs.declared.view.View.{View}
use Rattle.status_view.specs.Shapes.{page_shape}
use Rattle.status_view.specs.Page.{page_nodes}
use Rattle.status_view.specs.Filling.{filled, html_bytes}
use Rattle.status_serving.specs.declared.headings.Heading.{Heading}
use Rattle.page_watching.specs.declared.watching.Seen.{Seen}
use Rattle.status_serving.specs.Pages.{IsShown, Views, IsPage}

taken_more : {A : Type 0} (list : List A) (index : ℕ) (one : A) → index < length list → one ≡ get_or list index one
    → take (index + 1) list ≡ take index list ++ one ∷ []
taken_more list index one inside is =
    take_more list index one inside ∙ ap (λ last. take index list ++ last ∷ []) (sym is)

pub shown_more : (now : ℕ) (seen : List Seen) (index : ℕ) (one : Seen) (gateways more : List Gateway) (gateway : Gateway)
    → index < length seen → one ≡ get_or seen index one → AllZip (IsShown now) (take index seen) gateways
    → more ≡ gateways ++ gateway ∷ [] → IsShown now one gateway → AllZip (IsShown now) (take (index + 1) seen) more
shown_more now seen index one gateways more gateway inside is shown pushed here =
    let zipped = all_zipped_more (IsShown now) (take index seen) gateways one gateway shown here in
    let whole = subst (AllZip (IsShown now) (take index seen ++ one ∷ [])) (sym pushed) zipped in
    subst (λ (front : List Seen). AllZip (IsShown now) front more) (sym (taken_more seen index one inside is)) whole

pub all_shown : (now : ℕ) (seen : List Seen) (index : ℕ) (gateways : List Gateway) → length seen ≤ index
    → AllZip (IsShown now) (take index seen) gateways → AllZip (IsShown now) seen gateways
all_shown now seen index gateways ends shown =
    subst (λ (front : List Seen). AllZip (IsShown now) front gateways) (take_all index seen ends) shown

pub if_ok : {T E : Type 0} {P Q : T → Type 0} (result : Result T E) → ((value : T) → P value → Q value) → IfOk result P → IfOk result Q
if_ok (Ok value) step known = step value known
if_ok (Err error) step known = tt

pub selected_as : (asked wanted : Asked) (objects all : List MergedObject) → asked ≡ wanted → objects ≡ all
    → selected asked objects ≡ selected wanted all
selected_as asked wanted objects all same_asked same =
    ap (λ asked. selected asked objects) same_asked ∙ ap (selected wanted) same

pub in_order_as : (one other : Sort) (rows wanted shown : List MergedObject) → one ≡ other → rows ≡ wanted
    → IsInOrder one rows shown → IsInOrder other wanted shown
in_order_as one other rows wanted shown same is order =
    subst (λ (rows : List MergedObject). IsInOrder other rows shown) is
    (subst (λ (sort : Sort). IsInOrder sort rows shown) same order)

-- the rows of a page stand for those of what the list stands for
pub page_rows-map : {X Y : Type 0} (view : X → Y) (page : ℕ) (items : List X)
    → map view (page_rows page items) ≡ page_rows page (map view items)
page_rows-map view page items =
    sym (ap (take 500) (drop-map view (500 * (page - 1)) items) ∙ take-map view 500 (drop (500 * (page - 1)) items))

pub length-view : {X Y : Type 0} (view : X → Y) (items : List X) → length items ≡ length (map view items)
length-view view items = sym (length-map items view)

pub page_of : (heading : Heading) (gateways : List Gateway) (query : List ℕ) (clock : ℕ) (body : List ℕ) (view : View)
    → Views heading gateways query clock view → body ≡ html_bytes (filled view (page_nodes (page_shape view)))
    → IsPage heading gateways query clock body
page_of heading gateways query clock body view views page = (view, views, page)
