use Rattle.std.proofs.Common.{◌≡◌, ℕ, ◌+◌, ◌<◌, map, length, get_or, sym, ap, ◌∙◌, arith}
use Rattle.std.proofs.lemmas.List.{length-map}
use Rattle.std.proofs.lemmas.Result.{IfOk-weaker}
use Rattle.status_reading.specs.Rows.{object_view, comment_view, downtime_view, page_view}
use Rattle.status_reading.specs.RowFaults.{line_of, active_at, comment_names, downtime_names, id_faults, first_from}
use Rattle.status_reading.proofs.RowSteps.{names_same, objects_same, found_object, found_comment, after_comments}
use Rattle.status_reading.proofs.row_faults.first_fault.Goals as goal

pub returns-in-Some : goal.returns-in-Some
returns-in-Some c =
    let table = c.args.table.now in
    let page = page_view c.args.page.now in
    let long = ap length c.requires.table ∙ length-map page.objects line_of in
    let counts : (place : ℕ) → place < length table → get_or c.as_slice-3.result.now place 0 ≡ active_at table page.downtimes place =
    λ place within. ap (λ list. get_or list place 0) c.as_slice-3.ensures.value ∙ c.in_ok-counts.ensures.counts place within
    ∙ ap (λ rows. active_at table (map downtime_view rows) place) c.as_slice.ensures.value in
    let objects = objects_same table page c.as_slice-3.result.now (map object_view c.as_slice-2.result.now) (ap (map object_view) c.as_slice-2.ensures.value) long counts in
    found_object table page c.in-Some.found (c.in-Some.ensures ∙ objects)

pub returns-in-Some-2 : goal.returns-in-Some-2
returns-in-Some-2 c =
    let table = c.args.table.now in
    let page = page_view c.args.page.now in
    let long = ap length c.requires.table ∙ length-map page.objects line_of in
    let counts : (place : ℕ) → place < length table → get_or c.as_slice-3.result.now place 0 ≡ active_at table page.downtimes place =
    λ place within. ap (λ list. get_or list place 0) c.as_slice-3.ensures.value ∙ c.in_ok-counts.ensures.counts place within
    ∙ ap (λ rows. active_at table (map downtime_view rows) place) c.as_slice.ensures.value in
    let objects = objects_same table page c.as_slice-3.result.now (map object_view c.as_slice-2.result.now) (ap (map object_view) c.as_slice-2.ensures.value) long counts in
    let none = c.in_default.ensures ∙ objects in
    let items = c.args.page.now.objects.items in
    let line : c.len-line.result + 2 ≡ length page.objects + 2 =
    omega (arith, c.len-line.ensures, c.as_slice-2.ensures.len, ap length c.as_slice-2.ensures.value, length-map items object_view) in
    let comments = ap (λ rows. first_from (c.len-line.result + 2) (id_faults table 0 rows))
    (names_same comment_view comment_names c.as_slice-4.result.now ∙ ap (λ rows. map comment_names (map comment_view rows)) c.as_slice-4.ensures.value) in
    found_comment table page (c.len-line.result + 2) c.in-Some-2.found none line (sym c.in-Some-2.is ∙ c.in_ok-found.ensures ∙ comments)

pub returns : goal.returns
returns c =
    let table = c.args.table.now in
    let page = page_view c.args.page.now in
    let long = ap length c.requires.table ∙ length-map page.objects line_of in
    let counts : (place : ℕ) → place < length table → get_or c.as_slice-3.result.now place 0 ≡ active_at table page.downtimes place =
    λ place within. ap (λ list. get_or list place 0) c.as_slice-3.ensures.value ∙ c.in_ok-counts.ensures.counts place within
    ∙ ap (λ rows. active_at table (map downtime_view rows) place) c.as_slice.ensures.value in
    let objects = objects_same table page c.as_slice-3.result.now (map object_view c.as_slice-2.result.now) (ap (map object_view) c.as_slice-2.ensures.value) long counts in
    let none = c.in_default.ensures ∙ objects in
    let items = c.args.page.now.objects.items in
    let line : c.len-line.result + 2 ≡ length page.objects + 2 =
    omega (arith, c.len-line.ensures, c.as_slice-2.ensures.len, ap length c.as_slice-2.ensures.value, length-map items object_view) in
    let comments = ap (λ rows. first_from (c.len-line.result + 2) (id_faults table 0 rows))
    (names_same comment_view comment_names c.as_slice-4.result.now ∙ ap (λ rows. map comment_names (map comment_view rows)) c.as_slice-4.ensures.value) in
    let others = c.args.page.now.comments.items in
    let next : c.len-line.result + 2 + c.len.result ≡ c.len-line.result + 2 + length page.comments =
    omega (arith, c.len.ensures, c.as_slice-4.ensures.len, ap length c.as_slice-4.ensures.value, length-map others comment_view) in
    let rest = after_comments table page (c.len-line.result + 2) (c.len-line.result + 2 + c.len.result) none line
    (sym c.in_default-2.is ∙ c.in_ok-found.ensures ∙ comments) next in
    let downtimes = ap (λ rows. first_from (c.len-line.result + 2 + c.len.result) (id_faults table 0 rows))
    (names_same downtime_view downtime_names c.as_slice-5.result.now ∙ ap (λ rows. map downtime_names (map downtime_view rows)) c.as_slice-5.ensures.value) in
    IfOk-weaker c.ids_fault-2.result _ _ (λ found is. is ∙ downtimes ∙ rest) c.ids_fault-2.ensures
