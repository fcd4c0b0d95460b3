-- The faults of rows, row after row.
use Rattle.std.proofs.Common.{◌≡◌, ℕ, suc, ◌+◌, ◌<◌, ◌≤◌, ◌==◌, ◌&&◌, Bool, true, false, cond, List, [], ◌∷◌, ◌++◌, map, length, take, drop, set, get_or, Option, Some, None, refl, sym, ap, subst, ◌∙◌, arith, drop-cons, append-nil}
use Rattle.std.specs.Prelude.{option_map, is_some, count_by, replicate}
use Rattle.std.specs.List.{enumerate_from}
use Rattle.std.proofs.lemmas.Bool.{eqb-true, eq-eqb, false≢true}
use Rattle.std.proofs.lemmas.List.{length-map, length-append, drop_all, take_all, take_more, length-take, length-set, length-replicate, get_or-replicate, get_or-set_same, get_or-set_other}
use Rattle.std.proofs.lemmas.List.FromFn.{length-enumerate_from}
use Rattle.std.proofs.lemmas.List.Sums.{sum_by_push, count_by-le-length}
use Rattle.gate_model.specs.declared.object.Kind.{Kind}
use Rattle.gate_model.specs.declared.object.ObjectId.{ObjectId}
use Rattle.gate_model.specs.declared.object.ObjectLine.{ObjectLine}
use Rattle.gate_model.specs.Table.{object_at}
use Rattle.status_reading.specs.declared.row_faults.RowFault.{RowFault}
use Rattle.status_reading.specs.declared.rows.ShownDowntime.{ShownDowntime}
use Rattle.status_reading.specs.Rows.{ObjectView, DowntimeView, PageView, downtime_view}
use Rattle.status_reading.specs.RowFaults.{place_on, is_place, active_at, object_fault, NamedView, comment_names, downtime_names, id_fault, id_faults, row_faults, first_from}
use Rattle.status_reading.specs.inner.Named.{counts_for, AreCounts}
use Rattle.status_reading.proofs.SoundSteps.{first-append, first-front}
use Rattle.status_reading.proofs.DepthSteps.{count_map}

pub place_again : (kind : Kind) (found : Option ℕ) → option_map (λ (one : ObjectId). one.place) (option_map (object_at kind) found) ≡ found
place_again kind None = refl
place_again kind (Some place) = refl

-- the counts of active entries are those of the objects
pub same_faults : (counts : List ℕ) (active : ℕ → ℕ) (place : ℕ) (rows : List ObjectView)
    → ((index : ℕ) → index < place + length rows → get_or counts index 0 ≡ active index)
    → map (λ (one : ℕ × ObjectView). object_fault (get_or counts one.0 0) one.1) (enumerate_from place rows)
    ≡ map (λ (one : ℕ × ObjectView). object_fault (active one.0) one.1) (enumerate_from place rows)
same_faults counts active place [] same = refl
same_faults counts active place (row ∷ rows) same =
    let here = ap (λ count. object_fault count row) (same place (omega arith)) in
    let rest = same_faults counts active (place + 1) rows (λ index within. same index (omega (arith, within))) in
    λ i. here i ∷ rest i

-- the elements from an index on
pub drop_next : {A : Type 0} (list : List A) (index : ℕ) (one : A) → index < length list → one ≡ get_or list index one
    → drop index list ≡ one ∷ drop (index + 1) list
drop_next list index one within is =
    let next : suc index ≡ index + 1 = omega arith in
    drop-cons list index one within ∙ ap (λ x. x ∷ drop (suc index) list) (sym is) ∙ ap (λ count. one ∷ drop count list) next

-- ---- the rows of objects, of which the first has the line 2

module _ {A : Type 0} (counts : List ℕ) (view : A → ObjectView) (objects : List A) (whole : Option (ℕ × RowFault)) where
  -- the first fault is that of the rows from this place on
  abbrev pub IsFirstFrom : ℕ → Type 0
  IsFirstFrom place =
      first_from (place + 2) (map (λ (one : ℕ × ObjectView). object_fault (get_or counts one.0 0) one.1) (enumerate_from place (map view (drop place objects))))
      ≡ whole

  pub object_first : (place : ℕ) (row : A) (fault : Option RowFault) → place < length objects → row ≡ get_or objects place row
      → fault ≡ object_fault (get_or counts place 0) (view row) → IsFirstFrom place
      → first_from (place + 2)
      (fault ∷ map (λ (one : ℕ × ObjectView). object_fault (get_or counts one.0 0) one.1) (enumerate_from (place + 1) (map view (drop (place + 1) objects)))) ≡ whole
  object_first place row fault within is same first =
      let F : ℕ × ObjectView → Option RowFault = λ one. object_fault (get_or counts one.0 0) one.1 in
      ap (λ found. first_from (place + 2) (found ∷ map F (enumerate_from (place + 1) (map view (drop (place + 1) objects))))) same
      ∙ sym (ap (λ rows. first_from (place + 2) (map F (enumerate_from place (map view rows)))) (drop_next objects place row within is))
      ∙ first

  pub object_next : (place : ℕ) (row : A) → place < length objects → row ≡ get_or objects place row
      → None ≡ object_fault (get_or counts place 0) (view row) → IsFirstFrom place → IsFirstFrom (place + 1)
  object_next place row within is none first =
      let F : ℕ × ObjectView → Option RowFault = λ one. object_fault (get_or counts one.0 0) one.1 in
      let line : place + 1 + 2 ≡ place + 2 + 1 = omega arith in
      ap (λ number. first_from number (map F (enumerate_from (place + 1) (map view (drop (place + 1) objects))))) line
      ∙ object_first place row None within is none first

  pub object_found : (place : ℕ) (row : A) (fault : RowFault) → place < length objects → row ≡ get_or objects place row
      → Some fault ≡ object_fault (get_or counts place 0) (view row) → IsFirstFrom place → Some (place + 2, fault) ≡ whole
  object_found place row fault within is found first = object_first place row (Some fault) within is found first

  pub object_none : (place : ℕ) → length objects ≤ place → IsFirstFrom place → None ≡ whole
  object_none place past first =
      sym (ap (λ rows. first_from (place + 2) (map (λ (one : ℕ × ObjectView). object_fault (get_or counts one.0 0) one.1) (enumerate_from place (map view rows)))) (drop_all place objects past))
      ∙ first

-- ---- the rows of comments or of downtime entries, of which the first has this line

module _ {A : Type 0} (table : List ObjectLine) (names : A → NamedView) (line : ℕ) (rows : List A) (whole : Option (ℕ × RowFault)) where
  -- the first fault is that of the rows from this index on, which come after this id
  abbrev pub IsFirstAfter : ℕ → ℕ → Type 0
  IsFirstAfter last index = first_from (line + index) (id_faults table last (map names (drop index rows))) ≡ whole

  pub id_first : (last index : ℕ) (row : A) (fault : Option RowFault) → index < length rows → row ≡ get_or rows index row
      → fault ≡ id_fault table last (names row) → IsFirstAfter last index
      → first_from (line + index) (fault ∷ id_faults table (names row).id (map names (drop (index + 1) rows))) ≡ whole
  id_first last index row fault within is same first =
      ap (λ found. first_from (line + index) (found ∷ id_faults table (names row).id (map names (drop (index + 1) rows)))) same
      ∙ sym (ap (λ list. first_from (line + index) (id_faults table last (map names list))) (drop_next rows index row within is))
      ∙ first

  pub id_next : (last index : ℕ) (row : A) → index < length rows → row ≡ get_or rows index row
      → None ≡ id_fault table last (names row) → IsFirstAfter last index → IsFirstAfter (names row).id (index + 1)
  id_next last index row within is none first =
      let number : line + (index + 1) ≡ line + index + 1 = omega arith in
      ap (λ at. first_from at (id_faults table (names row).id (map names (drop (index + 1) rows)))) number
      ∙ id_first last index row None within is none first

  pub id_found : (last index : ℕ) (row : A) (fault : RowFault) → index < length rows → row ≡ get_or rows index row
      → Some fault ≡ id_fault table last (names row) → IsFirstAfter last index → Some (line + index, fault) ≡ whole
  id_found last index row fault within is found first = id_first last index row (Some fault) within is found first

  pub id_none : (last index : ℕ) → length rows ≤ index → IsFirstAfter last index → None ≡ whole
  id_none last index past first =
      sym (ap (λ list. first_from (line + index) (id_faults table last (map names list))) (drop_all index rows past)) ∙ first

-- ---- how many entries are active

pub counts_none : (table : List ObjectLine) (counts : List ℕ) → counts ≡ replicate (length table) 0 → AreCounts table [] counts
counts_none table counts is = record {
  long = ap length is ∙ length-replicate (length table) 0;
  each = λ place within. ap (λ list. get_or list place 0) is ∙ get_or-replicate (length table) place 0 0 within;
}

not_counted : (table : List ObjectLine) (entries : List ShownDowntime) (row : ShownDowntime) (place : ℕ) → counts_for table place row ≡ false
    → count_by (counts_for table place) (entries ++ row ∷ []) ≡ count_by (counts_for table place) entries
not_counted table entries row place not =
    let last = sum_by_push (λ (x : ShownDowntime). cond (counts_for table place x) 1 0) entries row in
    let zero_more : count_by (counts_for table place) entries + 0 ≡ count_by (counts_for table place) entries = omega arith in
    last ∙ ap (λ (b : Bool). count_by (counts_for table place) entries + cond b 1 0) not ∙ zero_more

is_counted : (table : List ObjectLine) (entries : List ShownDowntime) (row : ShownDowntime) (place : ℕ) → counts_for table place row ≡ true
    → count_by (counts_for table place) (entries ++ row ∷ []) ≡ count_by (counts_for table place) entries + 1
is_counted table entries row place is =
    sum_by_push (λ (x : ShownDowntime). cond (counts_for table place x) 1 0) entries row
    ∙ ap (λ (b : Bool). count_by (counts_for table place) entries + cond b 1 0) is

and_false : (b : Bool) → (b && false) ≡ false
and_false true = refl
and_false false = refl

pub counts_unbegun : (table : List ObjectLine) (entries : List ShownDowntime) (counts : List ℕ) (row : ShownDowntime) → is_some row.begin ≡ false
    → AreCounts table entries counts → AreCounts table (entries ++ row ∷ []) counts
counts_unbegun table entries counts row not are = record {
  long = are.long;
  each = λ place within.
      are.each place within
      ∙ sym (not_counted table entries row place (ap (λ (b : Bool). b && is_place place (place_on table row.host.now row.service.now)) not));
}

pub counts_unknown : (table : List ObjectLine) (entries : List ShownDowntime) (counts : List ℕ) (row : ShownDowntime)
    → None ≡ place_on table row.host.now row.service.now → AreCounts table entries counts → AreCounts table (entries ++ row ∷ []) counts
counts_unknown table entries counts row none are = record {
  long = are.long;
  each = λ place within.
      are.each place within
      ∙ sym (not_counted table entries row place (ap (λ found. is_some row.begin && is_place place found) (sym none) ∙ and_false (is_some row.begin)));
}

counted_at : (table : List ObjectLine) (entries : List ShownDowntime) (counts : List ℕ) (row : ShownDowntime) (at place : ℕ) (here : Bool) → (at == place) ≡ here
    → is_some row.begin ≡ true → Some at ≡ place_on table row.host.now row.service.now → at < length table → place < length table → AreCounts table entries counts
    → get_or (set counts at (get_or counts at 0 + 1)) place 0 ≡ count_by (counts_for table place) (entries ++ row ∷ [])
counted_at table entries counts row at place true is begun found within inside are =
    let same = eqb-true at place is in
    let here : counts_for table place row ≡ true =
    ap (λ (b : Bool). b && is_place place (place_on table row.host.now row.service.now)) begun ∙ ap (λ one. is_place place one) (sym found) ∙ is in
    ap (λ index. get_or (set counts at (get_or counts at 0 + 1)) index 0) (sym same)
    ∙ get_or-set_same counts at (get_or counts at 0 + 1) 0 (omega (arith, within, are.long))
    ∙ ap (λ index. get_or counts index 0 + 1) same
    ∙ ap (λ count. count + 1) (are.each place inside)
    ∙ sym (is_counted table entries row place here)
counted_at table entries counts row at place false is begun found within inside are =
    let other : counts_for table place row ≡ false =
    ap (λ (b : Bool). b && is_place place (place_on table row.host.now row.service.now)) begun ∙ ap (λ one. is_place place one) (sym found) ∙ is in
    get_or-set_other counts at place (get_or counts at 0 + 1) 0 (λ same. false≢true (sym is ∙ eq-eqb at place (sym same)))
    ∙ are.each place inside
    ∙ sym (not_counted table entries row place other)

pub counts_more : (table : List ObjectLine) (entries : List ShownDowntime) (counts : List ℕ) (row : ShownDowntime) (at : ℕ) → is_some row.begin ≡ true
    → Some at ≡ place_on table row.host.now row.service.now → at < length table → AreCounts table entries counts
    → AreCounts table (entries ++ row ∷ []) (set counts at (get_or counts at 0 + 1))
counts_more table entries counts row at begun found within are = record {
  long = length-set counts at (get_or counts at 0 + 1) ∙ are.long;
  each = λ place inside. counted_at table entries counts row at place (at == place) refl begun found within inside are;
}

-- a count is at most the number of entries
pub count_fits : (table : List ObjectLine) (entries : List ShownDowntime) (counts : List ℕ) (at : ℕ) → at < length table → AreCounts table entries counts
    → get_or counts at 0 ≤ length entries
count_fits table entries counts at within are = omega (arith, are.each at within, count_by-le-length (counts_for table at) entries)

pub counts_whole : (table : List ObjectLine) (entries : List ShownDowntime) (counts : List ℕ) → AreCounts table entries counts
    → (place : ℕ) → place < length table → get_or counts place 0 ≡ active_at table (map downtime_view entries) place
counts_whole table entries counts are place within =
    are.each place within
    ∙ sym (count_map (λ (row : DowntimeView). is_some row.begin && is_place place (place_on table row.host row.service)) downtime_view entries)

take_one : {A : Type 0} (list : List A) (index : ℕ) (one other : A) → index < length list → one ≡ get_or list index other
    → take (index + 1) list ≡ take index list ++ one ∷ []
take_one list index one other within is = take_more list index other within ∙ ap (λ x. take index list ++ x ∷ []) (sym is)

-- each of the first entries is counted
pub counts_next : (table : List ObjectLine) (entries : List ShownDowntime) (index : ℕ) (row other : ShownDowntime) (counts : List ℕ) → index < length entries
    → row ≡ get_or entries index other → AreCounts table (take index entries ++ row ∷ []) counts → AreCounts table (take (index + 1) entries) counts
counts_next table entries index row other counts within is are =
    subst (λ first. AreCounts table first counts) (sym (take_one entries index row other within is)) are

-- the counts that were written back are the new ones
pub counts_kept : (table : List ObjectLine) (entries : List ShownDowntime) (old new : List ℕ) (long : ℕ) → length old ≡ length table → length old ≡ long
    → AreCounts table entries new → AreCounts table entries (take long (new ++ drop (length new) old))
counts_kept table entries old new long same size are =
    let none = drop_all (length new) old (omega (arith, same, are.long)) in
    let whole : take long (new ++ drop (length new) old) ≡ new =
    ap (λ rest. take long (new ++ rest)) none ∙ ap (take long) (append-nil new) ∙ take_all long new (omega (arith, same, size, are.long)) in
    subst (AreCounts table entries) (sym whole) are

pub counts_fit : (table : List ObjectLine) (entries : List ShownDowntime) (index : ℕ) (counts : List ℕ) → index < length entries
    → AreCounts table (take index entries) counts → (place : ℕ) → place < length table → get_or counts place 0 + 1 ≤ length entries
counts_fit table entries index counts within are place inside =
    omega (arith, count_fits table (take index entries) counts place inside are, length-take index entries, within)

pub counts_all : (table : List ObjectLine) (entries : List ShownDowntime) (index : ℕ) (counts : List ℕ) → length entries ≤ index
    → AreCounts table (take index entries) counts
    → (place : ℕ) → place < length table → get_or counts place 0 ≡ active_at table (map downtime_view entries) place
counts_all table entries index counts past are =
    counts_whole table entries counts (subst (λ first. AreCounts table first counts) (take_all index entries past) are)

-- ---- the rows of a page

abbrev object_faults : List ObjectLine → PageView → List (Option RowFault)
object_faults table page =
    map (λ (one : ℕ × ObjectView). object_fault (active_at table page.downtimes one.0) one.1) (enumerate_from 0 page.objects)

abbrev comment_faults : List ObjectLine → PageView → List (Option RowFault)
comment_faults table page = id_faults table 0 (map comment_names page.comments)

abbrev downtime_faults : List ObjectLine → PageView → List (Option RowFault)
downtime_faults table page = id_faults table 0 (map downtime_names page.downtimes)

length_faults : (table : List ObjectLine) (last : ℕ) (rows : List NamedView) → length (id_faults table last rows) ≡ length rows
length_faults table last [] = refl
length_faults table last (row ∷ rows) = ap suc (length_faults table row.id rows)

pub names_same : {A B C : Type 0} (view : A → B) (names : B → C) (rows : List A) → map (λ row. names (view row)) rows ≡ map names (map view rows)
names_same view names [] = refl
names_same view names (row ∷ rows) = ap (λ rest. names (view row) ∷ rest) (names_same view names rows)

-- the faults by counts are those of the page
pub objects_same : (table : List ObjectLine) (page : PageView) (counts : List ℕ) (objects : List ObjectView) → objects ≡ page.objects
    → length table ≡ length page.objects → ((place : ℕ) → place < length table → get_or counts place 0 ≡ active_at table page.downtimes place)
    → first_from 2 (map (λ (one : ℕ × ObjectView). object_fault (get_or counts one.0 0) one.1) (enumerate_from 0 objects))
    ≡ first_from 2 (object_faults table page)
objects_same table page counts objects same long are =
    ap (λ rows. first_from 2 (map (λ (one : ℕ × ObjectView). object_fault (get_or counts one.0 0) one.1) (enumerate_from 0 rows))) same
    ∙ ap (first_from 2)
    (same_faults counts (active_at table page.downtimes) 0 page.objects (λ index within. are index (omega (arith, within, long))))

pub found_object : (table : List ObjectLine) (page : PageView) (found : ℕ × RowFault) → Some found ≡ first_from 2 (object_faults table page)
    → Some found ≡ first_from 2 (row_faults table page)
found_object table page found is =
    sym (first-front 2 (object_faults table page ++ comment_faults table page) (downtime_faults table page) found
    (first-front 2 (object_faults table page) (comment_faults table page) found (sym is)))

length_objects : (table : List ObjectLine) (page : PageView) → length (object_faults table page) ≡ length page.objects
length_objects table page =
    length-map (enumerate_from 0 page.objects) (λ (one : ℕ × ObjectView). object_fault (active_at table page.downtimes one.0) one.1)
    ∙ length-enumerate_from 0 page.objects

after_objects : (table : List ObjectLine) (page : PageView) (line : ℕ) → None ≡ first_from 2 (object_faults table page) → line ≡ length page.objects + 2
    → first_from 2 (object_faults table page ++ comment_faults table page) ≡ first_from line (comment_faults table page)
after_objects table page line none is =
    let at : 2 + length (object_faults table page) ≡ line = omega (arith, is, length_objects table page) in
    first-append 2 (object_faults table page) (comment_faults table page) (sym none)
    ∙ ap (λ number. first_from number (comment_faults table page)) at

pub found_comment : (table : List ObjectLine) (page : PageView) (line : ℕ) (found : ℕ × RowFault) → None ≡ first_from 2 (object_faults table page)
    → line ≡ length page.objects + 2 → Some found ≡ first_from line (comment_faults table page) → Some found ≡ first_from 2 (row_faults table page)
found_comment table page line found none at is =
    sym (first-front 2 (object_faults table page ++ comment_faults table page) (downtime_faults table page) found
    (after_objects table page line none at ∙ sym is))

pub after_comments : (table : List ObjectLine) (page : PageView) (line next : ℕ) → None ≡ first_from 2 (object_faults table page)
    → line ≡ length page.objects + 2 → None ≡ first_from line (comment_faults table page) → next ≡ line + length page.comments
    → first_from next (downtime_faults table page) ≡ first_from 2 (row_faults table page)
after_comments table page line next none at none_of_comments is =
    let front = object_faults table page ++ comment_faults table page in
    let long : 2 + length front ≡ next =
    omega (arith, is, at, length_objects table page, length-append (object_faults table page) (comment_faults table page), length_faults table 0 (map comment_names page.comments), length-map page.comments comment_names) in
    ap (λ number. first_from number (downtime_faults table page)) (sym long)
    ∙ sym (first-append 2 front (downtime_faults table page) (after_objects table page line none at ∙ sym none_of_comments))
