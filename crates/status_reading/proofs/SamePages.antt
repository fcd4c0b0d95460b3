-- Pages whose texts are the same are the same.
use Rattle.std.proofs.Common.{◌≡◌, ℕ, ◌⊎◌, inl, inr, List, [], ◌∷◌, ◌++◌, map, Option, Some, None, Result, Ok, Err, refl, sym, ap, ◌∙◌, append-nil, subst, arith}
use Rattle.std.specs.Prelude.{codes, MatchResult}
use Rattle.std.specs.List.{flat_map}
use Rattle.std.specs.Fmt.{decimal}
use Rattle.std.proofs.lemmas.List.{append_cancel_left}
use Rattle.gate_model.specs.declared.object.ObjectLine.{ObjectLine}
use Rattle.gate_table.specs.declared.table.TableFault.{TableFault}
use Rattle.gate_table.specs.declared.table.TableFault.TheVariants as table
use Rattle.gate_table.specs.Faults.{IsFaultless, IsOverfull, IsFirstFault, IsFaultOf as IsTableFault}
use Rattle.status_reading.specs.declared.row_faults.RowFault.{RowFault}
use Rattle.status_reading.specs.declared.page.StatusPage.{StatusPage}
use Rattle.status_reading.specs.declared.page.ReadFault.{ReadFault}
use Rattle.status_reading.specs.declared.page.ReadFault.TheVariants.{NoStatus, BadLine, BadRow, OutOfMemory}
use Rattle.status_reading.specs.Rows.{ObjectView, CommentView, DowntimeView, PageView, page_view}
use Rattle.status_reading.specs.Page.{page_text}
use Rattle.status_reading.specs.Readable.{IsReadable}
use Rattle.status_reading.specs.RowFaults.{table_of, table_fault, IsSound, IsUnsound}
use Rattle.status_reading.specs.Faults.{IsCutOff, IsForeign, IsFaultOf}
use Rattle.status_reading.specs.inner.Reading.{IsPageOf}
use Rattle.status_reading.specs.inner.Rows.{RowView, Object, Comment, Downtime, Closing, row_line, closing_rows, rows_of}
use Rattle.status_reading.proofs.PageSteps.{page_rows}
use Rattle.status_reading.proofs.FaultSteps.{rows_readable, same_start, none_cut_off}
use Rattle.status_reading.proofs.SameRows.{same_number, same_rows}

-- ---- the rows of a kind

abbrev added : {A : Type 0} → Option A → List A → List A
added None list = list
added (Some one) list = one ∷ list

abbrev picked : {A : Type 0} → (RowView → Option A) → List RowView → List A
picked pick [] = []
picked pick (row ∷ rows) = added (pick row) (picked pick rows)

picked_block : {A : Type 0} (pick : RowView → Option A) (kind : A → RowView) (block : List A) (rest : List RowView) → ((x : A) → pick (kind x) ≡ Some x)
    → picked pick (map kind block ++ rest) ≡ block ++ picked pick rest
picked_block pick kind [] rest is = refl
picked_block pick kind (first ∷ block) rest is =
    ap (λ one. added one (picked pick (map kind block ++ rest))) (is first) ∙ ap (λ list. first ∷ list) (picked_block pick kind block rest is)

picked_others : {A B : Type 0} (pick : RowView → Option A) (kind : B → RowView) (block : List B) (rest : List RowView) → ((x : B) → pick (kind x) ≡ None)
    → picked pick (map kind block ++ rest) ≡ picked pick rest
picked_others pick kind [] rest is = refl
picked_others pick kind (first ∷ block) rest is =
    ap (λ one. added one (picked pick (map kind block ++ rest))) (is first) ∙ picked_others pick kind block rest is

abbrev as_object : RowView → Option ObjectView
as_object (Object row) = Some row
as_object _ = None

abbrev as_comment : RowView → Option CommentView
as_comment (Comment row) = Some row
as_comment _ = None

abbrev as_downtime : RowView → Option DowntimeView
as_downtime (Downtime row) = Some row
as_downtime _ = None

abbrev as_closing : RowView → Option ℕ
as_closing (Closing moment) = Some moment
as_closing _ = None

abbrev first_of_list : List ℕ → Option ℕ
first_of_list [] = None
first_of_list (first ∷ rest) = Some first

no_object : (closing : Option ℕ) → picked as_object (closing_rows closing) ≡ []
no_object None = refl
no_object (Some moment) = refl

no_comment : (closing : Option ℕ) → picked as_comment (closing_rows closing) ≡ []
no_comment None = refl
no_comment (Some moment) = refl

no_downtime : (closing : Option ℕ) → picked as_downtime (closing_rows closing) ≡ []
no_downtime None = refl
no_downtime (Some moment) = refl

one_closing : (closing : Option ℕ) → first_of_list (picked as_closing (closing_rows closing)) ≡ closing
one_closing None = refl
one_closing (Some moment) = refl

objects_again : (page : PageView) → picked as_object (rows_of page) ≡ page.objects
objects_again page =
    let last = closing_rows page.closing in
    let later = map Downtime page.downtimes ++ last in
    picked_block as_object Object page.objects (map Comment page.comments ++ later) (λ x. refl)
    ∙ ap (λ rest. page.objects ++ rest)
    (picked_others as_object Comment page.comments later (λ x. refl) ∙ picked_others as_object Downtime page.downtimes last (λ x. refl) ∙ no_object page.closing)
    ∙ append-nil page.objects

comments_again : (page : PageView) → picked as_comment (rows_of page) ≡ page.comments
comments_again page =
    let last = closing_rows page.closing in
    let later = map Downtime page.downtimes ++ last in
    picked_others as_comment Object page.objects (map Comment page.comments ++ later) (λ x. refl)
    ∙ picked_block as_comment Comment page.comments later (λ x. refl)
    ∙ ap (λ rest. page.comments ++ rest) (picked_others as_comment Downtime page.downtimes last (λ x. refl) ∙ no_comment page.closing)
    ∙ append-nil page.comments

downtimes_again : (page : PageView) → picked as_downtime (rows_of page) ≡ page.downtimes
downtimes_again page =
    let last = closing_rows page.closing in
    let later = map Downtime page.downtimes ++ last in
    picked_others as_downtime Object page.objects (map Comment page.comments ++ later) (λ x. refl)
    ∙ picked_others as_downtime Comment page.comments later (λ x. refl)
    ∙ picked_block as_downtime Downtime page.downtimes last (λ x. refl)
    ∙ ap (λ rest. page.downtimes ++ rest) (no_downtime page.closing)
    ∙ append-nil page.downtimes

closing_again : (page : PageView) → first_of_list (picked as_closing (rows_of page)) ≡ page.closing
closing_again page =
    let last = closing_rows page.closing in
    let later = map Downtime page.downtimes ++ last in
    ap first_of_list
    (picked_others as_closing Object page.objects (map Comment page.comments ++ later) (λ x. refl)
    ∙ picked_others as_closing Comment page.comments later (λ x. refl)
    ∙ picked_others as_closing Downtime page.downtimes last (λ x. refl))
    ∙ one_closing page.closing

-- ---- pages

pub same_page : (one other : PageView) → IsReadable one → IsReadable other → page_text one ≡ page_text other → one ≡ other
same_page one other readable all is =
    let both = same_start other one [] all readable (is ∙ sym (append-nil (page_text other))) in
    let moment = same_number one.moment other.moment readable.moment all.moment (append_cancel_left (codes "status ") (decimal one.moment) (decimal other.moment) both.0) in
    let rows = same_rows (rows_of one) (rows_of other) (rows_readable one readable) (rows_readable other all) (both.1 ∙ append-nil (flat_map row_line (rows_of other))) in
    let objects = sym (objects_again one) ∙ ap (picked as_object) rows ∙ objects_again other in
    let comments = sym (comments_again one) ∙ ap (picked as_comment) rows ∙ comments_again other in
    let downtimes = sym (downtimes_again one) ∙ ap (picked as_downtime) rows ∙ downtimes_again other in
    let closing = sym (closing_again one) ∙ ap (λ list. first_of_list (picked as_closing list)) rows ∙ closing_again other in
    λ i. record { moment = moment i; objects = objects i; comments = comments i; downtimes = downtimes i; closing = closing i }

-- ---- a page has no fault

none_bad : (text : List ℕ) (before page : PageView) → IsReadable before → IsReadable page → text ≡ page_text page
    → IsCutOff text (page_text before) ⊎ IsForeign text (page_text before) → ⊥
none_bad text before page readable all is (inl cut) =
    none_cut_off (rows_of before) (rows_of page) cut.line (rows_readable before readable) (rows_readable page all) cut.some cut.one_line
    (same_start before page cut.line readable all (sym is ∙ cut.whole)).1
none_bad text before page readable all is (inr foreign) = foreign.none page foreign.rest all (sym is ∙ foreign.whole)

-- ---- a page whose rows have no fault

no_some : {A : Type 0} (one : A) → ◌≡◌ {A = Option A} None (Some one) → ⊥
no_some one is = cc

no_fault : (lines : List ObjectLine) (cause : TableFault) → IsFaultless lines → IsOverfull lines cause ⊎ IsFirstFault lines cause → ⊥
no_fault lines cause good (inl many) = omega (arith, good.few, many.many)
no_fault lines cause good (inr first) = no_some cause (sym (good.each first.index) ∙ first.here)

no_table : (lines : List ObjectLine) (line : ℕ) (fault : RowFault) (cause : TableFault) → IsFaultless lines → IsTableFault lines cause
    → BadRow line fault ≡ table_fault cause → ⊥
no_table lines line fault (table.BadName number) good here is = no_fault lines (table.BadName number) good here
no_table lines line fault (table.NoSuchHost number) good here is = no_fault lines (table.NoSuchHost number) good here
no_table lines line fault (table.DuplicateHost number) good here is = no_fault lines (table.DuplicateHost number) good here
no_table lines line fault (table.DuplicateService number) good here is = no_fault lines (table.DuplicateService number) good here
no_table lines line fault (table.TooMany number) good here is = no_fault lines (table.TooMany number) good here
no_table lines line fault table.OutOfMemory good here is = cc

never_both : (page : PageView) (fault : ReadFault) → IsSound page → IsUnsound page fault → fault ≡ OutOfMemory
never_both page NoStatus sound fault = absurd fault
never_both page (BadLine number) sound fault = absurd fault
never_both page (BadRow line fault) sound (inl none) = absurd (no_table (table_of page) line fault none.cause sound.table none.here none.fault_is)
never_both page (BadRow line fault) sound (inr first) = absurd (no_some (line, fault) (sym sound.rows ∙ first.here))
never_both page OutOfMemory sound fault = refl

pub faultless : (text : List ℕ) (fault : ReadFault) (page : PageView) → IsFaultOf text fault → IsReadable page → IsSound page → text ≡ page_text page
    → fault ≡ OutOfMemory
faultless text NoStatus page fault all sound is = absurd (fault page.moment (flat_map row_line (rows_of page)) all.moment (is ∙ page_rows page))
faultless text (BadLine number) page fault all sound is = absurd (none_bad text fault.before page fault.readable all is fault.bad)
faultless text (BadRow line why) page fault all sound is =
    let same = same_page fault.page page fault.readable all (sym fault.whole ∙ is) in
    never_both page (BadRow line why) sound (subst (λ (found : PageView). IsUnsound found (BadRow line why)) same fault.unsound)
faultless text OutOfMemory page fault all sound is = refl

-- a page with an unsound row has this fault
pub unsound_fault : (text : List ℕ) (page : PageView) (fault : ReadFault) → IsPageOf text page → IsUnsound page fault → IsFaultOf text fault
unsound_fault text page NoStatus of fault = absurd fault
unsound_fault text page (BadLine number) of fault = absurd fault
unsound_fault text page (BadRow line why) of fault = record { page = page; readable = of.readable; whole = of.whole; unsound = fault }
unsound_fault text page OutOfMemory of fault = tt

-- what reading ensures
abbrev pub Reading : List ℕ → Result StatusPage ReadFault → Type 0
Reading text result = MatchResult result (λ page. IsPageOf text (page_view page) × IsSound (page_view page)) (IsFaultOf text)

-- the page of rows is read as them
pub reads_page : (text : List ℕ) (result : Result StatusPage ReadFault) → Reading text result → (page : PageView) → IsReadable page → IsSound page
    → text ≡ page_text page
    → MatchResult result (λ found. page_view found ≡ page) (λ fault. fault ≡ OutOfMemory)
reads_page text (Ok found) reading page all sound is = same_page (page_view found) page reading.0.readable all (sym reading.0.whole ∙ is)
reads_page text (Err fault) reading page all sound is = faultless text fault page reading all sound is
