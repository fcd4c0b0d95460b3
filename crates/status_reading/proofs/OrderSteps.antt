-- The order of the rows of a page.
use Rattle.std.proofs.Common.{◌≡◌, ℕ, Bool, true, false, ◌&&◌, List, [], ◌∷◌, ◌++◌, map, Option, Some, None, refl, sym, ◌∙◌}
use Rattle.std.specs.Prelude.{is_none}
use Rattle.std.specs.List.{list_all}
use Rattle.std.proofs.lemmas.Bool.{and_parts, and_from}
use Rattle.std.proofs.lemmas.List.Folds.{list_all-append}
use Rattle.status_reading.specs.Rows.{ObjectView, CommentView, DowntimeView, PageView}
use Rattle.status_reading.specs.inner.Rows.{RowView, Object, Comment, Downtime, Closing, rank, follows, has_none, may_go_on, closing_rows, rows_of}

-- a row may stand after another
abbrev pub comes_after : RowView → RowView → Bool
comes_after before after = follows (rank before) (rank after)

-- each row may stand after those before it
abbrev pub in_order : List RowView → Bool
in_order [] = true
in_order (row ∷ rows) = list_all (λ after. comes_after row after) rows && in_order rows

same_kind : {A : Type 0} (kind : A → RowView) (block : List A) (first : A) → ((x y : A) → comes_after (kind x) (kind y) ≡ true)
    → list_all (λ after. comes_after (kind first) after) (map kind block) ≡ true
same_kind kind [] first among = refl
same_kind kind (next ∷ block) first among = and_from (comes_after (kind first) (kind next)) (list_all (λ after. comes_after (kind first) after) (map kind block)) (among first next) (same_kind kind block first among)

ordered_block : {A : Type 0} (kind : A → RowView) (block : List A) (rest : List RowView) → ((x y : A) → comes_after (kind x) (kind y) ≡ true)
    → ((x : A) → list_all (λ after. comes_after (kind x) after) rest ≡ true) → in_order rest ≡ true → in_order (map kind block ++ rest) ≡ true
ordered_block kind [] rest among later ordered = ordered
ordered_block kind (first ∷ block) rest among later ordered =
    and_from (list_all (λ after. comes_after (kind first) after) (map kind block ++ rest)) (in_order (map kind block ++ rest))
    (list_all-append (λ after. comes_after (kind first) after) (map kind block) rest ∙ and_from _ _ (same_kind kind block first among) (later first))
    (ordered_block kind block rest among later ordered)

after_object : (one : ObjectView) (rows : List RowView) → list_all (λ after. comes_after (Object one) after) rows ≡ true
after_object one [] = refl
after_object one (Object row ∷ rows) = after_object one rows
after_object one (Comment row ∷ rows) = after_object one rows
after_object one (Downtime row ∷ rows) = after_object one rows
after_object one (Closing moment ∷ rows) = after_object one rows

after_downtime : (one : DowntimeView) (closing : Option ℕ) → list_all (λ after. comes_after (Downtime one) after) (closing_rows closing) ≡ true
after_downtime one None = refl
after_downtime one (Some moment) = refl

after_comment : (one : CommentView) (downtimes : List DowntimeView) (closing : Option ℕ) → list_all (λ after. comes_after (Comment one) after) (map Downtime downtimes ++ closing_rows closing) ≡ true
after_comment one [] None = refl
after_comment one [] (Some moment) = refl
after_comment one (row ∷ downtimes) closing = after_comment one downtimes closing

closing_ordered : (closing : Option ℕ) → in_order (closing_rows closing) ≡ true
closing_ordered None = refl
closing_ordered (Some moment) = refl

pub page_ordered : (page : PageView) → in_order (rows_of page) ≡ true
page_ordered page =
    let last = closing_rows page.closing in
    let later = map Downtime page.downtimes ++ last in
    ordered_block Object page.objects (map Comment page.comments ++ later) (λ x y. refl) (λ x. after_object x (map Comment page.comments ++ later))
    (ordered_block Comment page.comments later (λ x y. refl) (λ x. after_comment x page.downtimes page.closing)
    (ordered_block Downtime page.downtimes last (λ x y. refl) (λ x. after_downtime x page.closing) (closing_ordered page.closing)))

-- ---- a row that may stand after all rows of a page

none_before : {A : Type 0} (kind : A → RowView) (block : List A) (row : RowView) → ((x : A) → comes_after (kind x) row ≡ false)
    → list_all (λ before. comes_after before row) (map kind block) ≡ true → has_none block ≡ true
none_before kind [] row never all = refl
none_before kind (first ∷ block) row never all = let parts = and_parts (comes_after (kind first) row) (list_all (λ before. comes_after before row) (map kind block)) all in sym (never first) ∙ parts.0

open_before : (closing : Option ℕ) (row : RowView) → list_all (λ before. comes_after before row) (closing_rows closing) ≡ true → is_none closing ≡ true
open_before None row all = refl
open_before (Some moment) row all = (and_parts (comes_after (Closing moment) row) true all).0

pub record AllBefore (page : PageView) (row : RowView) : Type 0 where
  pub comments : list_all (λ before. comes_after before row) (map Comment page.comments) ≡ true
  pub downtimes : list_all (λ before. comes_after before row) (map Downtime page.downtimes) ≡ true
  pub closing : list_all (λ before. comes_after before row) (closing_rows page.closing) ≡ true

all_before : (page : PageView) (row : RowView) → list_all (λ before. comes_after before row) (rows_of page) ≡ true → AllBefore page row
all_before page row all =
    let test = λ (before : RowView). comes_after before row in
    let last = closing_rows page.closing in
    let later = map Downtime page.downtimes ++ last in
    let rest = and_parts _ _ (sym (list_all-append test (map Object page.objects) (map Comment page.comments ++ later)) ∙ all) in
    let more = and_parts _ _ (sym (list_all-append test (map Comment page.comments) later) ∙ rest.1) in
    let ends = and_parts _ _ (sym (list_all-append test (map Downtime page.downtimes) last) ∙ more.1) in
    record { comments = more.0; downtimes = ends.0; closing = ends.1 }

pub go_from : (page : PageView) (row : RowView) → list_all (λ before. comes_after before row) (rows_of page) ≡ true → may_go_on page row ≡ true
go_from page (Object row) all =
    let parts = all_before page (Object row) all in
    and_from _ _ (open_before page.closing (Object row) parts.closing)
    (and_from _ _ (none_before Comment page.comments (Object row) (λ x. refl) parts.comments) (none_before Downtime page.downtimes (Object row) (λ x. refl) parts.downtimes))
go_from page (Comment row) all =
    let parts = all_before page (Comment row) all in
    and_from _ _ (open_before page.closing (Comment row) parts.closing) (none_before Downtime page.downtimes (Comment row) (λ x. refl) parts.downtimes)
go_from page (Downtime row) all = open_before page.closing (Downtime row) (all_before page (Downtime row) all).closing
go_from page (Closing moment) all = open_before page.closing (Closing moment) (all_before page (Closing moment) all).closing
