-- The first bad line, and what no page is.
use Rattle.std.proofs.Common.{◌≡◌, ℕ, ◌+◌, ◌<◌, inl, inr, Bool, true, false, ◌&&◌, ◌==◌, List, [], ◌∷◌, ◌++◌, length, map, get_or, Option, Some, None, refl, sym, ap, ◌∙◌, arith, append-nil, append_assoc}
use Rattle.std.specs.Prelude.{codes, is_none, if◌then◌else◌}
use Rattle.std.specs.List.{flat_map, list_all, AllByRecursion}
use Rattle.std.specs.Fmt.{decimal}
use Rattle.std.proofs.lemmas.Bool.{and_parts, and_from, false≢true, eqb-true}
use Rattle.std.proofs.lemmas.List.{append_cancel_left}
use Rattle.gate_grammar.specs.Spelling.{joined, holds}
use Rattle.gate_grammar.proofs.Numerals.{decimal_digits, none_in_digits, digit_isnt}
use Rattle.status_reading.specs.Rows.{PageView}
use Rattle.status_reading.specs.Page.{object_fields, comment_fields, downtime_fields, status_line, page_text}
use Rattle.status_reading.specs.Readable.{Fits, MayFit, IsReadable, IsReadableObject, IsReadableComment, IsReadableDowntime}
use Rattle.status_reading.specs.Faults.{IsFirstBad}
use Rattle.status_reading.specs.inner.Reading.{IsPageOf}
use Rattle.status_reading.specs.inner.Rows.{RowView, Object, Comment, Downtime, Closing, content, row_line, IsReadableRow, rank, follows, has_none, may_go_on, closing_rows, rows_of, IsEnded}
use Rattle.status_reading.proofs.CutSteps.{never_holds, same_cut, none_together}
use Rattle.status_reading.proofs.PageSteps.{page_rows, IsSoFar}
use Rattle.status_reading.proofs.OrderSteps.{comes_after, in_order, page_ordered, go_from}

-- ---- lines without LF

pub number_in_line : (number : ℕ) → Fits number → holds 10 (decimal number) ≡ false
number_in_line number fits = none_in_digits (λ byte. byte == 10) (λ byte low high. digit_isnt 10 byte low high (λ e. omega arith)) (decimal number) (decimal_digits number (omega arith))

pub row_in_line : (row : RowView) → IsReadableRow row → holds 10 (content row) ≡ false
row_in_line (Object row) readable = none_together 10 (codes "object") (joined (object_fields row)) refl readable.apart.one_line
row_in_line (Comment row) readable = none_together 10 (codes "comment") (joined (comment_fields row)) refl readable.apart.one_line
row_in_line (Downtime row) readable = none_together 10 (codes "downtime") (joined (downtime_fields row)) refl readable.apart.one_line
row_in_line (Closing moment) readable =
    none_together 10 (codes "closing") (joined (decimal moment ∷ [])) refl (ap (holds 10) (append-nil (decimal moment)) ∙ number_in_line moment readable)

-- the first line without its LF
abbrev pub first_content : ℕ → List ℕ
first_content moment = codes "status " ++ decimal moment

first_in_line : (moment : ℕ) → Fits moment → holds 10 (first_content moment) ≡ false
first_in_line moment fits = none_together 10 (codes "status ") (decimal moment) refl (number_in_line moment fits)

pub status_parts : (text line rest : List ℕ) → text ≡ line ++ 10 ∷ rest → holds 10 line ≡ false → (moment : ℕ) (after : List ℕ) → Fits moment
    → text ≡ status_line moment ++ after → line ≡ first_content moment
status_parts text line rest is clean moment after fits same =
    (same_cut 10 line rest (first_content moment) after clean (first_in_line moment fits)
    (sym is ∙ same ∙ append_assoc (first_content moment) (10 ∷ []) after)).0

pub same_moment_text : (line one other : List ℕ) → line ≡ codes "status " ++ one → line ≡ codes "status " ++ other → one ≡ other
same_moment_text line one other is same = append_cancel_left (codes "status ") one other (sym is ∙ same)

pub status_whole : (text line rest field : List ℕ) (moment : ℕ) → text ≡ line ++ 10 ∷ rest → line ≡ codes "status " ++ field → field ≡ decimal moment
    → text ≡ status_line moment ++ rest
status_whole text line rest field moment is same number =
    is ∙ ap (λ front. front ++ 10 ∷ rest) (same ∙ ap (λ digits. codes "status " ++ digits) number) ∙ sym (append_assoc (first_content moment) (10 ∷ []) rest)

-- ---- the kind of a line

abbrev rank_of : List ℕ → ℕ
rank_of line = if get_or line 0 0 == 111 then 0 else if get_or line 0 0 == 100 then 2 else if get_or line 1 0 == 111 then 1 else 3

rank_is : (row : RowView) → rank_of (content row) ≡ rank row
rank_is (Object row) = refl
rank_is _ = refl

pub same_rank : (one other : RowView) → content one ≡ content other → rank one ≡ rank other
same_rank one other is = sym (rank_is one) ∙ ap rank_of is ∙ rank_is other

abbrev may_go_at : PageView → ℕ → Bool
may_go_at page kind =
    if kind == 0 then is_none page.closing && (has_none page.comments && has_none page.downtimes)
    else if kind == 1 then is_none page.closing && has_none page.downtimes
    else is_none page.closing

may_go_rank : (page : PageView) (row : RowView) → may_go_on page row ≡ may_go_at page (rank row)
may_go_rank page (Object row) = refl
may_go_rank page _ = refl

pub same_go : (page : PageView) (one other : RowView) (line : List ℕ) → line ≡ content one → line ≡ content other → may_go_on page other ≡ false → may_go_on page one ≡ false
same_go page one other line is same stop = may_go_rank page one ∙ ap (may_go_at page) (same_rank one other (sym is ∙ same)) ∙ sym (may_go_rank page other) ∙ stop

-- ---- the rows of readable pages

block_readable : {A : Type 0} (P : A → Type 0) (kind : A → RowView) (block : List A) (rest : List RowView) → ((x : A) → P x → IsReadableRow (kind x))
    → AllByRecursion P block → AllByRecursion IsReadableRow rest → AllByRecursion IsReadableRow (map kind block ++ rest)
block_readable P kind [] rest each all later = later
block_readable P kind (first ∷ block) rest each all later = (each first all.0, block_readable P kind block rest each all.1 later)

closing_readable : (closing : Option ℕ) → MayFit closing → AllByRecursion IsReadableRow (closing_rows closing)
closing_readable None fits = tt
closing_readable (Some moment) fits = (fits, tt)

pub rows_readable : (page : PageView) → IsReadable page → AllByRecursion IsReadableRow (rows_of page)
rows_readable page all =
    let last = closing_rows page.closing in
    let later = map Downtime page.downtimes ++ last in
    block_readable IsReadableObject Object page.objects (map Comment page.comments ++ later) (λ x readable. readable) all.objects
    (block_readable IsReadableComment Comment page.comments later (λ x readable. readable) all.comments
    (block_readable IsReadableDowntime Downtime page.downtimes last (λ x readable. readable) all.downtimes (closing_readable page.closing all.closing)))

-- ---- a page that begins as another one

begun : (row : RowView) (rows : List RowView) (rest : List ℕ) → flat_map row_line (row ∷ rows) ++ rest ≡ content row ++ 10 ∷ (flat_map row_line rows ++ rest)
begun row rows rest = ap (λ text. text ++ rest) (append_assoc (content row) (10 ∷ []) (flat_map row_line rows)) ∙ append_assoc (content row) (10 ∷ flat_map row_line rows) rest

pub record IsNext (line : List ℕ) (before rows : List RowView) : Type 0 where
  pub next : RowView
  pub readable : IsReadableRow next
  pub is : line ≡ content next
  pub after : list_all (λ row. comes_after row next) before ≡ true
  pub among : (test : RowView → Bool) → list_all test rows ≡ true → test next ≡ true

-- the row of the page that has the line after these rows
find_next : (before rows : List RowView) (line more : List ℕ) → AllByRecursion IsReadableRow before → AllByRecursion IsReadableRow rows → in_order rows ≡ true
    → holds 10 line ≡ false → flat_map row_line rows ≡ flat_map row_line before ++ (line ++ 10 ∷ more) → IsNext line before rows
find_next [] [] line more readable all ordered clean is = absurd (never_holds 10 line more [] is refl)
find_next (row ∷ before) [] line more readable all ordered clean is =
    absurd (never_holds 10 (content row) (flat_map row_line before ++ (line ++ 10 ∷ more)) [] (is ∙ begun row before (line ++ 10 ∷ more)) refl)
find_next [] (row ∷ rows) line more readable all ordered clean is =
    let same = same_cut 10 (content row) (flat_map row_line rows) line more (row_in_line row all.0) clean (sym (append_assoc (content row) (10 ∷ []) (flat_map row_line rows)) ∙ is) in
    record { next = row; readable = all.0; is = sym same.0; after = refl; among = λ test passes. (and_parts (test row) (list_all test rows) passes).0 }
find_next (first ∷ before) (row ∷ rows) line more readable all ordered clean is =
    let same = same_cut 10 (content row) (flat_map row_line rows) (content first) (flat_map row_line before ++ (line ++ 10 ∷ more)) (row_in_line row all.0) (row_in_line first readable.0)
    (sym (append_assoc (content row) (10 ∷ []) (flat_map row_line rows)) ∙ is ∙ begun first before (line ++ 10 ∷ more)) in
    let order = and_parts (list_all (λ after. comes_after row after) rows) (in_order rows) ordered in
    let found = find_next before rows line more readable.1 all.1 order.1 clean same.1 in
    record {
      next = found.next;
      readable = found.readable;
      is = found.is;
      after =
          and_from (comes_after first found.next) (list_all (λ row. comes_after row found.next) before)
          (ap (λ kind. follows kind (rank found.next)) (same_rank first row (sym same.0)) ∙ found.among (λ after. comes_after row after) order.0)
          found.after;
      among = λ test passes. found.among test (and_parts (test row) (list_all test rows) passes).1;
    }

-- no page ends in a line without LF
pub none_cut_off : (before rows : List RowView) (line : List ℕ) → AllByRecursion IsReadableRow before → AllByRecursion IsReadableRow rows → 0 < length line
    → holds 10 line ≡ false → flat_map row_line rows ≡ flat_map row_line before ++ line → ⊥
none_cut_off [] [] line readable all some clean is = omega (arith, ap length is)
none_cut_off (row ∷ before) [] line readable all some clean is =
    never_holds 10 (content row) (flat_map row_line before ++ line) [] (is ∙ begun row before line) refl
none_cut_off [] (row ∷ rows) line readable all some clean is =
    never_holds 10 (content row) (flat_map row_line rows) line (sym is ∙ append_assoc (content row) (10 ∷ []) (flat_map row_line rows)) clean
none_cut_off (first ∷ before) (row ∷ rows) line readable all some clean is =
    let same = same_cut 10 (content row) (flat_map row_line rows) (content first) (flat_map row_line before ++ line) (row_in_line row all.0) (row_in_line first readable.0)
    (sym (append_assoc (content row) (10 ∷ []) (flat_map row_line rows)) ∙ is ∙ begun first before line) in
    none_cut_off before rows line readable.1 all.1 some clean same.1

-- the first lines are the same, and so are the rest
pub same_start : (page other : PageView) (rest : List ℕ) → IsReadable page → IsReadable other → page_text other ≡ page_text page ++ rest
    → (first_content other.moment ≡ first_content page.moment) × (flat_map row_line (rows_of other) ≡ flat_map row_line (rows_of page) ++ rest)
same_start page other rest readable all is =
    let rows = flat_map row_line (rows_of page) in
    same_cut 10 (first_content other.moment) (flat_map row_line (rows_of other)) (first_content page.moment) (rows ++ rest)
    (first_in_line other.moment all.moment) (first_in_line page.moment readable.moment)
    (sym (append_assoc (first_content other.moment) (10 ∷ []) (flat_map row_line (rows_of other)))
    ∙ sym (page_rows other) ∙ is ∙ ap (λ front. front ++ rest) (page_rows page)
    ∙ append_assoc (status_line page.moment) rows rest
    ∙ append_assoc (first_content page.moment) (10 ∷ []) (rows ++ rest))

-- ---- where reading stops

pub first_bad : (text : List ℕ) (page : PageView) (rest : List ℕ) (number : ℕ) → IsSoFar text page rest number → 0 < length rest → IsEnded page rest
    → IsFirstBad text (number + 1)
first_bad text page rest number so some (inl none) = record {
  before = page;
  readable = so.readable;
  after = omega (arith, so.count);
  bad = inl (record { line = rest; whole = so.whole; some = some; one_line = none });
}
first_bad text page rest number so some (inr stopped) = record {
  before = page;
  readable = so.readable;
  after = omega (arith, so.count);
  bad = inr (record {
    line = stopped.line;
    rest = stopped.rest;
    whole = so.whole ∙ ap (λ back. page_text page ++ back) stopped.whole;
    one_line = stopped.one_line;
    none = λ other more readable is.
        let same = same_start page other (stopped.line ++ 10 ∷ more) so.readable readable is in
        let found = find_next (rows_of page) (rows_of other) stopped.line more (rows_readable page so.readable) (rows_readable other readable) (page_ordered other) stopped.one_line same.1 in
        false≢true (sym (stopped.none found.next found.readable found.is) ∙ go_from page found.next found.after);
  });
}

pub some_left : (rest : List ℕ) → false ≡ (length rest == 0) → 0 < length rest
some_left [] is = absurd (false≢true is)
some_left (byte ∷ rest) is = omega arith

none_left : (rest : List ℕ) → length rest ≡ 0 → rest ≡ []
none_left [] is = refl
none_left (byte ∷ rest) is = absurd (omega arith)

pub all_read : (text : List ℕ) (page : PageView) (rest : List ℕ) (number : ℕ) → IsSoFar text page rest number → true ≡ (length rest == 0)
    → IsPageOf text page
all_read text page rest number so is = record {
  whole = so.whole ∙ ap (λ back. page_text page ++ back) (none_left rest (eqb-true (length rest) 0 (sym is))) ∙ append-nil (page_text page);
  readable = so.readable;
  short = omega (arith, so.count, so.room);
}
