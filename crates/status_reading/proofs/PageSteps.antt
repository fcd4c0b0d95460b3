-- A page as one list of rows, and a page that grows by a row.
use Rattle.std.proofs.Common.{◌≡◌, ℕ, ◌+◌, ◌≤◌, true, ◌&&◌, ◌==◌, List, [], ◌∷◌, ◌++◌, length, map, Option, Some, None, refl, sym, ap, ◌∙◌, arith, append-nil, append_assoc}
use Rattle.std.specs.Prelude.{is_none}
use Rattle.std.specs.List.{flat_map, AllByRecursion}
use Rattle.std.proofs.lemmas.Bool.{ne_eqb}
use Rattle.std.proofs.lemmas.Grind.{flat_map-append}
use Rattle.std.proofs.lemmas.List.{map-append, length-append}
use Rattle.std.proofs.lemmas.List.Folds.{flat_map-map}
use Rattle.status_reading.specs.Rows.{ObjectView, CommentView, DowntimeView, PageView}
use Rattle.status_reading.specs.Page.{status_line, object_line, comment_line, downtime_line, closing_line, page_text}
use Rattle.status_reading.specs.Readable.{Fits, IsReadable, IsReadableObject, IsReadableComment, IsReadableDowntime}
use Rattle.status_reading.specs.Faults.{closing_lines, line_count}
use Rattle.status_reading.specs.inner.Rows.{RowView, Object, Comment, Downtime, Closing, content, row_line, IsReadableRow, has_none, may_go_on, with_row, closing_rows, rows_of}

pub none_of_map : {A B : Type 0} (view : A → B) (list : List A) → has_none (map view list) ≡ (length list == 0)
none_of_map view [] = refl
none_of_map view (first ∷ list) = sym (ne_eqb (length (first ∷ list)) 0 (λ is. omega arith))

-- ---- the text of the rows

closing_text : (closing : Option ℕ) → flat_map row_line (closing_rows closing) ≡ closing_line closing
closing_text None = refl
closing_text (Some moment) = append-nil (row_line (Closing moment))

rows_text : (page : PageView)
    → flat_map row_line (rows_of page)
    ≡ flat_map object_line page.objects ++ (flat_map comment_line page.comments ++ (flat_map downtime_line page.downtimes ++ closing_line page.closing))
rows_text page =
    let last = closing_rows page.closing in
    let later = map Downtime page.downtimes ++ last in
    let rest = map Comment page.comments ++ later in
    flat_map-append row_line (map Object page.objects) rest
    ∙ ap (λ text. text ++ flat_map row_line rest) (flat_map-map row_line Object page.objects)
    ∙ ap (λ text. flat_map object_line page.objects ++ text)
    (flat_map-append row_line (map Comment page.comments) later
    ∙ ap (λ text. text ++ flat_map row_line later) (flat_map-map row_line Comment page.comments)
    ∙ ap (λ text. flat_map comment_line page.comments ++ text)
    (flat_map-append row_line (map Downtime page.downtimes) last
    ∙ ap (λ text. text ++ flat_map row_line last) (flat_map-map row_line Downtime page.downtimes)
    ∙ ap (λ text. flat_map downtime_line page.downtimes ++ text) (closing_text page.closing)))

pub page_rows : (page : PageView) → page_text page ≡ status_line page.moment ++ flat_map row_line (rows_of page)
page_rows page =
    let first = status_line page.moment in
    let objects = flat_map object_line page.objects in
    let comments = flat_map comment_line page.comments in
    let downtimes = flat_map downtime_line page.downtimes in
    let closing = closing_line page.closing in
    append_assoc (first ++ objects ++ comments) downtimes closing
    ∙ append_assoc (first ++ objects) comments (downtimes ++ closing)
    ∙ append_assoc first objects (comments ++ (downtimes ++ closing))
    ∙ ap (λ text. first ++ text) (sym (rows_text page))

-- ---- one more row

regroup : (xs ys zs one : List RowView) → xs ++ (ys ++ (zs ++ one)) ≡ (xs ++ (ys ++ (zs ++ []))) ++ one
regroup xs ys zs one =
    ap (λ rows. xs ++ rows) (sym (append_assoc ys zs one))
    ∙ sym (append_assoc xs (ys ++ zs) one)
    ∙ ap (λ rows. (xs ++ (ys ++ rows)) ++ one) (sym (append-nil zs))

mapped : {A : Type 0} (kind : A → RowView) (rows : List A) (row : A) → map kind (rows ++ row ∷ []) ++ [] ≡ map kind rows ++ kind row ∷ []
mapped kind rows row = append-nil (map kind (rows ++ row ∷ [])) ∙ map-append kind rows (row ∷ [])

object_added : (os : List ObjectView) (o : ObjectView) (cs : List CommentView) (ds : List DowntimeView) (last : Option ℕ) → is_none last && (has_none cs && has_none ds) ≡ true
    → map Object (os ++ o ∷ []) ++ (map Comment cs ++ (map Downtime ds ++ closing_rows last))
    ≡ (map Object os ++ (map Comment cs ++ (map Downtime ds ++ closing_rows last))) ++ Object o ∷ []
object_added os o [] [] None is = mapped Object os o ∙ regroup (map Object os) [] [] (Object o ∷ [])
object_added os o (c ∷ cs) ds None is = cc
object_added os o [] (d ∷ ds) None is = cc
object_added os o cs ds (Some moment) is = cc

comment_added : (os : List ObjectView) (cs : List CommentView) (c : CommentView) (ds : List DowntimeView) (last : Option ℕ) → is_none last && has_none ds ≡ true
    → map Object os ++ (map Comment (cs ++ c ∷ []) ++ (map Downtime ds ++ closing_rows last))
    ≡ (map Object os ++ (map Comment cs ++ (map Downtime ds ++ closing_rows last))) ++ Comment c ∷ []
comment_added os cs c [] None is = ap (λ rows. map Object os ++ rows) (mapped Comment cs c) ∙ regroup (map Object os) (map Comment cs) [] (Comment c ∷ [])
comment_added os cs c (d ∷ ds) None is = cc
comment_added os cs c ds (Some moment) is = cc

downtime_added : (os : List ObjectView) (cs : List CommentView) (ds : List DowntimeView) (d : DowntimeView) (last : Option ℕ) → is_none last ≡ true
    → map Object os ++ (map Comment cs ++ (map Downtime (ds ++ d ∷ []) ++ closing_rows last))
    ≡ (map Object os ++ (map Comment cs ++ (map Downtime ds ++ closing_rows last))) ++ Downtime d ∷ []
downtime_added os cs ds d None is =
    ap (λ rows. map Object os ++ (map Comment cs ++ rows)) (mapped Downtime ds d) ∙ regroup (map Object os) (map Comment cs) (map Downtime ds) (Downtime d ∷ [])
downtime_added os cs ds d (Some moment) is = cc

closing_added : (os : List ObjectView) (cs : List CommentView) (ds : List DowntimeView) (last : Option ℕ) (moment : ℕ) → is_none last ≡ true
    → map Object os ++ (map Comment cs ++ (map Downtime ds ++ Closing moment ∷ []))
    ≡ (map Object os ++ (map Comment cs ++ (map Downtime ds ++ closing_rows last))) ++ Closing moment ∷ []
closing_added os cs ds None moment is = regroup (map Object os) (map Comment cs) (map Downtime ds) (Closing moment ∷ [])
closing_added os cs ds (Some other) moment is = cc

text_added : (page after : PageView) (row : RowView) → after.moment ≡ page.moment → rows_of after ≡ rows_of page ++ row ∷ []
    → page_text after ≡ page_text page ++ row_line row
text_added page after row same added =
    let first = status_line page.moment in
    let rows = flat_map row_line (rows_of page) in
    page_rows after
    ∙ ap (λ moment. status_line moment ++ flat_map row_line (rows_of after)) same
    ∙ ap (λ rows. first ++ flat_map row_line rows) added
    ∙ ap (λ text. first ++ text) (flat_map-append row_line (rows_of page) (row ∷ []) ∙ ap (λ text. rows ++ text) (append-nil (row_line row)))
    ∙ sym (append_assoc first rows (row_line row))
    ∙ ap (λ text. text ++ row_line row) (sym (page_rows page))

pub text_more : (page : PageView) (row : RowView) → may_go_on page row ≡ true → page_text (with_row page row) ≡ page_text page ++ row_line row
text_more page (Object row) go = text_added page (with_row page (Object row)) (Object row) refl (object_added page.objects row page.comments page.downtimes page.closing go)
text_more page (Comment row) go = text_added page (with_row page (Comment row)) (Comment row) refl (comment_added page.objects page.comments row page.downtimes page.closing go)
text_more page (Downtime row) go = text_added page (with_row page (Downtime row)) (Downtime row) refl (downtime_added page.objects page.comments page.downtimes row page.closing go)
text_more page (Closing moment) go = text_added page (with_row page (Closing moment)) (Closing moment) refl (closing_added page.objects page.comments page.downtimes page.closing moment go)

all_more : {A : Type 0} (P : A → Type 0) (list : List A) (one : A) → AllByRecursion P list → P one → AllByRecursion P (list ++ one ∷ [])
all_more P [] one all last = (last, tt)
all_more P (first ∷ list) one all last = (all.0, all_more P list one all.1 last)

pub readable_more : (page : PageView) (row : RowView) → IsReadable page → IsReadableRow row → IsReadable (with_row page row)
readable_more page (Object row) all one = record { moment = all.moment; objects = all_more IsReadableObject page.objects row all.objects one; comments = all.comments; downtimes = all.downtimes; closing = all.closing }
readable_more page (Comment row) all one = record { moment = all.moment; objects = all.objects; comments = all_more IsReadableComment page.comments row all.comments one; downtimes = all.downtimes; closing = all.closing }
readable_more page (Downtime row) all one = record { moment = all.moment; objects = all.objects; comments = all.comments; downtimes = all_more IsReadableDowntime page.downtimes row all.downtimes one; closing = all.closing }
readable_more page (Closing moment) all one = record { moment = all.moment; objects = all.objects; comments = all.comments; downtimes = all.downtimes; closing = one }

none_closing : (closing : Option ℕ) → is_none closing ≡ true → closing_lines closing ≡ 0
none_closing None is = refl
none_closing (Some moment) is = cc

pub count_more : (page : PageView) (row : RowView) → may_go_on page row ≡ true → line_count (with_row page row) ≡ line_count page + 1
count_more page (Object row) go = omega (arith, length-append page.objects (row ∷ []))
count_more page (Comment row) go = omega (arith, length-append page.comments (row ∷ []))
count_more page (Downtime row) go = omega (arith, length-append page.downtimes (row ∷ []))
count_more page (Closing moment) go = omega (arith, none_closing page.closing go)

-- ---- the page that was read so far, and the text that is left

pub record IsSoFar (text : List ℕ) (page : PageView) (rest : List ℕ) (number : ℕ) : Type 0 where
  pub whole : text ≡ page_text page ++ rest
  pub readable : IsReadable page
  pub count : number ≡ line_count page
  pub room : number + length rest ≤ length text

pub first_so_far : (text : List ℕ) (moment : ℕ) (rest : List ℕ) → text ≡ status_line moment ++ rest → Fits moment
    → IsSoFar text (record { moment = moment; objects = []; comments = []; downtimes = []; closing = None }) rest 1
first_so_far text moment rest is fits =
    let first = status_line moment in
    let alone : first ++ [] ++ [] ++ [] ++ [] ≡ first = append-nil (first ++ [] ++ [] ++ []) ∙ append-nil (first ++ [] ++ []) ∙ append-nil (first ++ []) ∙ append-nil first in
    record {
      whole = is ∙ ap (λ front. front ++ rest) (sym alone);
      readable = record { moment = fits; objects = tt; comments = tt; downtimes = tt; closing = tt };
      count = refl;
      room = omega (arith, ap length is, length-append first rest);
    }

pub more_so_far : (text : List ℕ) (page : PageView) (rest : List ℕ) (number : ℕ) (row : RowView) (after : List ℕ) → IsSoFar text page rest number
    → rest ≡ content row ++ 10 ∷ after → IsReadableRow row → may_go_on page row ≡ true → IsSoFar text (with_row page row) after (number + 1)
more_so_far text page rest number row after so is readable go = record {
  whole =
      so.whole
      ∙ ap (λ back. page_text page ++ back) (is ∙ sym (append_assoc (content row) (10 ∷ []) after))
      ∙ sym (append_assoc (page_text page) (row_line row) after)
      ∙ ap (λ front. front ++ after) (sym (text_more page row go));
  readable = readable_more page row so.readable readable;
  count = omega (arith, so.count, count_more page row go);
  room = omega (arith, so.room, ap length is, length-append (content row) (10 ∷ after));
}
