-- The page of a gateway's board is the page of what the board shows.
use Rattle.std.proofs.Common.{◌≡◌, ℕ, Bool, true, false, List, [], ◌∷◌, ◌++◌, map, Option, Some, None, Result, refl, sym, ap, ◌∙◌}
use Rattle.std.specs.Prelude.{codes, MatchResult, if◌then◌else◌}
use Rattle.std.specs.Option.{option_map}
use Rattle.std.specs.List.{flat_map, AllByRecursion}
use Rattle.std.specs.Fmt.{decimal}
use Rattle.gate_model.specs.declared.record.Moment.{Moment}
use Rattle.gate_model.specs.declared.status.Acknowledgement.{Acknowledgement}
use Rattle.gate_model.specs.declared.comments.Source.{Source}
use Rattle.gate_model.specs.declared.comments.Source.TheVariants as kept
use Rattle.gate_lines.specs.declared.rows.ObjectRow.{ObjectRow}
use Rattle.gate_lines.specs.declared.rows.CommentRow.{CommentRow}
use Rattle.gate_lines.specs.declared.rows.DowntimeRow.{DowntimeRow}
use Rattle.gate_model.specs.Escaping.{escaped}
use Rattle.gate_lines.specs.Lines as gate
use Rattle.gate_lines.specs.Lines.{page_line, service_text, state_name, optional_number, last_moment, freshness_name, persistence_digit, plan_name}
use Rattle.gate_pages.specs.StatusPage.{BoardView, status_text}
use Rattle.status_reading.specs.declared.page.StatusPage.{StatusPage}
use Rattle.status_reading.specs.declared.page.ReadFault.{ReadFault}
use Rattle.status_reading.specs.declared.page.ReadFault.TheVariants.{OutOfMemory}
use Rattle.status_reading.specs.declared.rows.ShownAcknowledgement.TheVariants.{Normal, Sticky}
use Rattle.status_reading.specs.Rows.{page_view}
use Rattle.status_reading.specs.Page.{shown_acknowledgement, shown_source, object_line, comment_line, downtime_line, closing_line, status_line, page_text}
use Rattle.status_reading.specs.Readable.{IsReadable, IsReadableObject, IsReadableComment, IsReadableDowntime}
use Rattle.status_reading.specs.RowFaults.{IsSound}
use Rattle.status_reading.specs.Board.{acknowledgement_shown, source_shown, shown_object, shown_comment, shown_downtime, shown_board, IsPlainObject, IsPlainComment, IsPlainDowntime, IsPlainBoard}
use Rattle.status_reading.proofs.SamePages.{Reading, reads_page}
use Rattle.status_reading.proofs.BoardFields.{text_in_line, text_field, service_field, number_field, optional_field, state_field, freshness_field, persistence_field, plan_field, acknowledgement_field, source_field, fields_apart}

-- ---- the lines

sticky_same : (sticky : Bool) → shown_acknowledgement (if sticky then Sticky else Normal) ≡ (if sticky then codes "sticky" else codes "normal")
sticky_same true = refl
sticky_same false = refl

acknowledgement_same : (made : Option Acknowledgement) → shown_acknowledgement (acknowledgement_shown made) ≡ gate.acknowledgement_name made
acknowledgement_same None = refl
acknowledgement_same (Some made) = sticky_same made.sticky

source_same : (from : Source) → shown_source (source_shown from) ≡ gate.source_name from
source_same kept.User = refl
source_same kept.Ack = refl
source_same (kept.Downtime entry) = refl

object_same : (row : ObjectRow) → object_line (shown_object row) ≡ gate.object_line row
object_same row =
    ap (λ name. page_line (codes "object") (escaped row.host ∷ service_text row.service ∷ state_name row.state ∷ optional_number (last_moment row.last)
    ∷ freshness_name row.stale ∷ name ∷ decimal row.depth ∷ escaped row.output ∷ [])) (acknowledgement_same row.acknowledgement)

comment_same : (row : CommentRow) → comment_line (shown_comment row) ≡ gate.comment_line row
comment_same row =
    ap (λ name. page_line (codes "comment") (decimal row.comment.id ∷ escaped row.host ∷ service_text row.service ∷ name ∷ persistence_digit row.comment.persistent
    ∷ decimal row.moment.0 ∷ escaped row.author ∷ escaped row.text ∷ [])) (source_same row.comment.source)

downtime_same : (row : DowntimeRow) → downtime_line (shown_downtime row) ≡ gate.downtime_line row
downtime_same row = refl

closing_same : (closing : Option Moment) → closing_line (option_map (λ (moment : Moment). moment.0) closing) ≡ gate.closing_line closing
closing_same None = refl
closing_same (Some moment) = refl

lines_same : {A B : Type 0} (line : A → List ℕ) (other : B → List ℕ) (shown : A → B) → ((x : A) → other (shown x) ≡ line x) → (rows : List A)
    → flat_map other (map shown rows) ≡ flat_map line rows
lines_same line other shown same [] = refl
lines_same line other shown same (row ∷ rows) =
    ap (λ text. text ++ flat_map other (map shown rows)) (same row) ∙ ap (λ text. line row ++ text) (lines_same line other shown same rows)

board_text : (board : BoardView) → page_text (shown_board board) ≡ status_text board
board_text board =
    let first = status_line board.moment.0 in
    let objects = lines_same gate.object_line object_line shown_object object_same board.objects in
    let comments = lines_same gate.comment_line comment_line shown_comment comment_same board.comments in
    let downtimes = lines_same gate.downtime_line downtime_line shown_downtime downtime_same board.downtimes in
    let closing = closing_same board.closing in
    λ i. first ++ objects i ++ comments i ++ downtimes i ++ closing i

-- ---- what is shown can be read

object_readable : (row : ObjectRow) → IsPlainObject row → IsReadableObject (shown_object row)
object_readable row plain = record {
  apart =
      fields_apart
      (escaped row.host ∷ service_text row.service ∷ state_name row.state ∷ optional_number (last_moment row.last) ∷ freshness_name row.stale
      ∷ shown_acknowledgement (acknowledgement_shown row.acknowledgement) ∷ decimal row.depth ∷ [])
      (escaped row.output) (
        text_field row.host plain.host,
        (
          service_field row.service plain.service,
          (
            state_field row.state,
            (
              optional_field (last_moment row.last) plain.last,
              (freshness_field row.stale, (acknowledgement_field (acknowledgement_shown row.acknowledgement), (number_field row.depth plain.depth, tt))),
            ),
          ),
        ),
      )
      (text_in_line row.output);
  last = plain.last;
  depth = plain.depth;
}

comment_readable : (row : CommentRow) → IsPlainComment row → IsReadableComment (shown_comment row)
comment_readable row plain = record {
  apart =
      fields_apart
      (decimal row.comment.id ∷ escaped row.host ∷ service_text row.service ∷ shown_source (source_shown row.comment.source)
      ∷ persistence_digit row.comment.persistent ∷ decimal row.moment.0 ∷ escaped row.author ∷ [])
      (escaped row.text) (
        number_field row.comment.id plain.id,
        (
          text_field row.host plain.host,
          (
            service_field row.service plain.service,
            (
              source_field (source_shown row.comment.source),
              (persistence_field row.comment.persistent, (number_field row.moment.0 plain.moment, (text_field row.author plain.author, tt))),
            ),
          ),
        ),
      )
      (text_in_line row.text);
  id = plain.id;
  moment = plain.moment;
}

downtime_readable : (row : DowntimeRow) → IsPlainDowntime row → IsReadableDowntime (shown_downtime row)
downtime_readable row plain =
    let plan = row.scheduled.plan in
    record {
      apart =
          fields_apart
          (decimal row.scheduled.id ∷ escaped row.host ∷ service_text row.service ∷ plan_name plan.fixed ∷ decimal plan.trigger ∷ decimal plan.starts.0
          ∷ decimal plan.ends.0 ∷ decimal plan.lasts ∷ optional_number row.begin ∷ escaped row.author ∷ [])
          (escaped row.text) (
            number_field row.scheduled.id plain.id,
            (
              text_field row.host plain.host,
              (
                service_field row.service plain.service,
                (
                  plan_field plan.fixed,
                  (
                    number_field plan.trigger plain.trigger,
                    (
                      number_field plan.starts.0 plain.start,
                      (
                        number_field plan.ends.0 plain.end,
                        (
                          number_field plan.lasts plain.duration,
                          (optional_field row.begin plain.begin, (text_field row.author plain.author, tt)),
                        ),
                      ),
                    ),
                  ),
                ),
              ),
            ),
          )
          (text_in_line row.text);
      id = plain.id;
      trigger = plain.trigger;
      start = plain.start;
      end = plain.end;
      duration = plain.duration;
      begin = plain.begin;
    }

all_shown : {A B : Type 0} (P : A → Type 0) (Q : B → Type 0) (shown : A → B) → ((x : A) → P x → Q (shown x)) → (rows : List A)
    → AllByRecursion P rows → AllByRecursion Q (map shown rows)
all_shown P Q shown each [] all = tt
all_shown P Q shown each (row ∷ rows) all = (each row all.0, all_shown P Q shown each rows all.1)

board_readable : (board : BoardView) → IsPlainBoard board → IsReadable (shown_board board)
board_readable board plain = record {
  moment = plain.moment;
  objects = all_shown IsPlainObject IsReadableObject shown_object object_readable board.objects plain.objects;
  comments = all_shown IsPlainComment IsReadableComment shown_comment comment_readable board.comments plain.comments;
  downtimes = all_shown IsPlainDowntime IsReadableDowntime shown_downtime downtime_readable board.downtimes plain.downtimes;
  closing = plain.closing;
}

-- the page of a board is read as what the board shows
pub reads_board : (text : List ℕ) (result : Result StatusPage ReadFault) → Reading text result → (board : BoardView) → IsPlainBoard board → IsSound (shown_board board)
    → text ≡ status_text board
    → MatchResult result (λ found. page_view found ≡ shown_board board) (λ fault. fault ≡ OutOfMemory)
reads_board text result reading board plain sound is = reads_page text result reading (shown_board board) (board_readable board plain) sound (is ∙ sym (board_text board))
