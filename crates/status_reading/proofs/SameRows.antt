-- Rows whose lines are the same are the same.
use Rattle.std.proofs.Common.{◌≡◌, ℕ, ◌^◌, ◌==◌, Bool, true, false, List, [], ◌∷◌, ◌++◌, get_or, Option, Some, None, refl, sym, ap, ◌∙◌, arith, append-nil, append_assoc}
use Rattle.std.specs.Prelude.{codes, if◌then◌else◌}
use Rattle.std.specs.List.{flat_map, AllByRecursion}
use Rattle.std.specs.Fmt.{decimal}
use Rattle.std.proofs.lemmas.List.{append_cancel_left}
use Rattle.gate_model.specs.declared.state.State.{State}
use Rattle.gate_model.specs.declared.state.State.TheVariants.{Pending, Ok, Warning, Critical, Unknown, Up, Down, Unreachable}
use Rattle.gate_grammar.specs.Numbers.{number_of}
use Rattle.gate_grammar.proofs.Numerals.{number_decimal, decimal_digits, none_in_digits, digit_isnt}
use Rattle.gate_grammar.specs.Spelling.{joined, holds}
use Rattle.gate_lines.specs.Lines.{state_name, optional_number, freshness_name, persistence_digit, plan_name}
use Rattle.status_reading.specs.declared.rows.ShownAcknowledgement.{ShownAcknowledgement}
use Rattle.status_reading.specs.declared.rows.ShownAcknowledgement.TheVariants.{Missing, Normal, Sticky}
use Rattle.status_reading.specs.declared.rows.ShownSource.{ShownSource}
use Rattle.status_reading.specs.declared.rows.ShownSource.TheVariants as source
use Rattle.status_reading.specs.Rows.{ObjectView, CommentView, DowntimeView}
use Rattle.status_reading.specs.Page.{shown_acknowledgement, shown_source, object_fields, comment_fields, downtime_fields}
use Rattle.status_reading.specs.Readable.{Fits, MayFit, IsReadableObject, IsReadableComment, IsReadableDowntime}
use Rattle.status_reading.specs.inner.Rows.{RowView, Object, Comment, Downtime, Closing, content, row_line, IsReadableRow, rank}
use Rattle.status_reading.proofs.CutSteps.{never_holds, same_cut, tail}
use Rattle.status_reading.proofs.FieldSteps.{same_fields}
use Rattle.status_reading.proofs.ReadSteps.{same_some}
use Rattle.status_reading.proofs.FaultSteps.{same_rank, row_in_line}

-- ---- fields

pub same_number : (one other : ℕ) → Fits one → Fits other → decimal one ≡ decimal other → one ≡ other
same_number one other fits small is =
    same_some one other (sym (number_decimal (2 ^ 32) one (omega arith) fits) ∙ ap number_of is ∙ number_decimal (2 ^ 32) other (omega arith) small)

number_unsigned : (number : ℕ) → Fits number → holds 45 (decimal number) ≡ false
number_unsigned number fits = none_in_digits (λ byte. byte == 45) (λ byte low high. digit_isnt 45 byte low high (λ e. omega arith)) (decimal number) (decimal_digits number (omega arith))

same_optional : (one other : Option ℕ) → MayFit one → MayFit other → optional_number one ≡ optional_number other → one ≡ other
same_optional None None fits small is = refl
same_optional None (Some number) fits small is = absurd (never_holds 45 [] [] (decimal number) (sym is) (number_unsigned number small))
same_optional (Some number) None fits small is = absurd (never_holds 45 [] [] (decimal number) is (number_unsigned number fits))
same_optional (Some one) (Some other) fits small is = ap Some (same_number one other fits small is)

abbrev state_back : List ℕ → State
state_back name =
    if get_or name 0 0 == 80 then Pending
    else if get_or name 0 0 == 79 then Ok
    else if get_or name 0 0 == 87 then Warning
    else if get_or name 0 0 == 67 then Critical
    else if get_or name 0 0 == 68 then Down
    else if get_or name 1 0 == 80 then Up
    else if get_or name 2 0 == 75 then Unknown
    else Unreachable

state_again : (state : State) → state_back (state_name state) ≡ state
state_again Pending = refl
state_again _ = refl

same_state : (one other : State) → state_name one ≡ state_name other → one ≡ other
same_state one other is = sym (state_again one) ∙ ap state_back is ∙ state_again other

abbrev acknowledgement_back : List ℕ → ShownAcknowledgement
acknowledgement_back name = if get_or name 0 0 == 45 then Missing else if get_or name 0 0 == 110 then Normal else Sticky

acknowledgement_again : (made : ShownAcknowledgement) → acknowledgement_back (shown_acknowledgement made) ≡ made
acknowledgement_again Missing = refl
acknowledgement_again Normal = refl
acknowledgement_again Sticky = refl

same_acknowledgement : (one other : ShownAcknowledgement) → shown_acknowledgement one ≡ shown_acknowledgement other → one ≡ other
same_acknowledgement one other is = sym (acknowledgement_again one) ∙ ap acknowledgement_back is ∙ acknowledgement_again other

abbrev source_back : List ℕ → ShownSource
source_back name = if get_or name 0 0 == 117 then source.User else if get_or name 0 0 == 97 then source.Acknowledgement else source.Downtime

source_again : (from : ShownSource) → source_back (shown_source from) ≡ from
source_again source.User = refl
source_again source.Acknowledgement = refl
source_again source.Downtime = refl

same_source : (one other : ShownSource) → shown_source one ≡ shown_source other → one ≡ other
same_source one other is = sym (source_again one) ∙ ap source_back is ∙ source_again other

fresh_again : (stale : Bool) → (get_or (freshness_name stale) 0 0 == 115) ≡ stale
fresh_again true = refl
fresh_again false = refl

same_freshness : (one other : Bool) → freshness_name one ≡ freshness_name other → one ≡ other
same_freshness one other is = sym (fresh_again one) ∙ ap (λ name. get_or name 0 0 == 115) is ∙ fresh_again other

persistent_again : (persistent : Bool) → (get_or (persistence_digit persistent) 0 0 == 49) ≡ persistent
persistent_again true = refl
persistent_again false = refl

same_persistence : (one other : Bool) → persistence_digit one ≡ persistence_digit other → one ≡ other
same_persistence one other is = sym (persistent_again one) ∙ ap (λ name. get_or name 0 0 == 49) is ∙ persistent_again other

fixed_again : (fixed : Bool) → (get_or (plan_name fixed) 1 0 == 105) ≡ fixed
fixed_again true = refl
fixed_again false = refl

same_plan : (one other : Bool) → plan_name one ≡ plan_name other → one ≡ other
same_plan one other is = sym (fixed_again one) ∙ ap (λ name. get_or name 1 0 == 105) is ∙ fixed_again other

-- ---- rows

at : (index : ℕ) (fields others : List (List ℕ)) → fields ≡ others → get_or fields index [] ≡ get_or others index []
at index fields others is = ap (λ texts. get_or texts index []) is

same_object : (one other : ObjectView) → IsReadableObject one → IsReadableObject other → object_fields one ≡ object_fields other → one ≡ other
same_object one other readable all is =
    let host : one.host ≡ other.host = at 0 _ _ is in
    let service : one.service ≡ other.service = at 1 _ _ is in
    let state = same_state one.state other.state (at 2 _ _ is) in
    let last = same_optional one.last other.last readable.last all.last (at 3 _ _ is) in
    let stale = same_freshness one.stale other.stale (at 4 _ _ is) in
    let acknowledgement = same_acknowledgement one.acknowledgement other.acknowledgement (at 5 _ _ is) in
    let depth = same_number one.depth other.depth readable.depth all.depth (at 6 _ _ is) in
    let output : one.output ≡ other.output = at 7 _ _ is in
    λ i. record { host = host i; service = service i; state = state i; last = last i; stale = stale i; acknowledgement = acknowledgement i; depth = depth i; output = output i }

same_comment : (one other : CommentView) → IsReadableComment one → IsReadableComment other → comment_fields one ≡ comment_fields other → one ≡ other
same_comment one other readable all is =
    let id = same_number one.id other.id readable.id all.id (at 0 _ _ is) in
    let host : one.host ≡ other.host = at 1 _ _ is in
    let service : one.service ≡ other.service = at 2 _ _ is in
    let from = same_source one.source other.source (at 3 _ _ is) in
    let persistent = same_persistence one.persistent other.persistent (at 4 _ _ is) in
    let moment = same_number one.moment other.moment readable.moment all.moment (at 5 _ _ is) in
    let author : one.author ≡ other.author = at 6 _ _ is in
    let text : one.text ≡ other.text = at 7 _ _ is in
    λ i. record { id = id i; host = host i; service = service i; source = from i; persistent = persistent i; moment = moment i; author = author i; text = text i }

same_downtime : (one other : DowntimeView) → IsReadableDowntime one → IsReadableDowntime other → downtime_fields one ≡ downtime_fields other → one ≡ other
same_downtime one other readable all is =
    let id = same_number one.id other.id readable.id all.id (at 0 _ _ is) in
    let host : one.host ≡ other.host = at 1 _ _ is in
    let service : one.service ≡ other.service = at 2 _ _ is in
    let fixed = same_plan one.fixed other.fixed (at 3 _ _ is) in
    let trigger = same_number one.trigger other.trigger readable.trigger all.trigger (at 4 _ _ is) in
    let start = same_number one.start other.start readable.start all.start (at 5 _ _ is) in
    let end = same_number one.end other.end readable.end all.end (at 6 _ _ is) in
    let duration = same_number one.duration other.duration readable.duration all.duration (at 7 _ _ is) in
    let begin = same_optional one.begin other.begin readable.begin all.begin (at 8 _ _ is) in
    let author : one.author ≡ other.author = at 9 _ _ is in
    let text : one.text ≡ other.text = at 10 _ _ is in
    λ i. record { id = id i; host = host i; service = service i; fixed = fixed i; trigger = trigger i; start = start i; end = end i; duration = duration i; begin = begin i; author = author i; text = text i }

other_kind : (one other : RowView) → content one ≡ content other → (rank one ≡ rank other → ⊥) → one ≡ other
other_kind one other is differs = absurd (differs (same_rank one other is))

same_row : (one other : RowView) → IsReadableRow one → IsReadableRow other → content one ≡ content other → one ≡ other
same_row (Object one) (Object other) readable all is =
    ap Object (same_object one other readable all
    (same_fields (object_fields one) (object_fields other) refl readable.apart.split all.apart.split (append_cancel_left (codes "object") (joined (object_fields one)) (joined (object_fields other)) is)))
same_row (Comment one) (Comment other) readable all is =
    ap Comment (same_comment one other readable all
    (same_fields (comment_fields one) (comment_fields other) refl readable.apart.split all.apart.split (append_cancel_left (codes "comment") (joined (comment_fields one)) (joined (comment_fields other)) is)))
same_row (Downtime one) (Downtime other) readable all is =
    ap Downtime (same_downtime one other readable all
    (same_fields (downtime_fields one) (downtime_fields other) refl readable.apart.split all.apart.split (append_cancel_left (codes "downtime") (joined (downtime_fields one)) (joined (downtime_fields other)) is)))
same_row (Closing one) (Closing other) readable all is =
    ap Closing (same_number one other readable all
    (sym (append-nil (decimal one)) ∙ ap tail (append_cancel_left (codes "closing") (joined (decimal one ∷ [])) (joined (decimal other ∷ [])) is) ∙ append-nil (decimal other)))
same_row (Object one) (Comment other) readable all is = other_kind (Object one) (Comment other) is (λ e. omega arith)
same_row (Object one) (Downtime other) readable all is = other_kind (Object one) (Downtime other) is (λ e. omega arith)
same_row (Object one) (Closing other) readable all is = other_kind (Object one) (Closing other) is (λ e. omega arith)
same_row (Comment one) (Object other) readable all is = other_kind (Comment one) (Object other) is (λ e. omega arith)
same_row (Comment one) (Downtime other) readable all is = other_kind (Comment one) (Downtime other) is (λ e. omega arith)
same_row (Comment one) (Closing other) readable all is = other_kind (Comment one) (Closing other) is (λ e. omega arith)
same_row (Downtime one) (Object other) readable all is = other_kind (Downtime one) (Object other) is (λ e. omega arith)
same_row (Downtime one) (Comment other) readable all is = other_kind (Downtime one) (Comment other) is (λ e. omega arith)
same_row (Downtime one) (Closing other) readable all is = other_kind (Downtime one) (Closing other) is (λ e. omega arith)
same_row (Closing one) (Object other) readable all is = other_kind (Closing one) (Object other) is (λ e. omega arith)
same_row (Closing one) (Comment other) readable all is = other_kind (Closing one) (Comment other) is (λ e. omega arith)
same_row (Closing one) (Downtime other) readable all is = other_kind (Closing one) (Downtime other) is (λ e. omega arith)

line_start : (row : RowView) (rows : List RowView) → flat_map row_line (row ∷ rows) ≡ content row ++ 10 ∷ flat_map row_line rows
line_start row rows = append_assoc (content row) (10 ∷ []) (flat_map row_line rows)

pub same_rows : (rows others : List RowView) → AllByRecursion IsReadableRow rows → AllByRecursion IsReadableRow others
    → flat_map row_line rows ≡ flat_map row_line others → rows ≡ others
same_rows [] [] readable all is = refl
same_rows [] (other ∷ others) readable all is = absurd (never_holds 10 (content other) (flat_map row_line others) [] (is ∙ line_start other others) refl)
same_rows (row ∷ rows) [] readable all is = absurd (never_holds 10 (content row) (flat_map row_line rows) [] (sym is ∙ line_start row rows) refl)
same_rows (row ∷ rows) (other ∷ others) readable all is =
    let same = same_cut 10 (content row) (flat_map row_line rows) (content other) (flat_map row_line others) (row_in_line row readable.0) (row_in_line other all.0)
    (sym (line_start row rows) ∙ is ∙ line_start other others) in
    ap (λ first. first ∷ rows) (same_row row other readable.0 all.0 same.0) ∙ ap (λ rest. other ∷ rest) (same_rows rows others readable.1 all.1 same.1)
