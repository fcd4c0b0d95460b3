-- What a status page shows of a command's effect, where another page was read before it: `effect_of`. A comment or a
-- downtime entry is that of the command only where its id is above those of the page before, since ids ascend and a
-- gateway uses none of them again; of those that fit it is the first, whose id is the least. Own rules. No page shows
-- whether passive checks are enabled. By one page two commands made
-- one thing only where they have one mark (`mark_of`).
use Rattle.std.specs.Prelude.{ℕ, ◌==◌, ◌&&◌, ◌||◌, not, nat_lt, nat_le, Bool, true, false, List, map, find, Option, Some, None, is_some, is_none, option_map, if◌then◌else◌}
use Rattle.std.specs.List.{list_any, list_all}
use Rattle.std.specs.Str.{bytes_eq}
use Rattle.gate_model.specs.declared.state.State.{State}
use Rattle.gate_model.specs.declared.submission.Body.{Body}
use Rattle.gate_model.specs.declared.act.Span.{Span}
use Rattle.gate_model.specs.declared.act.Deed.{Deed}
use Rattle.gate_model.specs.declared.act.Deed.TheVariants as deeds
use Rattle.gate_model.specs.declared.act.Act.{Act}
use Rattle.gate_model.specs.declared.act.Act.TheVariants as acts
use Rattle.gate_model.specs.Act.{act_of, words_of, output_of}
use Rattle.gate_model.specs.Escaping.{escaped}
use Rattle.gate_model.specs.State.{is_same_state, state_of_code}
use Rattle.gate_model.specs.Table.{greatest}
use Rattle.status_reading.specs.declared.rows.ShownAcknowledgement.{ShownAcknowledgement}
use Rattle.status_reading.specs.declared.rows.ShownAcknowledgement.TheVariants.{Missing, Normal, Sticky}
use Rattle.status_reading.specs.declared.rows.ShownSource.{ShownSource}
use Rattle.status_reading.specs.declared.rows.ShownSource.TheVariants as source
use Rattle.status_reading.specs.Rows.{ObjectView, CommentView, DowntimeView, PageView}
use Rattle.page_changes.specs.declared.names.Names.{Names}
use Rattle.page_changes.specs.declared.effects.Written.{Written}
use Rattle.page_changes.specs.declared.effects.Made.{Made}
use Rattle.page_changes.specs.declared.effects.Made.TheVariants.{Comment, Downtime}
use Rattle.page_changes.specs.declared.effects.Effect.{Effect}
use Rattle.page_changes.specs.Names.{shown_names, has_names, is_service_of, kind_of_field, row_with}
use Rattle.page_changes.specs.Foreseen.{is_acknowledged, comment_field, downtime_field}

-- ---- equal values

-- the two are both true or both false
abbrev pub is_same : Bool → Bool → Bool
is_same one other = if one then other else not other

-- the source is an acknowledgement, or else a user's command
abbrev pub is_from : Bool → ShownSource → Bool
is_from acknowledgement source.User = not acknowledgement
is_from acknowledgement source.Acknowledgement = acknowledgement
is_from acknowledgement source.Downtime = false

-- the acknowledgement is of this kind
abbrev pub is_made : Bool → ShownAcknowledgement → Bool
is_made sticky Missing = false
is_made sticky Normal = not sticky
is_made sticky Sticky = sticky

-- ---- rows

-- the greatest id of the page's comments
abbrev pub last_comment : PageView → ℕ
last_comment page = greatest (map (λ (row : CommentView). row.id) page.comments)

-- the greatest id of the page's downtime entries
abbrev pub last_entry : PageView → ℕ
last_entry page = greatest (map (λ (row : DowntimeView). row.id) page.downtimes)

-- an author and a text, as a row shows them
abbrev pub shown_words : Option (List ℕ × List ℕ) → Option Written
shown_words words =
    option_map (λ (given : List ℕ × List ℕ). record { author = escaped given.0; text = escaped given.1 }) words

-- a row has these words
abbrev pub has_words : Option Written → List ℕ → List ℕ → Bool
has_words None author text = false
has_words (Some words) author text = bytes_eq author words.author && bytes_eq text words.text

-- a comment with an id above this one, of this object and from there, with this persistence and these words
abbrev pub is_comment : ℕ → Names → Bool → Bool → Option Written → CommentView → Bool
is_comment last names acknowledgement persistent words row =
    nat_lt last row.id && has_names names row.host row.service && is_from acknowledgement row.source
    && is_same persistent row.persistent && has_words words row.author row.text

-- the id of the first such comment
abbrev pub comment_of : ℕ → Names → Bool → Bool → Option Written → List CommentView → Option ℕ
comment_of last names acknowledgement persistent words rows =
    option_map (λ (row : CommentView). row.id) (find (is_comment last names acknowledgement persistent words) rows)

-- a downtime entry is as it was asked for
abbrev pub has_span : Span → DowntimeView → Bool
has_span span row =
    (row.start == span.starts.0) && (row.end == span.ends.0) && is_same span.fixed row.fixed
    && (row.trigger == span.trigger) && (row.duration == span.lasts)

-- a downtime entry with an id above this one, of the object of these fields, as it was asked for, and with these words
abbrev pub is_entry_of : ℕ → List ℕ → List ℕ → Span → Option Written → DowntimeView → Bool
is_entry_of last host service span words row =
    nat_lt last row.id && bytes_eq row.host host && bytes_eq row.service service && has_span span row
    && has_words words row.author row.text

-- the id of the first such entry
abbrev pub entry_of : ℕ → List ℕ → List ℕ → Span → Option Written → List DowntimeView → Option ℕ
entry_of last host service span words rows =
    option_map (λ (row : DowntimeView). row.id) (find (is_entry_of last host service span words) rows)

-- there is such an entry for each row of a service of this host
abbrev pub has_entries : ℕ → List ℕ → Span → Option Written → List ObjectView → List DowntimeView → Bool
has_entries last host span words rows entries =
    list_all
    (λ (row : ObjectView).
    not (is_service_of host row.host row.service)
    || is_some (entry_of last row.host row.service span words entries))
    rows

-- no comment of the object with an id up to this one
abbrev pub has_none_of : ℕ → Names → List CommentView → Bool
has_none_of last names rows =
    not (list_any (λ (row : CommentView). has_names names row.host row.service && nat_le row.id last) rows)

-- the moment of the last result is this one or later
abbrev pub is_since : ℕ → Option ℕ → Bool
is_since moment None = false
is_since moment (Some last) = nat_le moment last

-- a row has this output
abbrev pub has_output : Option (List ℕ) → List ℕ → Bool
has_output None field = false
has_output (Some output) field = bytes_eq field output

-- the row has the state and the output of a result, and its last result is of this moment or a later one
abbrev pub has_result : ℕ → State → Option (List ℕ) → ObjectView → Bool
has_result moment state output row =
    is_same_state row.state state && has_output output row.output && is_since moment row.last

-- the first row of the object is so
abbrev pub is_row : (ObjectView → Bool) → Option ObjectView → Bool
is_row test None = false
is_row test (Some row) = test row

-- ---- what a command makes

-- what a row shows of the command that made it, beside its id: a comment or a downtime entry of an object, with the
-- words of its author
pub data Mark : Type 0 where
  OfComment : Names → Bool → Bool → Option Written → Mark
  OfEntry : Names → Span → Option Written → Mark

-- what has this mark and was made between the two pages
abbrev pub new_with : PageView → PageView → Mark → Option Made
new_with before after (OfComment names acknowledgement persistent words) =
    option_map Comment (comment_of (last_comment before) names acknowledgement persistent words after.comments)
new_with before after (OfEntry names span words) =
    option_map Downtime (entry_of (last_entry before) names.host names.service span words after.downtimes)

-- the mark of what a deed makes, if anything
abbrev pub mark_of_deed : Names → Option Written → Deed → Option Mark
mark_of_deed names words (deeds.AddComment persistent) = Some (OfComment names false persistent words)
mark_of_deed names words (deeds.Acknowledge sticky persistent) = Some (OfComment names true persistent words)
mark_of_deed names words (deeds.Schedule span) = Some (OfEntry names span words)
mark_of_deed names words _ = None

-- the mark of what an act makes. Downtime of each service of a host has none
abbrev pub mark_of_act : Option Written → Act → Option Mark
mark_of_act words (acts.On host service deed) = mark_of_deed (shown_names host service) words deed
mark_of_act words _ = None

-- the mark of what a command makes: its kind, object, author, text, and persistence or window
abbrev pub mark_of : Body → Option Mark
mark_of body = mark_of_act (shown_words (words_of body)) (act_of body)

-- ---- effects

-- it is shown, and that is all, or it isn't
abbrev pub shown_if : Bool → Option Effect
shown_if shown = if shown then Some (record { state = None; made = None }) else None

-- it is shown by what it made, and it acknowledged an object in this state, if one
abbrev pub shown_by : Option State → Option Made → Option Effect
shown_by state made = option_map (λ (one : Made). record { state = state; made = Some one }) made

-- an acknowledgement is shown by the row of the object and by its comment
abbrev pub acknowledged_by : Bool → Option Made → Option ObjectView → Option Effect
acknowledged_by sticky made None = None
acknowledged_by sticky made (Some row) =
    if is_made sticky row.acknowledgement then shown_by (Some row.state) made else None

-- what the page after shows of a deed on the object of these names, with these words or this output
abbrev pub effect_of_deed : PageView → PageView → Names → Option Written → Option (List ℕ) → Deed → Option Effect
effect_of_deed before after names words output (deeds.Result code) =
    shown_if (is_row (has_result before.moment (state_of_code (kind_of_field names.service) code) output) (row_with names after.objects))
effect_of_deed before after names words output (deeds.AddComment persistent) =
    shown_by None (new_with before after (OfComment names false persistent words))
effect_of_deed before after names words output deeds.DelAllComments =
    shown_if (has_none_of (last_comment before) names after.comments)
effect_of_deed before after names words output (deeds.Acknowledge sticky persistent) =
    acknowledged_by sticky (new_with before after (OfComment names true persistent words)) (row_with names after.objects)
effect_of_deed before after names words output deeds.RemoveAck =
    shown_if (is_row (λ row. not (is_acknowledged row.acknowledgement)) (row_with names after.objects))
effect_of_deed before after names words output (deeds.Schedule span) =
    shown_by None (new_with before after (OfEntry names span words))
effect_of_deed before after names words output (deeds.Passive on) = None

-- what it shows of an act
abbrev pub effect_of_act : PageView → PageView → Option Written → Option (List ℕ) → Act → Option Effect
effect_of_act before after words output (acts.On host service deed) =
    effect_of_deed before after (shown_names host service) words output deed
effect_of_act before after words output (acts.ScheduleServices host span) =
    shown_if (has_entries (last_entry before) (escaped host) span words before.objects after.downtimes)
effect_of_act before after words output (acts.DelComment kind id) = shown_if (is_none (comment_field id after.comments))
effect_of_act before after words output (acts.DelDowntime kind id) = shown_if (is_none (downtime_field id after.downtimes))
effect_of_act before after words output acts.Shutdown = shown_if (is_some after.closing)

-- what the page after a command shows of it, where the other page was read before it; None where it doesn't show it
abbrev pub effect_of : Body → PageView → PageView → Option Effect
effect_of body before after =
    effect_of_act before after (shown_words (words_of body)) (option_map escaped (output_of body)) (act_of body)

-- what was made, by what is shown
abbrev pub made_in : Option Effect → Option Made
made_in None = None
made_in (Some effect) = effect.made

-- the id of what was made
abbrev pub id_of_made : Made → ℕ
id_of_made (Comment id) = id
id_of_made (Downtime id) = id
