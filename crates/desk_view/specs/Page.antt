-- The page of an object (`page_parts`): what became of a command, for each gateway what its page shows of the object, its
-- comments and its downtime with a button for each, and then the forms. Own rules: all of it. A form's Origin is this site
-- where the referrer policy isn't `no-referrer` (Fetch Standard, 3.2).
use Rattle.std.specs.Prelude.{ℕ, ◌/◌, ◌-◌, nat_lt, Bool, true, false, ◌&&◌, ◌==◌, if◌then◌else◌, List, [], ◌∷◌, ◌++◌, length, map, Option, Some, None, codes}
use Rattle.std.specs.List.{flat_map, list_any}
use Rattle.std.specs.Str.{bytes_eq}
use Rattle.gate_lines.specs.Lines.{state_name}
use Rattle.status_reading.specs.declared.rows.ShownAcknowledgement.{ShownAcknowledgement}
use Rattle.status_reading.specs.declared.rows.ShownAcknowledgement.TheVariants.{Missing, Normal, Sticky}
use Rattle.status_reading.specs.Rows.{ObjectView, CommentView, DowntimeView, object_view, comment_view, downtime_view}
use Rattle.desk_view.specs.declared.forms.FormOf.{FormOf}
use Rattle.desk_view.specs.declared.page.ShownAt.{ShownAt}
use Rattle.desk_view.specs.declared.page.Note.{Note}
use Rattle.desk_view.specs.declared.page.DeskPage.{DeskPage}
use Rattle.desk_view.specs.declared.fields.TheConstants.{ACKNOWLEDGE, UNACKNOWLEDGE, COMMENT, DOWNTIME, PASSIVE}
use Rattle.desk_view.specs.Parts.{PartView}
use Rattle.status_view.specs.Layout.{Markup, Text, Number}
use Rattle.desk_view.specs.Forms.{form, entry_form}

-- whether a row is of the object of the page
abbrev pub is_of : FormOf → List ℕ → List ℕ → Bool
is_of of host service = bytes_eq host of.host.now && bytes_eq service of.service.now

-- whether a row of an object is of these names
abbrev pub shows : List ℕ → List ℕ → List ObjectView → Bool
shows host service rows = list_any (λ (row : ObjectView). bytes_eq row.host host && bytes_eq row.service service) rows

-- these parts where that is so
abbrev pub parts_if : Bool → List PartView → List PartView
parts_if is parts = if is then parts else []

-- the mark of a stale result
abbrev pub stale_mark : Bool → List ℕ
stale_mark true = codes " <span class=\"badge stale\">stale</span>"
stale_mark false = []

-- the mark of an acknowledgement
abbrev pub acknowledgement_mark : ShownAcknowledgement → List ℕ
acknowledgement_mark Missing = []
acknowledgement_mark Normal = codes " <span class=\"badge\">acknowledged</span>"
acknowledgement_mark Sticky = codes " <span class=\"badge\">acknowledged, sticky</span>"

-- the state at a gateway, and its first marks
unfoldable pub named_parts : List ℕ → ObjectView → List PartView
named_parts gateway row =
    Markup (codes "<p class=\"state\">")
    ∷ Text gateway
    ∷ Markup (codes ": ")
    ∷ Markup (state_name row.state)
    ∷ Markup (stale_mark row.stale)
    ∷ Markup (acknowledgement_mark row.acknowledgement)
    ∷ []

-- the mark of downtime: in how many entries it is
unfoldable pub depth_parts : ℕ → List PartView
depth_parts depth =
    parts_if (nat_lt 0 depth)
    (Markup (codes " <span class=\"badge\">downtime ") ∷ Number depth ∷ Markup (codes "</span>") ∷ [])

-- a span by its greatest unit, as `5 min`: seconds below 2 minutes, minutes below 2 hours, hours below 2 days
unfoldable pub ago_parts : ℕ → List PartView
ago_parts seconds =
    if nat_lt seconds 120 then Number seconds ∷ Markup (codes " s ago") ∷ []
    else if nat_lt seconds 7200 then Number (seconds / 60) ∷ Markup (codes " min ago") ∷ []
    else if nat_lt seconds 172800 then Number (seconds / 3600) ∷ Markup (codes " h ago") ∷ []
    else Number (seconds / 86400) ∷ Markup (codes " d ago") ∷ []

abbrev pub last_parts : ℕ → List PartView
last_parts seconds = Markup (codes ", last result ") ∷ [] ++ ago_parts seconds

-- how long before the moment of the gateway's page the last result came
unfoldable pub age_parts : ℕ → Option ℕ → List PartView
age_parts moment None = Markup (codes ", no result yet") ∷ []
age_parts moment (Some last) = last_parts (moment - last)

-- its output
unfoldable pub output_parts : List ℕ → List PartView
output_parts output = Markup (codes "</p><pre>") ∷ Text output ∷ Markup (codes "</pre>\n") ∷ []

-- what a gateway, whose page is of this moment, shows of the object
abbrev pub state_parts : List ℕ → ℕ → ObjectView → List PartView
state_parts gateway moment row =
    named_parts gateway row ++ depth_parts row.depth ++ age_parts moment row.last ++ output_parts row.output

-- who says what
unfoldable pub said_parts : List ℕ → List ℕ → List PartView
said_parts author text = Markup (codes "<li>") ∷ Text author ∷ Markup (codes ": ") ∷ Text text ∷ []

-- a comment, or a downtime entry, with the button that deletes it
abbrev pub comment_parts : FormOf → List ℕ → CommentView → List PartView
comment_parts of gateway row =
    said_parts row.author row.text ++ entry_form of (codes "uncomment") gateway row.id (codes "Delete comment")

abbrev pub downtime_parts : FormOf → List ℕ → DowntimeView → List PartView
downtime_parts of gateway row =
    said_parts row.author row.text ++ entry_form of (codes "cancel") gateway row.id (codes "Cancel downtime")

-- these where the row is of the object
unfoldable pub state_row : FormOf → List ℕ → ℕ → ObjectView → List PartView
state_row of gateway moment row = parts_if (is_of of row.host row.service) (state_parts gateway moment row)

unfoldable pub comment_row : FormOf → List ℕ → CommentView → List PartView
comment_row of gateway row = parts_if (is_of of row.host row.service) (comment_parts of gateway row)

unfoldable pub downtime_row : FormOf → List ℕ → DowntimeView → List PartView
downtime_row of gateway row = parts_if (is_of of row.host row.service) (downtime_parts of gateway row)

-- each row of the object, in the page's order
abbrev pub states_parts : FormOf → List ℕ → ℕ → List ObjectView → List PartView
states_parts of gateway moment rows = flat_map (state_row of gateway moment) rows

abbrev pub comments_parts : FormOf → List ℕ → List CommentView → List PartView
comments_parts of gateway rows = flat_map (comment_row of gateway) rows

abbrev pub downtimes_parts : FormOf → List ℕ → List DowntimeView → List PartView
downtimes_parts of gateway rows = flat_map (downtime_row of gateway) rows

-- what a gateway shows of the object
abbrev pub gateway_parts : FormOf → ShownAt → List PartView
gateway_parts of shown =
    states_parts of shown.name.now shown.page.now.moment (map object_view shown.page.now.objects.items)
    ++ Markup (codes "<ul>\n") ∷ []
    ++ comments_parts of shown.name.now (map comment_view shown.page.now.comments.items)
    ++ downtimes_parts of shown.name.now (map downtime_view shown.page.now.downtimes.items)
    ++ Markup (codes "</ul>\n") ∷ []

-- a browser loads the page again after two seconds, or doesn't (HTML, 4.2.5.3)
abbrev pub again_part : Bool → List ℕ
again_part true = codes "<meta http-equiv=\"refresh\" content=\"2\">"
again_part false = []

-- a paragraph for an alarm, or for what is under way or done
abbrev pub note_opening : Bool → List ℕ
note_opening true = codes "<p class=\"alarm\" role=\"alert\">"
note_opening false = codes "<p class=\"soft\" role=\"status\">"

-- after the name of a gateway, where it is of one
abbrev pub colon_after : List ℕ → List ℕ
colon_after gateway = if length gateway == 0 then [] else codes ": "

-- what became of a command at a gateway
unfoldable pub note_parts : Note → List PartView
note_parts note =
    Markup (note_opening note.is_alarm)
    ∷ Text note.gateway.now
    ∷ Markup (colon_after note.gateway.now)
    ∷ Text note.text.now
    ∷ Markup (codes "</p>\n")
    ∷ []

-- the head: the object's names and the user's
unfoldable pub head_parts : DeskPage → List PartView
head_parts page =
    Markup (codes "<!doctype html><html lang=\"en\"><head><meta charset=\"utf-8\"><title>")
    ∷ Text page.of.host.now
    ∷ Markup (codes "</title><meta name=\"viewport\" content=\"width=device-width,initial-scale=1\">")
    ∷ Markup (codes "<meta name=\"referrer\" content=\"same-origin\"><link rel=\"stylesheet\" href=\"/style.css\">")
    ∷ Markup (again_part page.again)
    ∷ Markup (codes "</head><body><main><p><a href=\"/\">")
    ∷ Text page.title.now
    ∷ Markup (codes "</a>, as ")
    ∷ Text page.user.now
    ∷ Markup (codes ", <a href=\"/marks\">several objects</a></p><h1>")
    ∷ Text page.of.host.now
    ∷ Markup (codes " ")
    ∷ Text page.of.service.now
    ∷ Markup (codes "</h1>\n")
    ∷ []

-- the forms
abbrev pub forms_parts : FormOf → List PartView
forms_parts of =
    form of (codes "acknowledge") ACKNOWLEDGE.now
    ++ form of (codes "unacknowledge") UNACKNOWLEDGE.now
    ++ form of (codes "comment") COMMENT.now
    ++ form of (codes "downtime") DOWNTIME.now
    ++ form of (codes "passive") PASSIVE.now
    ++ Markup (codes "</main></body></html>\n") ∷ []

-- the page
abbrev pub page_parts : DeskPage → List PartView
page_parts page =
    head_parts page
    ++ flat_map note_parts page.notes.now
    ++ flat_map (gateway_parts page.of) page.gateways.now
    ++ forms_parts page.of
