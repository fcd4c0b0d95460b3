-- What a gateway answers to a command, by its status page: `outcome_on`. The refusals and their order are those of
-- gate_model's Meaning (External Command List). `as_shown` is what a page leaves of an outcome: it doesn't show whether
-- passive checks are enabled.
use Rattle.std.specs.Prelude.{ℕ, ◌==◌, Bool, true, false, List, find, is_some, codes, Option, Some, None, if◌then◌else◌}
use Rattle.std.specs.List.{list_any}
use Rattle.std.specs.Option.{option_map}
use Rattle.gate_model.specs.declared.record.Outcome.{Outcome}
use Rattle.gate_model.specs.declared.record.Outcome.TheVariants.{Accepted, NoSuchHost, NoSuchService, NoServices, NoSuchComment, NoSuchDowntime, WrongKind, NoProblem, NotAcknowledged, PassiveDisabled, BadWindow, WindowPast, NoSuchTrigger}
use Rattle.gate_model.specs.declared.object.Kind.{Kind}
use Rattle.gate_model.specs.declared.submission.Body.{Body}
use Rattle.gate_model.specs.declared.act.Span.{Span}
use Rattle.gate_model.specs.declared.act.Deed.{Deed}
use Rattle.gate_model.specs.declared.act.Deed.TheVariants as deeds
use Rattle.gate_model.specs.declared.act.Act.{Act}
use Rattle.gate_model.specs.declared.act.Act.TheVariants as acts
use Rattle.gate_model.specs.Act.{act_of}
use Rattle.gate_model.specs.Escaping.{escaped}
use Rattle.gate_model.specs.State.{is_problem}
use Rattle.gate_model.specs.Meaning.{is_same_kind, outcome_of_window}
use Rattle.status_reading.specs.declared.rows.ShownAcknowledgement.{ShownAcknowledgement}
use Rattle.status_reading.specs.declared.rows.ShownAcknowledgement.TheVariants.{Missing, Normal, Sticky}
use Rattle.status_reading.specs.Rows.{ObjectView, CommentView, DowntimeView, PageView}
use Rattle.page_changes.specs.Names.{shown_names, is_nameless, is_service_of, kind_of_field, row_with}

-- ---- an object

-- the problem is acknowledged
abbrev pub is_acknowledged : ShownAcknowledgement → Bool
is_acknowledged Missing = false
is_acknowledged Normal = true
is_acknowledged Sticky = true

-- how the row is judged, and NoSuchService where there is none
abbrev pub outcome_of_row : (ObjectView → Outcome) → Option ObjectView → Outcome
outcome_of_row judge None = NoSuchService
outcome_of_row judge (Some row) = judge row

-- the row of the object of these names: no service has an empty name, and the row of a host has an empty field
abbrev pub row_for : PageView → List ℕ → Option (List ℕ) → Option ObjectView
row_for page host service =
    if is_nameless service then None else row_with (shown_names host service) page.objects

-- of a command that names an object the host is looked up, then the object, and then its row is judged
abbrev pub outcome_for : PageView → List ℕ → Option (List ℕ) → (ObjectView → Outcome) → Outcome
outcome_for page host service judge =
    if is_some (row_for page host None) then outcome_of_row judge (row_for page host service) else NoSuchHost

-- ---- a comment or an entry by its id

-- the outcome where the row of the id has this field of the service, if there is a row
abbrev pub outcome_of_field : Kind → Outcome → Option (List ℕ) → Outcome
outcome_of_field kind missing None = missing
outcome_of_field kind missing (Some field) = if is_same_kind kind (kind_of_field field) then Accepted else WrongKind

-- the service's field of the comment of this id
abbrev pub comment_field : ℕ → List CommentView → Option (List ℕ)
comment_field id rows =
    option_map (λ (row : CommentView). row.service) (find (λ (row : CommentView). row.id == id) rows)

-- the service's field of the entry of this id
abbrev pub downtime_field : ℕ → List DowntimeView → Option (List ℕ)
downtime_field id rows =
    option_map (λ (row : DowntimeView). row.service) (find (λ (row : DowntimeView). row.id == id) rows)

-- ---- downtime

-- an entry of this id is live
abbrev pub is_entry : List DowntimeView → ℕ → Bool
is_entry rows id = list_any (λ (row : DowntimeView). row.id == id) rows

-- the outcome of such a downtime
abbrev pub outcome_of_span : PageView → Span → Outcome
outcome_of_span page span =
    outcome_of_window (is_entry page.downtimes) (record { 0 = page.moment }) span.starts span.ends span.trigger

-- the page has a service of this host
abbrev pub has_services : PageView → List ℕ → Bool
has_services page host =
    list_any (λ (row : ObjectView). is_service_of (escaped host) row.host row.service) page.objects

-- ---- commands

-- the outcome of a deed on the object of this row
abbrev pub outcome_of_deed : PageView → Deed → ObjectView → Outcome
outcome_of_deed page (deeds.Acknowledge sticky persistent) row = if is_problem row.state then Accepted else NoProblem
outcome_of_deed page deeds.RemoveAck row = if is_acknowledged row.acknowledgement then Accepted else NotAcknowledged
outcome_of_deed page (deeds.Schedule span) row = outcome_of_span page span
outcome_of_deed page _ row = Accepted

-- the outcome of an act
abbrev pub outcome_of_act : PageView → Act → Outcome
outcome_of_act page (acts.On host service deed) = outcome_for page host service (outcome_of_deed page deed)
outcome_of_act page (acts.ScheduleServices host span) =
    outcome_for page host None (λ row. if has_services page host then outcome_of_span page span else NoServices)
outcome_of_act page (acts.DelComment kind id) = outcome_of_field kind NoSuchComment (comment_field id page.comments)
outcome_of_act page (acts.DelDowntime kind id) = outcome_of_field kind NoSuchDowntime (downtime_field id page.downtimes)
outcome_of_act page acts.Shutdown = Accepted

-- the outcome of a command that is applied to what the page shows, at the page's moment
abbrev pub outcome_on : PageView → Body → Outcome
outcome_on page body = outcome_of_act page (act_of body)

-- a page doesn't show that passive checks are disabled
abbrev pub as_shown : Outcome → Outcome
as_shown PassiveDisabled = Accepted
as_shown outcome = outcome

-- what an outcome says to an operator
abbrev pub refusal_text : Outcome → List ℕ
refusal_text Accepted = codes "accepted"
refusal_text NoSuchHost = codes "the gateway has no such host"
refusal_text NoSuchService = codes "the host has no such service"
refusal_text PassiveDisabled = codes "passive checks of the object are disabled"
refusal_text NoServices = codes "the host has no services"
refusal_text NoSuchComment = codes "there is no comment with this number"
refusal_text NoSuchDowntime = codes "there is no downtime with this number"
refusal_text WrongKind = codes "the number is a host's where a service's is meant, or the reverse"
refusal_text NoProblem = codes "there is no problem to acknowledge"
refusal_text NotAcknowledged = codes "there is no acknowledgement to remove"
refusal_text BadWindow = codes "the downtime doesn't end after its start"
refusal_text WindowPast = codes "the downtime is over already"
refusal_text NoSuchTrigger = codes "the downtime that triggers it isn't there"
