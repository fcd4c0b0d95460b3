-- The metrics of gateways and of their objects: `metrics_page` is the text. Own rules: the names, the help texts, the
-- labels and their order.
use Rattle.std.specs.Prelude.{ℕ, Bool, ◌&&◌, not, nat_lt, if◌then◌else◌, List, [], ◌∷◌, ◌++◌, length, map, Ok, Err, is_some, is_none, is_ok, codes}
use Rattle.std.specs.List.{flat_map}
use Rattle.std.specs.Int.{from_bool}
use Rattle.gate_model.specs.declared.state.State.{State}
use Rattle.gate_model.specs.declared.state.State.TheVariants as state
use Rattle.gate_model.specs.State.{is_problem}
use Rattle.gate_lines.specs.Lines.{state_name}
use Rattle.status_reading.specs.declared.page.StatusPage.{StatusPage}
use Rattle.status_memory.specs.declared.alarm.Alarm.{Alarm}
use Rattle.status_memory.specs.Alarm.{alarm_name}
use Rattle.status_merge.specs.declared.gateway.Gateway.{Gateway}
use Rattle.status_merge.specs.declared.gateway.MergedObject.{MergedObject}
use Rattle.status_merge.specs.declared.counts.Counts.{Counts}
use Rattle.status_merge.specs.Ranks.{is_made, counts_of}
use Rattle.status_merge.specs.Objects.{age_of}
use Rattle.status_export.specs.Gauges.{Sample, Gauge, gauge_text}
use Rattle.status_export.specs.Document.{plain_text}

-- ---- gateways

-- the sample of the gateway of this name
abbrev pub gateway_sample : List ℕ → ℕ → Sample
gateway_sample name number = record { labels = (codes "gateway", name) ∷ []; number = number }

-- whether the gateway's page was read and is new
abbrev pub is_up : Gateway → Bool
is_up gateway = is_ok gateway.page && is_none gateway.old

-- 1 where it is, else 0
abbrev pub up_sample : Gateway → Sample
up_sample gateway = gateway_sample gateway.name.now (from_bool (is_up gateway))

-- how many seconds old the gateway's page is, 0 where it is new; none where there is no page
abbrev pub age_samples : Gateway → List Sample
age_samples gateway = elim gateway.page [
  | Ok page ↦ gateway_sample gateway.name.now (age_of gateway) ∷ []
  | Err fault ↦ []
]

abbrev pub age_gauge : List Gateway → Gauge
age_gauge gateways = record {
  name = codes "nscagate_page_age_seconds";
  help = codes "How old the gateway's page is, where it is old.";
  samples = flat_map age_samples gateways;
}

-- a number of the gateway's page; none where there is no page
abbrev pub page_samples : (StatusPage → ℕ) → Gateway → List Sample
page_samples number gateway = elim gateway.page [
  | Ok page ↦ gateway_sample gateway.name.now (number page) ∷ []
  | Err fault ↦ []
]

-- a gauge of a number of each page
abbrev pub page_gauge : List ℕ → List ℕ → (StatusPage → ℕ) → List Gateway → Gauge
page_gauge name help number gateways = record {
  name = name;
  help = help;
  samples = flat_map (page_samples number) gateways;
}

abbrev pub up_gauge : List Gateway → Gauge
up_gauge gateways = record {
  name = codes "nscagate_up";
  help = codes "Whether the gateway's status page was read, and is not old.";
  samples = map up_sample gateways;
}

-- an alarm about the gateway of this name
abbrev pub alarm_sample : List ℕ → Alarm → Sample
alarm_sample name alarm = record {
  labels = (codes "gateway", name) ∷ (codes "alarm", alarm_name alarm) ∷ [];
  number = 1;
}

-- all alarms about it
abbrev pub alarm_samples : Gateway → List Sample
alarm_samples gateway = map (alarm_sample gateway.name.now) gateway.alarms.items

abbrev pub alarm_gauge : List Gateway → Gauge
alarm_gauge gateways = record {
  name = codes "nscagate_alarm";
  help = codes "Alarms about the gateway.";
  samples = flat_map alarm_samples gateways;
}

-- the gauges of gateways
abbrev pub gateway_gauges : List Gateway → List Gauge
gateway_gauges gateways =
    up_gauge gateways
    ∷ alarm_gauge gateways
    ∷ age_gauge gateways
    ∷ page_gauge (codes "nscagate_page_seconds") (codes "The moment of the gateway's page.")
    (λ page. page.moment) gateways
    ∷ page_gauge (codes "nscagate_closing") (codes "Whether the gateway is closing.")
    (λ page. from_bool (is_some page.closing)) gateways
    ∷ page_gauge (codes "nscagate_page_objects") (codes "Objects on the gateway's page.")
    (λ page. length page.objects.items) gateways
    ∷ page_gauge (codes "nscagate_comments") (codes "Comments on the gateway's page.")
    (λ page. length page.comments.items) gateways
    ∷ page_gauge (codes "nscagate_downtimes") (codes "Downtime entries on the gateway's page.")
    (λ page. length page.downtimes.items) gateways
    ∷ []

-- ---- objects

-- the sample of the objects of a kind in a state
abbrev pub state_sample : List ℕ → State → ℕ → Sample
state_sample kind state number = record {
  labels = (codes "kind", kind) ∷ (codes "state", state_name state) ∷ [];
  number = number;
}

abbrev pub host_samples : Counts → List Sample
host_samples counts =
    state_sample (codes "host") state.Up counts.up
    ∷ state_sample (codes "host") state.Down counts.down
    ∷ state_sample (codes "host") state.Unreachable counts.unreachable
    ∷ state_sample (codes "host") state.Pending counts.host_pending
    ∷ []

abbrev pub service_samples : Counts → List Sample
service_samples counts =
    state_sample (codes "service") state.Ok counts.ok
    ∷ state_sample (codes "service") state.Warning counts.warning
    ∷ state_sample (codes "service") state.Critical counts.critical
    ∷ state_sample (codes "service") state.Unknown counts.unknown
    ∷ state_sample (codes "service") state.Pending counts.service_pending
    ∷ []

abbrev pub state_gauge : Counts → Gauge
state_gauge counts = record {
  name = codes "nscagate_objects";
  help = codes "Hosts and services by state.";
  samples = host_samples counts ++ service_samples counts;
}

-- a gauge of one number
abbrev pub number_gauge : List ℕ → List ℕ → ℕ → Gauge
number_gauge name help number = record {
  name = name;
  help = help;
  samples = record { labels = []; number = number } ∷ [];
}

-- the gauges of objects
abbrev pub object_gauges : Counts → List Gauge
object_gauges counts =
    state_gauge counts
    ∷ number_gauge (codes "nscagate_objects_stale")
    (codes "Objects without a result for longer than their threshold.") counts.stale
    ∷ number_gauge (codes "nscagate_problems_unhandled")
    (codes "Problems neither acknowledged nor in downtime, without services whose host is out.") counts.unhandled
    ∷ number_gauge (codes "nscagate_objects_acknowledged") (codes "Objects with an acknowledgement.")
    counts.acknowledged
    ∷ number_gauge (codes "nscagate_objects_in_downtime") (codes "Objects in active downtime.") counts.in_downtime
    ∷ []

-- ---- problems and stale objects

abbrev pub flag_word : Bool → List ℕ
flag_word flag = if flag then codes "true" else codes "false"

-- the sample of these labels
abbrev pub labelled : List ℕ → List ℕ → List ℕ → List ℕ → List ℕ → List ℕ → List ℕ → Sample
labelled gateway host service state acknowledged downtime host_out = record {
  labels = (codes "gateway", gateway)
      ∷ (codes "host", host)
      ∷ (codes "service", service)
      ∷ (codes "state", state)
      ∷ (codes "acknowledged", acknowledged)
      ∷ (codes "downtime", downtime)
      ∷ (codes "host_out", host_out)
      ∷ [];
  number = 1;
}

-- the sample of an object; a host has the service empty
abbrev pub object_sample : MergedObject → Sample
object_sample object =
    labelled object.gateway.now
    (plain_text object.row.host.now)
    (plain_text object.row.service.now)
    (state_name object.row.state)
    (flag_word (is_made object.row.acknowledgement))
    (flag_word (nat_lt 0 object.row.depth))
    (flag_word object.host_is_out)

-- none where the object has no problem
abbrev pub problem_samples : MergedObject → List Sample
problem_samples object = if is_problem object.row.state then object_sample object ∷ [] else []

abbrev pub problem_gauge : List MergedObject → Gauge
problem_gauge objects = record {
  name = codes "nscagate_problem";
  help = codes "Objects with a problem.";
  samples = flat_map problem_samples objects;
}

-- none where the object is fresh, and where it is stale for the sole reason that it is shown by an earlier result
abbrev pub stale_samples : MergedObject → List Sample
stale_samples object = if object.row.stale && not object.since.is_held then object_sample object ∷ [] else []

abbrev pub stale_gauge : List MergedObject → Gauge
stale_gauge objects = record {
  name = codes "nscagate_stale";
  help = codes "Objects without a result for longer than their threshold.";
  samples = flat_map stale_samples objects;
}

-- ---- the text

abbrev pub metrics_page : List Gateway → List MergedObject → List ℕ
metrics_page gateways objects =
    flat_map gauge_text (gateway_gauges gateways)
    ++ flat_map gauge_text (object_gauges (counts_of objects))
    ++ gauge_text (problem_gauge objects)
    ++ gauge_text (stale_gauge objects)
