-- The objects of several gateways' pages as one list: `merged`.
use Rattle.std.specs.Prelude.{◌≡◌, ℕ, ◌+◌, ◌-◌, Bool, false, true, ◌&&◌, ◌||◌, ◌==◌, not, nat_lt, if◌then◌else◌, length, min, is_some, List, [], map, filter, find, slice_get, Option, Some, None, Ok, Err, unwrap_or}
use Rattle.std.specs.List.{All, AllPass, Contains, IsDistinct, list_all, list_any, enumerate_from}
use Rattle.std.specs.Str.{bytes_eq}
use Rattle.gate_model.specs.State.{is_problem}
use Rattle.gate_model.specs.Table.{object_kind}
use Rattle.status_reading.specs.declared.rows.ShownObject.{ShownObject}
use Rattle.status_reading.specs.Rows.{page_view}
use Rattle.status_reading.specs.RowFaults.{service_name, is_state_of, IsSound}
use Rattle.status_merge.specs.declared.gateway.Gateway.{Gateway}
use Rattle.status_merge.specs.declared.gateway.MergedObject.{MergedObject}
use Rattle.status_merge.specs.Groups.{groups}

-- whether two rows have one name: that of the host, and that of the service, which a host has empty
abbrev pub same_name : MergedObject → MergedObject → Bool
same_name one other = bytes_eq one.row.host.now other.row.host.now && bytes_eq one.row.service.now other.row.service.now

-- how old a row's last result is, by the moment of its page. A result on an old page counts as 2 ^ 32 seconds older, so that
-- each on a page that isn't old is younger.
abbrev pub counted_age : MergedObject → Option ℕ
counted_age object = elim object.row.last [
  | None ↦ None
  | Some last ↦ Some ((object.moment - last) + (if object.is_old then 4294967296 else 0))
]

-- whether a result of an age is younger than one of another. No result is the oldest.
abbrev pub is_younger : Option ℕ → Option ℕ → Bool
is_younger None other = false
is_younger (Some age) None = true
is_younger (Some age) (Some other) = nat_lt age other

-- whether none of the rows has a younger result than this one
abbrev pub is_latest : List MergedObject → MergedObject → Bool
is_latest rows row = list_all (λ other. not (is_younger (counted_age other) (counted_age row))) rows

-- of the rows of a name the one with the youngest result, of equals the first
abbrev pub latest : MergedObject × List MergedObject → MergedObject
latest group = unwrap_or (find (is_latest group.1) group.1) group.0

-- one row for each name, in the order in which the rows name them first
abbrev pub merged : List MergedObject → List MergedObject
merged rows = map latest (groups same_name rows)

-- whether an object is a host that is DOWN, UNREACHABLE or in downtime
abbrev pub is_host_out : MergedObject → Bool
is_host_out object = (length object.row.service.now == 0) && (is_problem object.row.state || nat_lt 0 object.row.depth)

-- whether an object is a service of such a host
abbrev pub has_host_out : List MergedObject → MergedObject → Bool
has_host_out objects object =
    not (length object.row.service.now == 0)
    && list_any (λ host. is_host_out host && bytes_eq host.row.host.now object.row.host.now) objects

-- the objects, each with that
abbrev pub with_hosts : List MergedObject → List MergedObject
with_hosts objects = map (λ (object : MergedObject). record object { host_is_out = has_host_out objects object }) objects

-- an object without that mark, as the rows of pages are
abbrev pub unmarked : MergedObject → MergedObject
unmarked object = record object { host_is_out = false }

-- each name of the rows stands once, by a row of that name than which none has a younger result
pub record IsListOf (rows shown : List MergedObject) : Type 0 where
  pub once : IsDistinct same_name shown
  pub whole : AllPass (λ row. list_any (same_name row) shown) rows
  pub latest : All
      (λ object. Contains rows object × (is_latest (filter (λ row. same_name row object) rows) object ≡ true))
      shown

-- how many seconds old a gateway's page is, where it is old
abbrev pub age_of : Gateway → ℕ
age_of gateway = elim gateway.old [ Some old ↦ old.age | None ↦ 0 ]

-- the row of this index on a page of this moment, with its gateway's name, the page's moment and age, and since when it
-- has its state, which is at least the page's moment where that isn't known; where the page is old, it is stale
abbrev pub shown_by : Gateway → ℕ → ℕ → ShownObject → MergedObject
shown_by gateway moment index row = record {
  gateway = gateway.name;
  moment = min (moment + age_of gateway) 4294967295;
  is_old = is_some gateway.old;
  since = unwrap_or (slice_get gateway.since.now index) (record { moment = moment; at_least = true; is_held = false });
  host_is_out = false;
  row = record row { stale = row.stale || is_some gateway.old };
}

-- the objects of a gateway's page, in its order, at its moment and its age; none where there is no page
abbrev pub objects_on : Gateway → List MergedObject
objects_on gateway = elim gateway.page [
  | Ok page ↦ map
      (λ (item : ℕ × ShownObject). shown_by gateway page.moment item.0 item.1)
      (enumerate_from 0 page.objects.items)
  | Err fault ↦ []
]

-- an object has a state of its kind (Nagios Core 4 manual, Passive Checks)
abbrev pub HasOwnState : MergedObject → Type 0
HasOwnState object =
    is_state_of object.row.last (object_kind (service_name object.row.service.now)) object.row.state ≡ true

-- the page of a gateway, where there is one, has no row that no gateway writes, as each page that is read
abbrev pub HasSoundPage : Gateway → Type 0
HasSoundPage gateway = elim gateway.page [ Ok page ↦ IsSound (page_view page) | Err fault ↦ Unit {0} ]
