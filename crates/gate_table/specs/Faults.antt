-- When lines are no table of monitored objects: `IsFaultless`, `IsFaultOf`. Own rules: the limits, and the order of the
-- faults.
use Rattle.std.specs.Prelude.{◌≡◌, ℕ, ◌+◌, ◌<◌, ◌≤◌, ◌⊎◌, Bool, true, not, ◌&&◌, nat_lt, List, take, length, count_by, slice_get, Option, Some, None, if◌then◌else◌}
use Rattle.gate_model.specs.declared.object.ObjectLine.{ObjectLine}
use Rattle.gate_model.specs.Table.{has_object, is_host_line, is_service_line_of}
use Rattle.gate_table.specs.declared.table.TableFault.{TableFault}
use Rattle.gate_table.specs.declared.table.TableFault.TheVariants.{BadName, NoSuchHost, DuplicateHost, DuplicateService, TooMany, OutOfMemory}
use Rattle.gate_table.specs.Names.{is_name}

-- no name, or the name of a service: at most 127 bytes
abbrev pub is_service_name : Option (List ℕ) → Bool
is_service_name None = true
is_service_name (Some name) = is_name 127 name

-- the names of the line may be names; a host's has at most 63 bytes
abbrev pub is_named : ObjectLine → Bool
is_named line = is_name 63 line.host && is_service_name line.service

-- what is wrong with a host after these lines: there may be 1,024 hosts
abbrev pub host_fault : List ObjectLine → ℕ → ObjectLine → Option TableFault
host_fault before number line =
    if has_object before line.host None then Some (DuplicateHost number)
    else (if nat_lt (count_by is_host_line before) 1024 then None else Some (TooMany number))

-- what is wrong with a service after these lines: a host may have 1,024 services
abbrev pub service_fault : List ObjectLine → ℕ → ObjectLine → Option TableFault
service_fault before number line =
    if not (has_object before line.host None) then Some (NoSuchHost number)
    else (if has_object before line.host line.service then Some (DuplicateService number)
    else (if nat_lt (count_by (is_service_line_of line.host) before) 1024 then None else Some (TooMany number)))

-- what is wrong with the line of this number after these lines
abbrev pub line_fault : List ObjectLine → ℕ → ObjectLine → Option TableFault
line_fault before number line =
    if not (is_named line) then Some (BadName number)
    else (if is_host_line line then host_fault before number line else service_fault before number line)

-- what is wrong with the line at index i, if there is one
abbrev pub line_fault_at : List ObjectLine → ℕ → Option ObjectLine → Option TableFault
line_fault_at lines i None = None
line_fault_at lines i (Some line) = line_fault (take i lines) (i + 1) line

-- what is wrong with the line at index i, whose number is one more
abbrev pub fault_at : List ObjectLine → ℕ → Option TableFault
fault_at lines i = line_fault_at lines i (slice_get lines i)

-- no line is faulty, and there are at most 16,384
pub record IsFaultless (lines : List ObjectLine) : Type 0 where
  pub few : length lines ≤ 16384
  pub each : (i : ℕ) → fault_at lines i ≡ None

-- the first faulty line, of at most 16,384, has this fault
pub record IsFirstFault (lines : List ObjectLine) (fault : TableFault) : Type 0 where
  pub index : ℕ
  pub few : length lines ≤ 16384
  pub here : fault_at lines index ≡ Some fault
  pub first : (i : ℕ) → i < index → fault_at lines i ≡ None

-- there are more than 16,384 lines, which is reported as line 0
pub record IsOverfull (lines : List ObjectLine) (fault : TableFault) : Type 0 where
  pub many : 16384 < length lines
  pub line_0 : fault ≡ TooMany 0

-- memory ran out at the line of this index, of at most 16,384: neither it nor a line before it is faulty
pub record RanOut (lines : List ObjectLine) : Type 0 where
  pub index : ℕ
  pub few : length lines ≤ 16384
  pub faultless : (i : ℕ) → i ≤ index → fault_at lines i ≡ None

-- why these lines are no table: there are too many, or the first faulty one; or memory ran out before a fault was found
abbrev pub IsFaultOf : List ObjectLine → TableFault → Type 0
IsFaultOf lines OutOfMemory = RanOut lines
IsFaultOf lines fault = IsOverfull lines fault ⊎ IsFirstFault lines fault
