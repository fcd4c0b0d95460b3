-- The names of a setting and of states, as words write them. The return codes are those of the plugins (Nagios Core 4
-- manual, Plugin API): of a host, 0 is UP, 1 DOWN and 2 UNREACHABLE, as PROCESS_HOST_CHECK_RESULT has them.
use Rattle.std.specs.Prelude.{ℕ, ℤ, pos, Bool, true, false, List, Option, Some, None, codes, if◌then◌else◌}
use Rattle.std.specs.Str.{bytes_eq}

-- whether passive checks are enabled
abbrev pub setting_of : List ℕ → Option Bool
setting_of text =
    if bytes_eq text (codes "on") then Some true
    else if bytes_eq text (codes "off") then Some false
    else None

-- the return code of a service's state
abbrev pub service_code : List ℕ → Option ℤ
service_code state =
    if bytes_eq state (codes "OK") then Some (pos 0)
    else if bytes_eq state (codes "WARNING") then Some (pos 1)
    else if bytes_eq state (codes "CRITICAL") then Some (pos 2)
    else if bytes_eq state (codes "UNKNOWN") then Some (pos 3)
    else None

-- the return code of a host's state
abbrev pub host_code : List ℕ → Option ℤ
host_code state =
    if bytes_eq state (codes "UP") then Some (pos 0)
    else if bytes_eq state (codes "DOWN") then Some (pos 1)
    else if bytes_eq state (codes "UNREACHABLE") then Some (pos 2)
    else None
