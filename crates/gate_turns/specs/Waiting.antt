-- For how long a peer may owe what it owes (`limit_of`), when it is late (`IsLate`), and how long nobody is (`times_left`).
-- Own rules; times are in milliseconds.
use Rattle.std.specs.Prelude.{ℕ, ◌-◌, ◌*◌, ◌≤◌, max, Bool, List, filter_map, Option, Some, None, All, Contains, IsSomeAnd, if◌then◌else◌, ◌==◌}
use Rattle.std.specs.Option.{option_map}
use Rattle.gate_turns.specs.declared.standing.Role.{Role}
use Rattle.gate_turns.specs.declared.standing.Role.TheVariants.{Agent, Operator, Reader}
use Rattle.gate_turns.specs.declared.standing.Stage.{Stage}
use Rattle.gate_turns.specs.declared.standing.Stage.TheVariants.{Open, Last, Parting}
use Rattle.gate_turns.specs.declared.standing.Standing.{Standing}
use Rattle.gate_turns.specs.Standing.{standings, can_be_served}
use Rattle.gate_turns.specs.Pages.{page_time}

-- for how long an agent may be silent: as long as what it then brings is not too old, and 60 seconds at least; 15 minutes
-- where nothing is ever too old
abbrev pub silence_of : ℕ → ℕ
silence_of greatest_age = if greatest_age == 0 then 900000 else 1000 * max 60 greatest_age

-- for how long a peer may owe what it owes: an agent a packet, an operator the end of a line, each of them and the reader of
-- a page that it takes what is left for it, and then the end of its side
abbrev pub time_of : Role → Stage → ℕ → ℕ → ℕ
time_of Agent Open silence page = silence
time_of Agent Last silence page = 10000
time_of Agent Parting silence page = 500
time_of Operator Open silence page = 60000
time_of Operator Last silence page = 60000
time_of Operator Parting silence page = 500
time_of Reader Open silence page = page_time page
time_of Reader Last silence page = page_time page
time_of Reader Parting silence page = 500

-- the same once the daemon is to end
abbrev pub last_time_of : Stage → ℕ
last_time_of Open = 2000
last_time_of Last = 2000
last_time_of Parting = 500

-- for how long a peer may owe what it owes, if it owes anything: one that can be served owes nothing
abbrev pub limit_of : ℕ → Bool → Standing → Option ℕ
limit_of silence ending standing =
    if can_be_served standing then None
    else Some (if ending then last_time_of standing.stage else time_of standing.role standing.stage silence standing.page.bytes)

-- a peer has owed for as long as it may
abbrev pub IsLate : ℕ → ℕ → Bool → Standing → Type 0
IsLate now silence ending standing =
    IsSomeAnd (limit_of silence ending standing) (λ limit. limit ≤ now - standing.since)

-- the time until a peer is late, if it owes anything
abbrev pub time_left_of : ℕ → ℕ → Bool → Standing → Option ℕ
time_left_of now silence ending standing =
    option_map (λ limit. limit - (now - standing.since)) (limit_of silence ending standing)

-- these times of all peers that owe something
abbrev pub times_left : ℕ → ℕ → Bool → List (Option Standing) → List ℕ
times_left now silence ending peers = filter_map (time_left_of now silence ending) (standings peers)

-- the number is one of these, and none of them is less
pub record IsLeast (numbers : List ℕ) (number : ℕ) : Type 0 where
  pub among : Contains numbers number
  pub least : All (λ other. number ≤ other) numbers
