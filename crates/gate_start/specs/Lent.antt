-- The listening sockets that a supervisor lends, by systemd's sd_listen_fds(3). Own rule: sixteen of them are looked at.
use Rattle.std.specs.Prelude.{ℕ, ◌==◌, min, Option, Some, None, if◌then◌else◌}

-- how many are lent to the process of this number, where LISTEN_PID and LISTEN_FDS are these numbers
abbrev pub lent_count : ℕ → Option ℕ → Option ℕ → ℕ
lent_count process (Some lent_to) (Some count) = if lent_to == process then min count 16 else 0
lent_count process lent_to count = 0
