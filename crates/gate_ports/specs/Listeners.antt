-- What becomes of a listening socket at the daemon's end.
use Rattle.std.specs.Prelude.{ℕ, Bool, ◌==◌, false}
use Rattle.gate_ports.specs.declared.listener.Owner.{Owner}
use Rattle.gate_ports.specs.declared.listener.Owner.TheVariants.{Daemon, Supervisor}

-- it ends with the last of its workers; one that is lent doesn't end
abbrev pub ends_listener : Owner → ℕ → Bool
ends_listener Daemon workers = workers == 0
ends_listener Supervisor workers = false
