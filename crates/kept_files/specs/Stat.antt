-- The line of a process in /proc/PID/stat (proc_pid_stat(5)): its state is a letter after the name, which ends with the
-- last parenthesis, and a space.
use Rattle.std.specs.Prelude.{ℕ, ◌+◌, ◌==◌, ◌||◌, Bool, false, List, Option, Some, None, slice_index}

-- the state after the parenthesis of this index is Z or X: the process has ended
abbrev pub is_ended_at : List ℕ → Option ℕ → Bool
is_ended_at stat None = false
is_ended_at stat (Some index) = let state = slice_index stat (index + 2) in state == 90 || state == 88
