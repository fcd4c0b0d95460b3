-- What is said of a run's log. Own rules.
use Rattle.std.specs.Prelude.{ℕ, List, codes}
use Rattle.gate_run_log.specs.declared.writing.Notice.{Notice}
use Rattle.gate_run_log.specs.declared.writing.Notice.TheVariants.{Unwritable, Slow, Gone}

-- the line that says it
abbrev pub notice_of : Notice → List ℕ
notice_of Unwritable = codes "nscagate: the run's log can't be written\n"
notice_of Slow = codes "nscagate: the run's log waits for its disk\n"
notice_of Gone = codes "nscagate: the run's log is gone\n"
