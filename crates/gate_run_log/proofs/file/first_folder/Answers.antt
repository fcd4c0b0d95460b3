use Rattle.std.proofs.Common.{ap, sym, ◌∙◌}
use Rattle.gate_run_log.specs.Folder.{before_place}
use Rattle.gate_run_log.proofs.file.first_folder.Goals as goal

pub returns-in-Some : goal.returns-in-Some
returns-in-Some c = ap (λ place. before_place place c.args.folders.now) (sym c.in-Some.is ∙ c.first_colon.ensures.first)

pub returns-in-None : goal.returns-in-None
returns-in-None c = ap (λ place. before_place place c.args.folders.now) (sym c.in-None.is ∙ c.first_colon.ensures.first)
