use Rattle.std.proofs.lemmas.Result.{on_ok_weaker}
use Rattle.status_export.proofs.metrics.push_labelled.Goals as goal

pub returns : goal.returns
returns c = on_ok_weaker c.push_sample.result (λ is. record { added = is }) c.push_sample.ensures
