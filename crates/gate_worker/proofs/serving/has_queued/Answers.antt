use Rattle.std.proofs.Common.{◌∙◌, rules, tests}
use Rattle.std.proofs.lemmas.Iterator.{YieldsList-from_slice}
use Rattle.std.proofs.lemmas.Iterator.Search.{any_from_yields_List}
use Rattle.gate_worker.specs.inner.Serving.{is_queued}
use Rattle.gate_worker.proofs.Tables.{any_queued}
use Rattle.gate_worker.proofs.serving.has_queued.Goals as goal

pub returns : goal.returns
returns c =
    any_from_yields_List is_queued _ _ _ c.any.ensures.ran (YieldsList-from_slice c.args.answers.now cc) (λ x b q k. search (rules, tests))
    ∙ any_queued c.args.answers.now
