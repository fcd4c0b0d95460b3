use Rattle.std.proofs.Common.{rules, tests}
use Rattle.std.specs.Prelude.{not}
use Rattle.std.proofs.lemmas.Iterator.{YieldsList-from_slice}
use Rattle.std.proofs.lemmas.Iterator.Search.{any_from_yields_List}
use Rattle.gate_reader.specs.Report.{is_open}
use Rattle.gate_worker.proofs.serving.met_close.Goals as goal

pub returns : goal.returns
returns c =
    any_from_yields_List (λ answer. not (is_open answer)) _ _ _ c.any.ensures.ran (YieldsList-from_slice c.args.answers.now cc) (λ x b q k. search (rules, tests))
