use Rattle.std.proofs.Common.{inr}
use Rattle.std.proofs.lemmas.Result.{IfErr-weaker}
use Rattle.operator_restore.proofs.NameSteps.{has_page, with_last}
use Rattle.operator_restore.specs.Prospect.{IsLogProspect}
use Rattle.operator_restore.proofs.prospect.look_ahead.Goals as goal

pub returns-in-Some-clause-prospect : goal.returns-in-Some-clause-prospect
returns-in-Some-clause-prospect c = with_last c.args.printed.now c.in-Some.log.now (λ log. IsLogProspect c.args.tables.fresh c.args.tables.of_log c.args.page.now log c.args.now) c.look_ahead_by_log.result c.in-Some.ensures c.look_ahead_by_log.ensures.prospect

pub returns-in-Some-clause-no_log : goal.returns-in-Some-clause-no_log
returns-in-Some-clause-no_log c = λ none. absurd (has_page c.args.printed.now c.in-Some.log.now c.in-Some.ensures none)

pub returns-in-Some-clause-fault : goal.returns-in-Some-clause-fault
returns-in-Some-clause-fault c =
    IfErr-weaker c.look_ahead_by_log.result _ _ (λ fault is. inr (c.in-Some.log.now, c.in-Some.ensures, is)) c.look_ahead_by_log.ensures.fault
