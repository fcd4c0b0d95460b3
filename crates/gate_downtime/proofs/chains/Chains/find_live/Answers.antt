use Rattle.std.proofs.Common.{◌∙◌, List, ap, subst}
use Rattle.std.specs.Prelude.{IfSome}
use Rattle.gate_downtime.specs.declared.row.Row.{Row}
use Rattle.gate_downtime.specs.inner.Rows.{is_live_row}
use Rattle.gate_downtime.specs.inner.Scheduling.{IsLiveAt}
use Rattle.gate_downtime.proofs.chains.Chains.find_live.Goals as goal

pub returns-clause-found : goal.returns-clause-found
returns-clause-found c =
    let P : List Row → Type 0 = λ rows. IfSome c.find_live.result (λ at. IsLiveAt c.args.self.now.first rows c.args.self.now.moment.0 c.args.id at) in
    subst P c.deref.ensures.value c.find_live.ensures.found

pub returns-clause-live : goal.returns-clause-live
returns-clause-live c = c.find_live.ensures.live ∙ ap (λ rows. is_live_row c.args.self.now.first rows c.args.self.now.moment.0 c.args.id) c.deref.ensures.value
