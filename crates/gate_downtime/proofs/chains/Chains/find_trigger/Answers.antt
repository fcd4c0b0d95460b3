use Rattle.std.proofs.Common.{◌≡◌, ◌∙◌, ◌-◌, ap, get_or, arith, inr}
use Rattle.std.specs.Prelude.{Some}
use Rattle.gate_downtime.specs.declared.row.Row.{Row}
use Rattle.gate_downtime.proofs.chains.Chains.find_trigger.Goals as goal

pub returns-clause-found : goal.returns-clause-found
returns-clause-found c =
    let live = c.in-Some.ensures.found in
    let same : c.in-Some.at ≡ c.args.trigger - c.args.self.now.first = omega (arith, live.id_is) in
    let row : (d : Row) → c.row_at-row.result ≡ get_or c.args.self.now.rows.items (c.args.trigger - c.args.self.now.first) d = λ d. c.row_at-row.ensures d ∙ ap (λ i. get_or c.args.self.now.rows.items i d) same in
    inr (record {
      low = omega (arith, live.id_is);
      high = omega (arith, live.id_is, live.within);
      at = ap Some same;
      begun = λ d. ap (λ (r : Row). r.begun) (row d);
      over = λ d. ap (λ (r : Row). r.over) (row d);
      settled = λ d. ap (λ (r : Row). r.settled) (row d);
    })
