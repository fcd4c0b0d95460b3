use Rattle.std.proofs.Common.{◌∙◌, ◌+◌, ◌<◌, ap, arith, drop, length, length-drop}
use Rattle.gate_downtime.proofs.IdSteps.{front-moved, back-moved}
use Rattle.gate_downtime.proofs.ids.Ids.remove_at.Goals as goal

pub returns-then-index-len-clause-items : goal.returns-then-index-len-clause-items
returns-then-index-len-clause-items c =
    let all = c.self.inside.all.items in
    let start = c.self.inside.start in
    let within : start + c.args.index < length all = omega (arith, c.requires, ap (λ ids. length ids.items) c.self.view_is, length-drop start all) in
    rw (← c.self.view_is) (ap (drop (start + 1)) c.copy_within.ensures.items ∙ front-moved all start c.args.index within)

pub returns-else-index-len-clause-items : goal.returns-else-index-len-clause-items
returns-else-index-len-clause-items c =
    let all = c.self.inside.all.items in
    let start = c.self.inside.start in
    let within : start + c.args.index < length all = omega (arith, c.requires, ap (λ ids. length ids.items) c.self.view_is, length-drop start all) in
    rw (← c.self.view_is) (ap (drop start) c.remove.ensures.items ∙ back-moved all start c.args.index within)
