use Rattle.std.proofs.Common.{List, [], ◌∷◌, codes}
use Rattle.desk_view.specs.Parts.{PartView}
use Rattle.status_view.specs.Layout.{Markup}
use Rattle.desk_view.specs.Page.{ago_parts}
use Rattle.desk_view.proofs.PutSteps.{last}
use Rattle.desk_view.proofs.states.put_last.Goals as goal

pub returns : goal.returns
returns c =
    let first : List PartView = Markup (codes ", last result ") ∷ [] in
    last c.put_ago.result c.args.html.now c.put.new.html c.put_ago.new.html first (ago_parts c.args.seconds)
    c.in_ok-put.ensures c.put_ago.ensures
