use Rattle.std.proofs.Common.{◌≡◌, true, false, ◌==◌, ◌++◌}
use Rattle.std.proofs.lemmas.Bool.{eq-eqb, ne_eqb}
use Rattle.status_view.specs.ObjectsLayout.{number_nodes}
use Rattle.status_view.proofs.objects_layout.lay_out_number.Goals as goal

pub returns-then-page-shown : goal.returns-then-page-shown
unfolding number_nodes
returns-then-page-shown c = rw (eq-eqb c.args.page c.args.shown c.if-page-shown.true) c.put.ensures

pub returns-else-page-shown : goal.returns-else-page-shown
unfolding number_nodes
returns-else-page-shown c = rw (ne_eqb c.args.page c.args.shown c.if-page-shown.false) c.put-else-page-shown.ensures
