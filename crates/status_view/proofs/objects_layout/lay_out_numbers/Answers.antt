use Rattle.status_view.specs.ObjectsLayout.{number_nodes}
use Rattle.status_view.proofs.PageSteps.{numbered}
use Rattle.status_view.proofs.objects_layout.lay_out_numbers.Goals as goal

pub loop-index-preserved : goal.loop-index-preserved
loop-index-preserved c =
    numbered (number_nodes c.args.path.now c.args.shown) c.loop-index.index c.args.count _ _ _ c.loop-index-test.true
    c.in_ok-lay_out_number.ensures c.loop-index.invariant
