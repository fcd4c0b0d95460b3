use Rattle.std.proofs.Common.{sym, append-nil}
use Rattle.status_view.specs.HeadLayout.{gateway_nodes}
use Rattle.status_view.proofs.head_layout.lay_out_gateway.Goals as goal

pub returns-in-None : goal.returns-in-None
unfolding gateway_nodes
returns-in-None c = rw c.in-None.is (sym (append-nil c.args.layout.now))
