use Rattle.std.proofs.Common.{ap, sym}
use Rattle.std.specs.Prelude.{nat_lt}
use Rattle.std.proofs.lemmas.List.{length-map}
use Rattle.status_view.specs.Shapes.{gateway_shape_view}
use Rattle.status_view.proofs.objects_layout.are_several.Goals as goal

pub returns : goal.returns
returns c = ap (nat_lt 1) (sym (length-map c.args.gateways.now gateway_shape_view))
