use Rattle.std.proofs.Common.{ap, ◌∙◌}
use Rattle.gate_model.specs.Meaning.{downtimes_at}
use Rattle.gate_applier.specs.Applier.{ApplierView}
use Rattle.gate_applier.proofs.LiveSteps.{live-at}
use Rattle.gate_applier.proofs.applier.Applier.downtimes.Goals as goal

pub returns : goal.returns
returns c =
    c.new.ensures
    ∙ live-at c.self.inside.books.downtime c.self.inside.table c.self.inside.records.items c.self.inside.moment c.self.invariant.books_stand.follow.downtime_stands
    ∙ ap (λ (view : ApplierView). downtimes_at view.table view.records view.moment) c.self.view_is
