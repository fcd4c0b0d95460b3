use Rattle.std.proofs.Common.{◌∙◌, ap, sym}
use Rattle.gate_downtime.specs.inner.Live.{index_among}
use Rattle.gate_downtime.proofs.AscendingSteps.{searchable}
use Rattle.gate_downtime.proofs.IdSteps.{removed-is, unfound-is, found-within}
use Rattle.gate_downtime.proofs.ids.Ids.remove.Goals as goal

pub find_by_id-requires : goal.find_by_id-requires
find_by_id-requires c = searchable c.as_slice.result.now (rw c.as_slice.ensures c.requires)

pub remove_at-requires : goal.remove_at-requires
remove_at-requires c = found-within c.args.id c.in-Some.index c.args.self.now.items (c.in-Some.ensures.index ∙ ap (index_among c.args.id) c.as_slice.ensures)

pub returns-in-Some-clause-items : goal.returns-in-Some-clause-items
returns-in-Some-clause-items c =
    c.remove_at.ensures.items ∙ removed-is c.args.id c.in-Some.index c.args.self.now.items c.requires (c.in-Some.ensures.index ∙ ap (index_among c.args.id) c.as_slice.ensures)

pub returns-in_default-clause-items : goal.returns-in_default-clause-items
returns-in_default-clause-items c =
    unfound-is c.args.id c.args.self.now.items (sym c.in_default.is ∙ c.find_by_id.ensures.index ∙ ap (index_among c.args.id) c.as_slice.ensures)
