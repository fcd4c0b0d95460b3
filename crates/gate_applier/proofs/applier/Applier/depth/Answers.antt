use Rattle.std.proofs.Common.{sym, ◌∙◌}
use Rattle.gate_model.specs.Meaning.{history_of}
use Rattle.std.proofs.lemmas.Bool.{ltb-false}
use Rattle.gate_applier.proofs.OutsideSteps.{outside-depth}
use Rattle.gate_applier.proofs.applier.Applier.depth.Goals as goal

pub returns-else-has : goal.returns-else-has
returns-else-has c =
    sym (outside-depth c.args.self.now.table c.args.object.place c.args.self.now.moment (history_of c.args.self.now.table c.args.self.now.records) (ltb-false c.args.object.place _ (sym c.has.ensures ∙ c.if-has.false)))
