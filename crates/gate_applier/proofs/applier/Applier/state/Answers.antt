use Rattle.std.proofs.Common.{sym, ap, ◌∙◌}
use Rattle.gate_model.specs.Status.{state_left_by}
use Rattle.gate_model.specs.Meaning.{history_of}
use Rattle.std.proofs.lemmas.Bool.{ltb-false}
use Rattle.gate_applier.proofs.OutsideSteps.{outside-last}
use Rattle.gate_applier.proofs.applier.Applier.state.Goals as goal

pub returns-else-has : goal.returns-else-has
returns-else-has c =
    sym (ap state_left_by (outside-last c.args.self.now.table c.args.object.place (history_of c.args.self.now.table c.args.self.now.records) (ltb-false c.args.object.place _ (sym c.has.ensures ∙ c.if-has.false))))
