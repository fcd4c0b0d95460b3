use Rattle.std.proofs.Common.{◌≡◌, List, [], ◌∷◌, ◌++◌, rules, ap, sym, subst, ◌∙◌}
use Rattle.std.proofs.lemmas.List.{flat_map_more}
use Rattle.statusdesk.specs.declared.commanding.Done.{Done}
use Rattle.statusdesk.specs.Posted.{PostedView}
use Rattle.statusdesk.specs.Taking.{posted_at, posted_in}
use Rattle.statusdesk.specs.Commanding.{AreDone}
use Rattle.statusdesk.proofs.CommandSteps.{done_step, done_all}
use Rattle.statusdesk.proofs.commanding.carry_out_all.Goals as goal

pub loop-at-preserved : goal.loop-at-preserved
loop-at-preserved g c =
    let all = c.loop-at.all.items in
    let one = c.carry_out.result in
    let added : c.push.new.self.items ≡ all ++ one ∷ [] = search rules in
    record {
      done = λ more done. subst (λ (all : List Done). AreDone c.args.now c.args.form.now c.args.pages.now (all ++ more)) (sym added)
          (done_step c.args.now c.args.form.now c.args.pages.now c.loop-at.at-index c.at-item.result all more one
          c.loop-at-test.true c.at-item.is c.carry_out.ensures.done c.loop-at.invariant.done done);
      taken = c.carry_out.ensures.taken
          ∙ ap (λ (front : List PostedView). front ++ posted_at one) c.loop-at.invariant.taken
          ∙ flat_map_more posted_at c.args.intake.now all one
          ∙ sym (ap (λ (all : List Done). c.args.intake.now ++ posted_in all) added);
    }

pub returns-clause-done : goal.returns-clause-done
returns-clause-done g c =
    done_all c.args.now c.args.form.now c.args.pages.now c.loop-at.at-index c.loop-at.all.items c.loop-at-test.false
    c.loop-at.invariant.done
