use Rattle.std.proofs.Common.{◌≡◌, ◌+◌, List, [], ◌∷◌, ◌++◌, get_or, sym, subst, ap, ◌∙◌}
use Rattle.std.proofs.lemmas.List.{map-append, flat_map_more}
use Rattle.statusdesk.specs.declared.commanding.Done.{Done}
use Rattle.statusdesk.specs.Posted.{PostedView}
use Rattle.statusdesk.specs.Taking.{posted_in, all_posted}
use Rattle.statusdesk.specs.Marking.{dones_in}
use Rattle.statusdesk.proofs.MarkSteps.{IsLeft, same_read, mark_step, mark_all}
use Rattle.statusdesk.proofs.marking.carry_out_marks.Goals as goal

pub loop-mark-preserved : goal.loop-mark-preserved
loop-mark-preserved g c =
    let marks = c.args.marks.now in
    let index = c.loop-mark.mark-index in
    let old = c.loop-mark.all.items in
    let dones = c.in_ok-carry_out_mark.field-0 in
    let added : dones_in c.push.new.self.items ≡ dones_in old ++ dones.items ∷ [] =
    ap dones_in c.in_ok-push.ensures.items ∙ map-append (λ one. one.items) old (dones ∷ []) in
    let mark = get_or marks index (record { ref_ptr = (0, 0); now = [] }) in
    record {
      done = subst (λ (all : List (List Done)). IsLeft c.args.now c.args.form.now c.args.pages.now marks (index + 1) all) (sym added)
          (mark_step c.args.now c.args.form.now c.args.pages.now marks index mark (dones_in old) dones.items c.loop-mark-test.true
          (same_read marks index (record { ref_ptr = (0, 0); now = [] }) mark c.loop-mark-test.true)
          c.in_ok-carry_out_mark.ensures.done c.loop-mark.invariant.done);
      taken = c.in_ok-carry_out_mark.ensures.taken
          ∙ ap (λ (front : List PostedView). front ++ posted_in dones.items) c.loop-mark.invariant.taken
          ∙ flat_map_more posted_in c.args.intake.now (dones_in old) dones.items
          ∙ sym (ap (λ (all : List (List Done)). c.args.intake.now ++ all_posted all) added);
    }

pub returns-clause-done : goal.returns-clause-done
returns-clause-done g c =
    mark_all c.args.now c.args.form.now c.args.pages.now c.args.marks.now c.loop-mark.mark-index
    (dones_in c.loop-mark.all.items) c.loop-mark-test.false c.loop-mark.invariant.done
