use Rattle.std.proofs.Common.{◌++◌, ap, ◌∙◌}
use Rattle.std.specs.Prelude.{codes, length}
use Rattle.std.specs.List.{flat_map, zip}
use Rattle.std.specs.Fmt.{decimal}
use Rattle.gate_model.specs.declared.record.Outcome.TheVariants.{Accepted}
use Rattle.gate_lines.specs.LogPage.{log_line}
use Rattle.gate_lines.proofs.LineSteps.{pair-appended, pairs-appended}
use Rattle.gate_lines.proofs.lines.log_page.Goals as goal

pub loop-index-init : goal.loop-index-init
loop-index-init c =
    let records = c.args.records.now in
    ap (λ front. front ++ flat_map log_line (zip records c.args.outcomes.now))
    (c.in_ok-extend_from_slice.ensures.items
    ∙ ap (λ front. front ++ codes "\n") (c.in_ok-push_number.ensures.ok ∙ ap (λ front. front ++ decimal (length records)) c.in_ok-page.ensures.items))

pub loop-index-preserved : goal.loop-index-preserved
loop-index-preserved c =
    pair-appended log_line c.args.records.now c.args.outcomes.now c.loop-index.index c.index-records-index.result Accepted c.loop-index.page.items c.push_line.new.out.items _
    c.requires c.loop-index-test.true c.index-records-index.is c.in_ok-push_line.ensures c.loop-index.invariant

pub returns : goal.returns
returns c =
    pairs-appended log_line c.args.records.now c.args.outcomes.now c.loop-index.index c.loop-index.page.items _ c.loop-index-test.false c.loop-index.invariant
