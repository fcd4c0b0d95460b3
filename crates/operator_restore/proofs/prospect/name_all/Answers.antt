use Rattle.std.proofs.Common.{arith, ap}
use Rattle.std.proofs.lemmas.Result.{err_from_is_err_and}
use Rattle.operator_restore.specs.Faults.{IsNoPage}
use Rattle.operator_restore.specs.Naming.{left_count}
use Rattle.operator_restore.proofs.FaultSteps.{no_page, of_first, of_second}
use Rattle.operator_restore.proofs.NameSteps.{appended}
use Rattle.operator_restore.proofs.prospect.name_all.Goals as goal

pub returns-in_err-page-clause-fault : goal.returns-in_err-page-clause-fault
returns-in_err-page-clause-fault c =
    let p = err_from_is_err_and c.from_residual-in_err-page.result c.from_residual-in_err-page.ensures.1 in
    rw p.1 (
    of_first (no_page c.args.kept.now c.in_err-page.field-0.0 p.0 c.in_err-page.ensures.read p.2) (IsNoPage c.args.shown.now)
    )

pub returns-in_err-read_status_page-clause-fault : goal.returns-in_err-read_status_page-clause-fault
returns-in_err-read_status_page-clause-fault c =
    let p = err_from_is_err_and c.from_residual-in_err-read_status_page.result c.from_residual-in_err-read_status_page.ensures.1 in
    rw p.1 (
    of_second (no_page c.args.shown.now c.in_err-read_status_page.field-0.0 p.0 c.in_err-read_status_page.ensures.read p.2)
    (IsNoPage c.args.kept.now)
    )

pub returns-clause-named : goal.returns-clause-named
returns-clause-named c =
    let results = ap left_count c.as_slice-results.ensures.value in
    let others = ap left_count c.as_slice-others.ensures.value in
    record {
      kept_page = c.in_ok-page.page;
      shown_page = c.in_ok-read_status_page.field-0;
      is_kept = c.in_ok-page.ensures.written;
      is_shown = c.in_ok-read_status_page.ensures.written;
      foreseen = record {
        objects = c.in_ok-foreseen.ensures.objects;
        comments = c.in_ok-foreseen.ensures.comments;
        downtimes = c.in_ok-foreseen.ensures.downtimes;
      };
      lines = appended c.args.warning.items c.as_slice-results.result.now c.args.plan.now.results.items c.as_slice-others.result.now c.args.plan.now.others.items _ _ _ _
          c.as_slice-results.ensures.value
          c.as_slice-others.ensures.value
          c.in_ok-push_left.ensures
          c.in_ok-push_left-2.ensures
          c.in_ok-push_rows.ensures;
      count = (
        λ is. omega (arith, is, c.saturating_add-count.ensures, c.saturating_add.ensures, c.row_count.ensures, c.left_count.ensures, c.left_count-2.ensures, results, others),
        λ is. omega (arith, is, c.saturating_add-count.ensures, c.saturating_add.ensures, c.row_count.ensures, c.left_count.ensures, c.left_count-2.ensures, results, others),
      );
    }
