use Rattle.std.proofs.Common.{refl, sym}
use Rattle.std.proofs.lemmas.Result.{err_from_is_err_and}
use Rattle.operator_restore.specs.inner.Planned.{IsNamed}
use Rattle.operator_restore.proofs.prospect.prospect_of.Goals as goal

pub returns-clause-prospect : goal.returns-clause-prospect
returns-clause-prospect c =
    let named : IsNamed c.args.plan.results.items c.args.plan.others.items c.args.kept.items c.args.shown.items c.args.warning.items c.in_ok-named.named =
    rw (sym c.as_slice.ensures.value, sym c.as_slice-2.ensures.value) c.in_ok-named.ensures.named in
    record {
      results_sent = c.in_ok-sent_by.ensures;
      others_sent = c.in_ok-sent_by-2.ensures;
      moment = refl;
      kept_text = refl;
      shown_text = refl;
      kept_page = named.kept_page;
      shown_page = named.shown_page;
      is_kept = named.is_kept;
      is_shown = named.is_shown;
      foreseen = named.foreseen;
      lines = named.lines;
      named = named.count;
    }

pub returns-in_err-named-clause-fault : goal.returns-in_err-named-clause-fault
returns-in_err-named-clause-fault c =
    let p = err_from_is_err_and c.from_residual.result c.from_residual.ensures.1 in
    rw (p.1, p.2, sym c.as_slice.ensures.value, sym c.as_slice-2.ensures.value) c.in_err-named.ensures.fault
