use Rattle.std.proofs.Common.{◌≡◌, ◌∙◌, ◌||◌, false, ap, sym, get_or, arith}
use Rattle.gate_downtime.specs.declared.row.Row.{Row}
use Rattle.gate_downtime.specs.declared.gone.Mark.{Mark}
use Rattle.gate_downtime.specs.inner.Rows.{live_at}
use Rattle.gate_downtime.proofs.GoneSteps.{takes-one, both-false, gone-pass, gone-trans, passed-none, passed-same}
use Rattle.gate_downtime.proofs.gone.take_gone.Goals as goal

pub returns-then-not-is_passed-clause-gone : goal.returns-then-not-is_passed-clause-gone
returns-then-not-is_passed-clause-gone c =
    let m : Mark = c.mark_at-mark.result in
    let d : Row = c.row_at-row.result in
    let row : d ≡ get_or c.args.rows.now c.in-Some.at d = c.row_at-row.ensures d in
    let is : m ≡ get_or c.pop_listed.new.gone.marks.items c.in-Some.at m = c.mark_at-mark.ensures m ∙ ap (λ marks. get_or marks c.in-Some.at m) c.deref.ensures.value in
    let off : (live_at c.args.now d ≡ false) × (m.returned ≡ false) = both-false _ _ (sym c.is_passed.ensures ∙ c.if-not-is_passed.true) in
    (takes-one c.args.now c.in-Some.at d m _ _ _ _ _ c.listed.invariant.same c.listed.invariant.gone c.in-Some.ensures.some c.in-Some.ensures.same c.mark_returned.ensures (ap (live_at c.args.now) (sym row) ∙ off.0) (ap (λ (x : Mark). x.returned) (sym is) ∙ off.1)).0

pub returns-then-not-is_passed-clause-some : goal.returns-then-not-is_passed-clause-some
returns-then-not-is_passed-clause-some c =
    let m : Mark = c.mark_at-mark.result in
    let d : Row = c.row_at-row.result in
    let row : d ≡ get_or c.args.rows.now c.in-Some.at d = c.row_at-row.ensures d in
    let is : m ≡ get_or c.pop_listed.new.gone.marks.items c.in-Some.at m = c.mark_at-mark.ensures m ∙ ap (λ marks. get_or marks c.in-Some.at m) c.deref.ensures.value in
    let off : (live_at c.args.now d ≡ false) × (m.returned ≡ false) = both-false _ _ (sym c.is_passed.ensures ∙ c.if-not-is_passed.true) in
    (takes-one c.args.now c.in-Some.at d m _ _ _ _ _ c.listed.invariant.same c.listed.invariant.gone c.in-Some.ensures.some c.in-Some.ensures.same c.mark_returned.ensures (ap (live_at c.args.now) (sym row) ∙ off.0) (ap (λ (x : Mark). x.returned) (sym is) ∙ off.1)).1

pub listed-preserved : goal.listed-preserved
listed-preserved c =
    let m : Mark = c.mark_at-mark.result in
    let d : Row = c.row_at-row.result in
    let row : d ≡ get_or c.args.rows.now c.in-Some.at d = c.row_at-row.ensures d in
    let is : m ≡ get_or c.pop_listed.new.gone.marks.items c.in-Some.at m = c.mark_at-mark.ensures m ∙ ap (λ marks. get_or marks c.in-Some.at m) c.deref.ensures.value in
    record {
      gone =
          gone-pass c.args.now c.in-Some.at d m _ _ _ c.in-Some.ensures.some c.in-Some.ensures.same c.listed.invariant.gone
          (ap (λ r. live_at c.args.now r || (get_or c.pop_listed.new.gone.marks.items c.in-Some.at m).returned) (sym row) ∙ ap (λ (x : Mark). live_at c.args.now d || x.returned) (sym is) ∙ sym c.is_passed.ensures ∙ c.if-not-is_passed.false);
      same = gone-trans _ _ _ c.listed.invariant.same c.in-Some.ensures.same;
    }

pub returns-clause-none : goal.returns-clause-none
returns-clause-none c =
    passed-same _ _ _ _ _ (omega (arith, c.requires.kept.len)) c.listed.invariant.same (passed-none _ _ _ c.in_default.ensures.none c.listed.invariant.gone)
