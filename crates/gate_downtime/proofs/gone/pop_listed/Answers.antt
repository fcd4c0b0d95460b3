use Rattle.std.proofs.Common.{◌≡◌, ◌∙◌, ap, refl, get_or, length, arith}
use Rattle.gate_downtime.specs.declared.gone.Mark.{Mark}
use Rattle.gate_downtime.proofs.GoneSteps.{popped-within, pops-one, same-mark}
use Rattle.gate_downtime.proofs.gone.pop_listed.Goals as goal

pub mark_at-mark-requires : goal.mark_at-mark-requires
mark_at-mark-requires c = omega (arith, ap length c.deref.ensures.value, popped-within _ _ _ _ _ c.requires c.in-Some.ensures.some)

pub write_mark-requires : goal.write_mark-requires
write_mark-requires c = popped-within _ _ _ _ _ c.requires c.in-Some.ensures.some

pub returns-clause-some : goal.returns-clause-some
returns-clause-some c =
    pops-one c.in-Some.at c.mark_at-mark.result _ _ _ c.requires c.in-Some.ensures.some c.in-Some.ensures.order c.in-Some.ensures.least c.in-Some.ensures.fewer c.write_mark.ensures.items refl

pub returns-clause-same : goal.returns-clause-same
returns-clause-same c =
    let m : Mark = c.mark_at-mark.result in
    let is : m ≡ get_or c.args.gone.now.marks.items c.in-Some.at m = c.mark_at-mark.ensures m ∙ ap (λ marks. get_or marks c.in-Some.at m) c.deref.ensures.value in
    record {
      same = same-mark _ _ c.in-Some.at m _ (popped-within _ _ _ _ _ c.requires c.in-Some.ensures.some) c.write_mark.ensures.items (ap (λ (x : Mark). x.returned) is);
      capacity = omega (arith, c.in-Some.ensures.capacity);
      marks_len = c.write_mark.ensures.size.len;
      marks_capacity = omega (arith, c.write_mark.ensures.size.capacity);
    }
