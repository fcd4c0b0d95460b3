use Rattle.std.proofs.Common.{◌≡◌, ◌∙◌, ap, sym, get_or, arith}
use Rattle.gate_downtime.specs.declared.gone.Mark.{Mark}
use Rattle.gate_downtime.proofs.GoneSteps.{free-is, free-positive, lists-one}
use Rattle.gate_downtime.proofs.gone.list_gone.Goals as goal

pub push_gone-requires : goal.push_gone-requires
push_gone-requires c =
    let m : Mark = c.mark_at-mark.result in
    let is : m ≡ get_or c.args.gone.now.marks.items c.args.at m = c.mark_at-mark.ensures m ∙ ap (λ marks. get_or marks c.args.at m) c.deref.ensures.value in
    omega (
      arith,
      c.requires.room,
      free-positive c.args.gone.now.marks.items c.args.at m c.requires.within (free-is _ (ap (λ (x : Mark). x.listed) (sym is) ∙ c.if-mark.false) (ap (λ (x : Mark). x.returned) (sym is) ∙ c.if-mark-2.false)),
    )

pub returns : goal.returns
returns c =
    let m : Mark = c.mark_at-mark.result in
    let is : m ≡ get_or c.args.gone.now.marks.items c.args.at m = c.mark_at-mark.ensures m ∙ ap (λ marks. get_or marks c.args.at m) c.deref.ensures.value in
    lists-one c.args.at c.args.live _ _ m c.requires.within c.write_mark.ensures.items (ap (λ (x : Mark). x.listed) (sym is) ∙ c.if-mark.false) (ap (λ (x : Mark). x.returned) (sym is) ∙ c.if-mark-2.false)
    c.push_gone.ensures.items c.push_gone.ensures.order c.push_gone.ensures.len c.push_gone.ensures.capacity c.write_mark.ensures.size.len c.write_mark.ensures.size.capacity
