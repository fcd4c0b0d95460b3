use Rattle.std.proofs.Common.{◌<◌, length, arith, ap, ◌∙◌, refl}
use Rattle.std.proofs.lemmas.List.{get_or_default}
use Rattle.gate_downtime.proofs.SpreadSteps.{spread-end}
use Rattle.gate_downtime.proofs.BookSteps.{depth-stands}
use Rattle.gate_downtime.proofs.book.DowntimeBook.depth.Goals as goal

pub returns : goal.returns
returns c =
    let objects : c.args.object.place < length c.self.inside.chains.tally.depths.items = omega (arith, c.requires, ap (λ v. v.objects) c.self.view_is, c.self.invariant.objects, c.self.inside.chains.tally.depths.ok.0) in
    rw (← c.self.view_is)
    (depth-stands _ c.self.inside.chains.rows.items c.self.inside.chains.tally.depths.items c.self.inside.chains.first c.args.object.place c.index.result.now refl
    (spread-end _ _ _ c.self.invariant.spreading) c.self.invariant.sound.sound.marked c.self.invariant.sound.sound.fits.counted objects
    (c.index.ensures ∙ get_or_default _ _ _ 0 objects))
