use Rattle.std.proofs.Common.{◌∙◌, List, ℕ, map, ap, sym, subst}
use Rattle.gate_downtime.specs.declared.row.Row.{Row}
use Rattle.gate_downtime.specs.inner.Live.{AreInside, scheduled_at}
use Rattle.gate_downtime.proofs.SpreadSteps.{spread-end}
use Rattle.gate_downtime.proofs.IdSteps.{live-inside}
use Rattle.gate_downtime.proofs.EntrySteps.{live-list, live-stands}
use Rattle.gate_downtime.proofs.book.DowntimeBook.live.Goals as goal

pub new-requires : goal.new-requires
new-requires c =
    let P : List ℕ → Type 0 = λ ids. AreInside c.self.inside.chains.first c.self.inside.chains.rows.items ids in
    let Q : List Row → Type 0 = λ rows. AreInside c.self.inside.chains.first rows c.as_slice.result.now in
    subst Q (sym c.deref.ensures.value) (subst P (sym (c.as_slice.ensures ∙ c.self.invariant.live_is)) (live-inside c.self.inside.chains.first c.self.inside.chains.moment.0 c.self.inside.chains.rows.items))

pub returns-clause-value : goal.returns-clause-value
returns-clause-value c =
    rw (← c.self.view_is)
    (c.new.ensures ∙ ap (λ rows. map (scheduled_at c.self.inside.chains.first rows) c.as_slice.result.now) c.deref.ensures.value
    ∙ ap (map (scheduled_at c.self.inside.chains.first c.self.inside.chains.rows.items)) (c.as_slice.ensures ∙ c.self.invariant.live_is)
    ∙ live-list c.self.inside.chains.first c.self.inside.chains.moment c.self.inside.chains.rows.items (spread-end _ _ _ c.self.invariant.spreading))

pub returns-clause-stands : goal.returns-clause-stands
returns-clause-stands c = λ first history moment stands. live-stands c.args.self.now _ first history moment stands (returns-clause-value c)
