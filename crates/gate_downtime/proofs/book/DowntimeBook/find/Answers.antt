use Rattle.std.proofs.Common.{◌≡◌, ◌∙◌, List, ℕ, length, ap, sym, subst}
use Rattle.gate_downtime.specs.Book.{live_entries}
use Rattle.gate_downtime.specs.inner.Rows.{row_entries}
use Rattle.gate_downtime.specs.inner.Live.{AreAscending, index_among}
use Rattle.gate_downtime.proofs.SpreadSteps.{spread-end}
use Rattle.gate_downtime.proofs.AscendingSteps.{searchable}
use Rattle.gate_downtime.proofs.IdSteps.{live-ascending}
use Rattle.gate_downtime.proofs.EntrySteps.{found-among, live-counted}
use Rattle.gate_downtime.proofs.book.DowntimeBook.find.Goals as goal

pub find_by_id-requires : goal.find_by_id-requires
find_by_id-requires c =
    let P : List ℕ → Type 0 = AreAscending in
    searchable c.as_slice.result.now (subst P (sym (c.as_slice.ensures ∙ c.self.invariant.live_is)) (live-ascending c.self.inside.chains.first c.self.inside.chains.moment.0 c.self.inside.chains.rows.items))

pub returns-clause-index : goal.returns-clause-index
returns-clause-index c =
    rw (← c.self.view_is)
    (c.find_by_id.ensures.index ∙ ap (index_among c.args.id) (c.as_slice.ensures ∙ c.self.invariant.live_is)
    ∙ found-among c.self.inside.chains.first c.self.inside.chains.moment c.self.inside.chains.rows.items c.args.id (spread-end _ _ _ c.self.invariant.spreading))

pub returns-clause-steps : goal.returns-clause-steps
returns-clause-steps c =
    let long : length c.as_slice.result.now ≡ length (live_entries (row_entries c.self.inside.chains.rows.items) c.self.inside.chains.moment) =
    ap length (c.as_slice.ensures ∙ c.self.invariant.live_is) ∙ live-counted c.self.inside.chains.first c.self.inside.chains.moment c.self.inside.chains.rows.items (spread-end _ _ _ c.self.invariant.spreading) in
    rw (← c.self.view_is, ← long) c.find_by_id.ensures.steps
