use Rattle.std.proofs.Common.{◌≡◌, ◌∙◌, true, false, ap, get_or, set, sym, not, ◌&&◌}
use Rattle.std.specs.Prelude.{is_none}
use Rattle.gate_model.specs.Downtime.{begins_at}
use Rattle.gate_downtime.specs.declared.row.Row.{Row}
use Rattle.gate_downtime.specs.inner.Walk.{entry_list}
use Rattle.gate_downtime.proofs.WalkSteps.{turn-begins, turn-idle, write-same}
use Rattle.gate_downtime.proofs.chains.Chains.turn_row.Goals as goal

pub returns-then-not-begins-clause-entries : goal.returns-then-not-begins-clause-entries
returns-then-not-begins-clause-entries c = λ d.
    let row : Row = c.row_at-row.result in
    let entry : row.entry ≡ (get_or c.args.self.now.rows.items c.args.at d).entry = ap (λ (r : Row). r.entry) (c.row_at-row.ensures d) in
    let off : ((is_none row.entry.transition && not row.entry.deleted) && begins_at row.entry.scheduled c.args.self.now.moment c.args.place) ≡ false = sym c.begins.ensures ∙ c.if-not-begins.true in
    write-same c.args.self.now.moment c.args.place c.args.self.now.rows.items c.args.at d c.requires.within
    (rw (← entry) (turn-idle c.args.self.now.moment c.args.place row.entry off))

pub returns-clause-entries : goal.returns-clause-entries
returns-clause-entries c = λ d.
    let row : Row = c.row_at-row.result in
    let entry : row.entry ≡ (get_or c.args.self.now.rows.items c.args.at d).entry = ap (λ (r : Row). r.entry) (c.row_at-row.ensures d) in
    let on : ((is_none row.entry.transition && not row.entry.deleted) && begins_at row.entry.scheduled c.args.self.now.moment c.args.place) ≡ true = sym c.begins.ensures ∙ c.if-not-begins.false in
    c.turn_root.ensures.entries d
    ∙ ap (set (entry_list c.args.self.now.rows.items) c.args.at) (sym (rw (← entry) (turn-begins c.args.self.now.moment c.args.place row.entry on)))
