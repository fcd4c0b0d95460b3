use Rattle.std.proofs.Common.{arith, refl, ap, sym, ◌∙◌}
use Rattle.std.specs.Prelude.{is_some}
use Rattle.gate_queue.specs.Client.{ClientState}
use Rattle.gate_worker.specs.Numbers.{reported_numbers}
use Rattle.gate_worker.specs.Work.{served_piece, has_queued}
use Rattle.gate_worker.proofs.Working.{both_known, worked_none, worked_look, goes_on, count_one, serves_numbers, ended_work, knows_none_yet, knows_as_much}
use Rattle.gate_worker.proofs.worker.serve_pieces.Goals as goal

pub loop-init : goal.loop-init
loop-init g c =
    let s = c.args.serving.now in
    let stays = c.learn.ensures.stays in (
      tt,
      tt,
      ap (λ (x : ClientState). x.gate) stays ∙ c.requires.gate,
      ap (λ (x : ClientState). x.number) stays,
      both_known _ _ c.args.closer c.requires.closer c.learn.ensures.learned,
      refl,
      omega arith,
      worked_none (is_some c.args.closer) s.limits (g.K.Watch.shows s.clock.now) (g.C.Connections.streams c.args.connections.now) (g.C.Connections.parted c.args.connections.now)
          c.args.client c.new-reports.result.items c.new-table.result c.learn.new.client stays c.learn.ensures.knew c.new-reports.ensures.items
          c.new-table.ensures.session c.new-table.ensures.none c.new-table.ensures.counted,
    )

pub serve-served-requires-clause-closer : goal.serve-served-requires-clause-closer
serve-served-requires-clause-closer g c =
    knows_none_yet c.loop.closer c.args.serving.now.gate.now.cell c.loop.client.known_close c.next_piece.new.client.known_close c.loop.invariant.4
    c.next_piece.ensures.knew c.in-Ok.ensures.open

pub note-requires-clause-few : goal.note-requires-clause-few
note-requires-clause-few g c = omega (arith, c.in-Ok.ensures.few, c.requires.sessions)

pub loop-preserved : goal.loop-preserved
loop-preserved g c =
    let s = c.args.serving.now in
    let i = c.loop.invariant in
    let t = goes_on (is_some c.loop.closer) (is_some c.args.closer) s.limits (g.K.Watch.shows s.clock.now) (g.C.Connections.streams c.args.connections.now) (g.C.Connections.streams c.loop.connections)
    (g.C.Connections.streams c.next_piece.new.connections) (g.C.Connections.streams c.part.new.self)
    (g.C.Connections.parted c.args.connections.now) (g.C.Connections.parted c.loop.connections) (g.C.Connections.parted c.next_piece.new.connections) (g.C.Connections.parted c.part.new.self) c.end_of_piece.result
    c.args.client c.loop.reports.items c.next_piece.new.reports.items c.keep_report.new.reports.items c.loop.table c.next_piece.new.table c.note.new.self c.loop.client c.next_piece.new.client
    (served_piece c.in-Ok.piece.place c.in-Ok.piece.is_first (g.C.In.Source.state c.in-Ok.piece.input).left c.serve-served.ensures.served.0 c.serve-served.result.report c.serve-served.result.left)
    c.before-before.result c.has_queued-queued.result c.serve-served.result.client s.gate.now c.args.client.number
    i.7 c.next_piece.ensures.stays c.next_piece.ensures.knew c.in-Ok.ensures.open c.next_piece.ensures.reports c.next_piece.ensures.as_before c.before-before.ensures
    c.serve-served.ensures.served.1 i.5 c.in-Ok.ensures.next c.part.ensures.none_comes c.in-Ok.ensures.whole c.keep_report.ensures
    (c.has_queued-queued.ensures ∙ ap has_queued c.as_slice.ensures) c.in-Ok.ensures.reached c.note.ensures.entries c.note.ensures.session c.note.ensures.counted
    c.next_piece.ensures.none_parts c.part.ensures.parts c.end_of_piece.ensures i.2 i.3 in (
      tt,
      tt,
      t.0,
      t.1,
      knows_as_much c.serve-served.result.closer s.gate.now.cell c.serve-served.result.client.known_close c.serve-served.ensures.closer,
      c.serve-served.ensures.role ∙ i.5,
      omega (arith, c.note.ensures.counted, count_one c.before-before.result.is_counted c.has_queued-queued.result, c.in-Ok.ensures.few),
      t.2,
    )

pub end_of-requires-clause-reported : goal.end_of-requires-clause-reported
end_of-requires-clause-reported g c =
    (serves_numbers _ _ _ _ _ c.args.client c.loop.reports.items c.next_piece.new.client c.requires.fresh
    (worked_look _ _ _ _ _ _ _ _ _ _ c.loop.reports.items c.loop.table c.next_piece.new.table c.loop.client c.next_piece.new.client c.loop.invariant.7 c.next_piece.ensures.stays c.next_piece.ensures.knew refl c.next_piece.ensures.as_before refl).serves).0
    ∙ ap reported_numbers (sym c.next_piece.ensures.reports)

pub end_of-requires-clause-counted : goal.end_of-requires-clause-counted
end_of-requires-clause-counted g c =
    ap reported_numbers c.next_piece.ensures.reports
    ∙ (serves_numbers _ _ _ _ _ c.args.client c.loop.reports.items c.next_piece.new.client c.requires.fresh
    (worked_look _ _ _ _ _ _ _ _ _ _ c.loop.reports.items c.loop.table c.next_piece.new.table c.loop.client c.next_piece.new.client c.loop.invariant.7 c.next_piece.ensures.stays c.next_piece.ensures.knew refl c.next_piece.ensures.as_before refl).serves).1

pub returns-in-Err-clause-work : goal.returns-in-Err-clause-work
returns-in-Err-clause-work g c =
    let s = c.args.serving.now in
    let e = c.end_of.ensures in
    ended_work (is_some c.args.closer) s.limits (g.K.Watch.shows s.clock.now) (g.C.Connections.streams c.args.connections.now) (g.C.Connections.streams c.loop.connections)
    (g.C.Connections.streams c.next_piece.new.connections) (g.C.Connections.parted c.args.connections.now) (g.C.Connections.parted c.next_piece.new.connections)
    c.args.client c.next_piece.new.reports.items c.end_of.result.reports.items c.next_piece.new.table c.next_piece.new.client
    c.end_of.result.ended c.in-Err.cause c.end_of.result.cause
    (worked_look (is_some c.args.closer) s.limits (g.K.Watch.shows s.clock.now) (g.C.Connections.streams c.args.connections.now) (g.C.Connections.streams c.loop.connections)
    (g.C.Connections.parted c.args.connections.now) (g.C.Connections.parted c.loop.connections) (g.C.Connections.parted c.next_piece.new.connections) c.args.client c.loop.reports.items
    c.next_piece.new.reports.items c.loop.table c.next_piece.new.table c.loop.client c.next_piece.new.client c.loop.invariant.7 c.next_piece.ensures.stays c.next_piece.ensures.knew c.next_piece.ensures.reports c.next_piece.ensures.as_before c.next_piece.ensures.none_parts)
    e.0 (ap (λ v. v.items) e.1) e.2 c.in-Err.ensures.none c.in-Err.ensures.stops
