use Rattle.std.proofs.Common.{◌≡◌, refl, sym, ap, ◌∙◌, arith}
use Rattle.std.specs.Prelude.{is_some, Some, length}
use Rattle.std.proofs.lemmas.Bool.{false≢true}
use Rattle.gate_model.specs.Record.{items_of_records}
use Rattle.gate_queue.specs.Taker.{TakerState}
use Rattle.gate_boards.specs.declared.applying.ApplierStop.TheVariants.{Closing, LogFull}
use Rattle.gate_boards.specs.declared.applying.FullLog.{FullLog}
use Rattle.gate_boards.proofs.Clocked.{both, kept, same_both}
use Rattle.gate_boards.proofs.applying.run_applier.Goals.{in-Took-Item, in-Took-Nothing+else-is_some}
use Rattle.gate_boards.proofs.applying.run_applier.Goals as goal

full_is_not_closing : (full : FullLog) (P : Type 0) → LogFull full ≡ Closing → P
full_is_not_closing full P same = cc

closing_is_not_full : (full : FullLog) (P : Type 0) → Closing ≡ LogFull full → P
closing_is_not_full full P same = cc

pub loop-init : goal.loop-init
loop-init g c = (
  tt,
  tt,
  c.requires.gate,
  c.requires.applied,
  refl,
  record { table = refl; opening = refl; limit = refl },
  omega arith,
  kept (g.K.Clock.state c.args.clock.now) c.args.applier c.args.applier refl refl,
  λ is. is,
)

pub turn-next-requires-clause-gate : goal.turn-next-requires-clause-gate
turn-next-requires-clause-gate g c = c.loop.invariant.2

pub turn-next-requires-clause-applied : goal.turn-next-requires-clause-applied
turn-next-requires-clause-applied g c = c.loop.invariant.3

pub look-requires : goal.look-requires
look-requires g c = c.turn-next.ensures.gate ∙ c.loop.invariant.2

pub rest_after-requires : goal.rest_after-requires
rest_after-requires g c = elim c.match-attempt.branch [
  | in-Took-Item w ↦ ap (λ (t : TakerState). t.gate) w.taker-is ∙ c.turn-next.ensures.gate ∙ c.loop.invariant.2
  | in-Took-Nothing+else-is_some w ↦ ap (λ (t : TakerState). t.gate) (w.taker-is ∙ w.look.ensures.known) ∙ c.turn-next.ensures.gate ∙ c.loop.invariant.2
]

pub loop-preserved : goal.loop-preserved
loop-preserved g c =
    let before = g.K.Clock.state c.args.clock.now in
    let between = g.K.Clock.state c.turn-next.new.clock in
    let turned = both before (g.K.Clock.state c.loop.clock) between c.args.applier c.loop.applier c.turn-next.result.0 c.loop.invariant.7
    c.turn-next.ensures.clock in
    let gate : c.match-attempt.taker.gate ≡ c.turn-next.new.taker.gate = elim c.match-attempt.branch [
      | in-Took-Item w ↦ ap (λ (t : TakerState). t.gate) w.taker-is
      | in-Took-Nothing+else-is_some w ↦ ap (λ (t : TakerState). t.gate) (w.taker-is ∙ w.look.ensures.known)
    ] in
    let taken : c.match-attempt.taker.taken ≡ c.turn-next.new.taker.taken = elim c.match-attempt.branch [
      | in-Took-Item w ↦ ap (λ (t : TakerState). t.taken) w.taker-is
      | in-Took-Nothing+else-is_some w ↦ ap (λ (t : TakerState). t.taken) (w.taker-is ∙ w.look.ensures.known)
    ] in
    let ended : c.match-attempt.taker.ended ≡ c.turn-next.new.taker.ended = elim c.match-attempt.branch [
      | in-Took-Item w ↦ ap (λ (t : TakerState). t.ended) w.taker-is
      | in-Took-Nothing+else-is_some w ↦ ap (λ (t : TakerState). t.ended) (w.taker-is ∙ w.look.ensures.known)
    ] in (
      tt,
      tt,
      ap (λ (t : TakerState). t.gate) c.rest_after.ensures ∙ gate ∙ c.turn-next.ensures.gate ∙ c.loop.invariant.2,
      ap items_of_records c.show_turn-last.ensures.records ∙ c.turn-next.ensures.applied ∙ sym taken ∙ sym (ap (λ (t : TakerState). t.taken) c.rest_after.ensures),
      ap (λ (t : TakerState). t.ended) c.rest_after.ensures ∙ ended ∙ c.turn-next.ensures.ended ∙ c.loop.invariant.4,
      same_both c.args.applier c.turn-next.result.0 c.show_turn-last.new.applier
          (same_both c.args.applier c.loop.applier c.turn-next.result.0 c.loop.invariant.5 c.turn-next.ensures.same) c.show_turn-last.ensures.same,
      c.show_turn-last.ensures.rest,
      both before between (g.K.Clock.state c.show_turn-last.new.clock) c.args.applier c.turn-next.result.0 c.show_turn-last.new.applier turned
          c.show_turn-last.ensures.clock,
      λ is. ap is_some (c.see.ensures.seen (ap is_some c.turn-next.ensures.seen ∙ c.loop.invariant.8 is)),
    )

pub returns-in-LogFull-clause-seen : goal.returns-in-LogFull-clause-seen
returns-in-LogFull-clause-seen g c = λ is.
    c.see.ensures.seen (ap is_some c.turn-next.ensures.seen ∙ c.loop.invariant.8 is)
    ∙ ap (λ records. Some (records, c.outcomes.result.now)) c.records.ensures.records
    ∙ ap (λ outcomes. Some (c.turn-next.result.0.records, outcomes)) c.outcomes.ensures.outcomes

pub returns-then-is_some-clause-seen : goal.returns-then-is_some-clause-seen
returns-then-is_some-clause-seen g c = λ is.
    c.see.ensures.seen (ap is_some c.turn-next.ensures.seen ∙ c.loop.invariant.8 is)
    ∙ ap (λ records. Some (records, c.outcomes.result.now)) c.records.ensures.records
    ∙ ap (λ outcomes. Some (c.turn-next.result.0.records, outcomes)) c.outcomes.ensures.outcomes

pub see-requires : goal.see-requires
see-requires g c = ap length c.records.ensures.records ∙ sym c.outcomes.ensures.one_each ∙ ap length (sym c.outcomes.ensures.outcomes)

pub end_full-full-requires : goal.end_full-full-requires
end_full-full-requires g c = c.turn-next.ensures.log_full c.in-LogFull.is

pub returns-in-LogFull-clause-applied : goal.returns-in-LogFull-clause-applied
returns-in-LogFull-clause-applied g c = c.turn-next.ensures.applied

pub returns-in-LogFull-clause-gate : goal.returns-in-LogFull-clause-gate
returns-in-LogFull-clause-gate g c = c.turn-next.ensures.gate ∙ c.loop.invariant.2

pub returns-in-LogFull-clause-ended : goal.returns-in-LogFull-clause-ended
returns-in-LogFull-clause-ended g c = c.turn-next.ensures.ended ∙ c.loop.invariant.4

pub returns-in-LogFull-clause-same : goal.returns-in-LogFull-clause-same
returns-in-LogFull-clause-same g c =
    same_both c.args.applier c.loop.applier c.turn-next.result.0 c.loop.invariant.5 c.turn-next.ensures.same

pub returns-in-LogFull-clause-clock : goal.returns-in-LogFull-clause-clock
returns-in-LogFull-clause-clock g c =
    both (g.K.Clock.state c.args.clock.now) (g.K.Clock.state c.loop.clock) (g.K.Clock.state c.turn-next.new.clock) c.args.applier c.loop.applier
    c.turn-next.result.0 c.loop.invariant.7 c.turn-next.ensures.clock

pub returns-in-LogFull-clause-closing : goal.returns-in-LogFull-clause-closing
returns-in-LogFull-clause-closing g c = λ same. full_is_not_closing _ _ same

pub returns-in-LogFull-clause-log_full : goal.returns-in-LogFull-clause-log_full
returns-in-LogFull-clause-log_full g c = λ full same. c.turn-next.ensures.log_full c.in-LogFull.is

pub returns-then-is_some-clause-applied : goal.returns-then-is_some-clause-applied
returns-then-is_some-clause-applied g c = c.turn-next.ensures.applied ∙ ap (λ (t : TakerState). t.taken) (sym c.look.ensures.known)

pub returns-then-is_some-clause-gate : goal.returns-then-is_some-clause-gate
returns-then-is_some-clause-gate g c = ap (λ (t : TakerState). t.gate) c.look.ensures.known ∙ c.turn-next.ensures.gate ∙ c.loop.invariant.2

pub returns-then-is_some-clause-ended : goal.returns-then-is_some-clause-ended
returns-then-is_some-clause-ended g c = ap (λ (t : TakerState). t.ended) c.look.ensures.known ∙ c.turn-next.ensures.ended ∙ c.loop.invariant.4

pub returns-then-is_some-clause-same : goal.returns-then-is_some-clause-same
returns-then-is_some-clause-same g c =
    same_both c.args.applier c.loop.applier c.turn-next.result.0 c.loop.invariant.5 c.turn-next.ensures.same

pub returns-then-is_some-clause-clock : goal.returns-then-is_some-clause-clock
returns-then-is_some-clause-clock g c =
    both (g.K.Clock.state c.args.clock.now) (g.K.Clock.state c.loop.clock) (g.K.Clock.state c.turn-next.new.clock) c.args.applier c.loop.applier
    c.turn-next.result.0 c.loop.invariant.7 c.turn-next.ensures.clock

pub returns-then-is_some-clause-closing : goal.returns-then-is_some-clause-closing
returns-then-is_some-clause-closing g c = λ same.
    ap (λ (t : TakerState). is_some t.known_close) c.look.ensures.known ∙ sym c.is_some.ensures ∙ c.if-is_some.true

pub returns-then-is_some-clause-log_full : goal.returns-then-is_some-clause-log_full
returns-then-is_some-clause-log_full g c = λ full same. closing_is_not_full full _ same

pub unreachable-requires : goal.unreachable-requires
unreachable-requires g c = false≢true c.in-None.ensures.steps
