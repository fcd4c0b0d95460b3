use Rattle.std.proofs.Common.{◌≡◌, ℕ, ◌+◌, true, false, sym, subst, take, Option}
use Rattle.gate_turns.specs.declared.standing.Standing.{Standing}
use Rattle.gate_turns.specs.Standing.{others}
use Rattle.gate_turns.specs.Turns.{is_silent, gives_way_before}
use Rattle.gate_turns.proofs.FirstSteps.{FirstSoFar, step_none, step_not, step_is, next_first-comes, next_first-stays, after_all, place_none, place_first, place_within, gives_way_before-order}
use Rattle.gate_turns.proofs.turns.gives_way.Goals.{in-Some+then-is_silent+then-gives_way_first, in-Some+else-is_silent, else-is_silent-via-then-is_silent+else-gives_way_first, else-is_silent-via-else-is_silent, in_default}
use Rattle.gate_turns.proofs.turns.gives_way.Goals as goal

pub loop-place-preserved : goal.loop-place-preserved
loop-place-preserved c =
    let peers = others c.args.peers.now c.args.except in
    let before = gives_way_before c.args.peers.now in
    elim c.match-other_at.branch [
      | in-Some+then-is_silent+then-gives_way_first w ↦
          let silent : is_silent w.in-Some.peer ≡ true = sym w.if-is_silent.ensures in
          rw (w.first-is, w.most-is) (
            subst (λ (first : Option (ℕ × Standing)). FirstSoFar is_silent before (take (c.loop-place.place + 1) peers) first)
                (next_first-comes before c.loop-place.first c.loop-place.place w.in-Some.peer (sym w.if-gives_way_first.ensures))
                (step_is is_silent before (gives_way_before-order c.args.peers.now) peers c.loop-place.place w.in-Some.peer c.loop-place.first
                w.in-Some.ensures silent c.loop-place.invariant.0),
            w.connections-most.ensures,
          )
      | in-Some+else-is_silent w ↦ elim w.else-is_silent.branch [
        | else-is_silent-via-then-is_silent+else-gives_way_first w' ↦
            let silent : is_silent w.in-Some.peer ≡ true = sym w'.if-is_silent.ensures in
            rw (w.first-is, w.most-is) (
              subst (λ (first : Option (ℕ × Standing)). FirstSoFar is_silent before (take (c.loop-place.place + 1) peers) first)
                  (next_first-stays before c.loop-place.first c.loop-place.place w.in-Some.peer
                  (sym w'.if-gives_way_first.ensures))
                  (step_is is_silent before (gives_way_before-order c.args.peers.now) peers c.loop-place.place w.in-Some.peer
                  c.loop-place.first w.in-Some.ensures silent c.loop-place.invariant.0),
              c.loop-place.invariant.1,
            )
        | else-is_silent-via-else-is_silent w' ↦
            let ready : is_silent w.in-Some.peer ≡ false = sym w'.if-is_silent.ensures in
            rw (w.first-is, w.most-is) (
              step_not is_silent before peers c.loop-place.place w.in-Some.peer c.loop-place.first w.in-Some.ensures ready
                  c.loop-place.invariant.0,
              c.loop-place.invariant.1,
            )
      ]
      | in_default w ↦ rw (w.first-is, w.most-is) (
        step_none is_silent before peers c.loop-place.place c.loop-place.first w.in_default.ensures c.loop-place.invariant.0,
        c.loop-place.invariant.1,
      )
    ]

pub returns : goal.returns
returns c =
    let before = gives_way_before c.args.peers.now in
    let peers = others c.args.peers.now c.args.except in
    let kept = after_all is_silent before c.args.peers.now c.args.except c.loop-place.place c.loop-place.first c.loop-place-test.false
    c.loop-place.invariant.0 in
    rw c.place_of.ensures
    (record {
      none = place_none is_silent before peers c.loop-place.first kept;
      first = place_first is_silent before c.args.peers.now c.args.except c.loop-place.first kept;
      within = place_within is_silent before c.args.peers.now c.args.except c.loop-place.first kept;
    })
