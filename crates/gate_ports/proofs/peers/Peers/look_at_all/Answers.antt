use Rattle.std.proofs.Common.{◌∙◌, arith}
use Rattle.gate_ports.proofs.Late.{none_late_more, time_more}
use Rattle.gate_ports.proofs.peers.Peers.look_at_all.Goals as goal

pub loop-place-preserved : goal.loop-place-preserved
loop-place-preserved c = record {
  room = c.let_go_late.ensures.only.room ∙ c.loop-place.invariant.room;
  none_late = none_late_more c.loop-place.self c.let_go_late.new.self c.loop-place.place c.let_go_late.ensures.time
      c.loop-place.invariant.none_late c.let_go_late.ensures.only c.let_go_late.ensures.gone;
  time = time_more _ _ _ c.loop-place.invariant.time c.let_go_late.ensures.time;
}

pub returns-clause-none_late : goal.returns-clause-none_late
returns-clause-none_late c place less =
    let done = c.loop-place-test.false in
    let long = c.len-place-end.ensures in
    let room = c.loop-place.invariant.room in
    c.loop-place.invariant.none_late place (omega (arith, less, done, long, room))
