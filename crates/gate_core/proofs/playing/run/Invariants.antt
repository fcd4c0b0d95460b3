use Rattle.std.proofs.Common.{◌≡◌, ◌≤◌, length}
use Rattle.std.specs.Prelude.{vec_capacity}
use Rattle.gate_core.specs.State.{ExtendsByAll}
use Rattle.gate_core.specs.Event.{FitEvents}
use Rattle.gate_core.proofs.playing.run.Given as goal

abbrev pub invariant-loop-event : goal.invariant-loop-event
invariant-loop-event l = record {
  replies : length l.replies.items ≡ length l.yielded;
  room : length l.fn.events.items ≤ vec_capacity l.replies;
  limits : l.world.limits ≡ l.fn.world.limits;
  fits : FitEvents l.yielded l.replies.items;
  stands : ExtendsByAll l.fn.world l.yielded l.replies.items l.world;
}
