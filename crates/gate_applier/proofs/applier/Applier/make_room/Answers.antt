use Rattle.std.proofs.Common.{◌≡◌, length, ap, ◌∙◌, arith}
use Rattle.gate_applier.proofs.BookSteps.{stand-room, table-room}
use Rattle.gate_model.proofs.MeaningSteps.{length-outcomes_of}
use Rattle.gate_applier.proofs.applier.Applier.make_room.Goals as goal

pub invariant_of-self-2 : goal.invariant_of-self-2
invariant_of-self-2 c =
    let was = c.self.inside in
    let sound = c.self.invariant in
    let one_each : length was.outcomes.items ≡ length was.records.items =
    ap length sound.outcomes_are ∙ length-outcomes_of was.table was.records.items
    in
    record {
      limited = sound.limited;
      few = rw c.reserve.ensures.items sound.few;
      in_order = rw c.reserve.ensures.items sound.in_order;
      outcomes_are = rw (c.reserve.ensures.items, c.reserve-2.ensures.items) sound.outcomes_are;
      of_table = table-room was.table was.opening was.books c.make_room.new.self c.make_room.ensures.same sound.of_table;
      books_stand = rw c.reserve.ensures.items (stand-room _ was.moment was.books c.make_room.new.self c.make_room.ensures.same sound.books_stand);
      records_modest = record {
        within_limit = omega (arith, sound.few, sound.records_modest.within_limit);
        modest = omega (arith, sound.few, sound.records_modest.modest);
      };
      outcomes_modest = record {
        within_limit = omega (arith, one_each, sound.few, sound.outcomes_modest.within_limit);
        modest = omega (arith, one_each, sound.few, sound.outcomes_modest.modest);
      };
    }
