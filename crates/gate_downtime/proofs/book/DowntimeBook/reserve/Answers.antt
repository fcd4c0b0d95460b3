use Rattle.std.proofs.Common.{arith}
use Rattle.gate_downtime.proofs.RoomSteps.{book-kept, book-roomier}
use Rattle.gate_downtime.proofs.book.DowntimeBook.reserve.Goals as goal

pub invariant_of-self : goal.invariant_of-self
invariant_of-self c = book-kept c.self.inside c.reserve.new.self c.reserve.ensures.same c.self.invariant

pub invariant_of-self-2 : goal.invariant_of-self-2
invariant_of-self-2 c =
    book-roomier c.self.inside c.reserve.new.self c.max-room.result c.reserve.ensures.same (omega (arith, c.self.invariant.small, c.max-room.ensures, c.ranges.more.fits)) c.in_ok-reserve.ensures.room c.self.invariant
