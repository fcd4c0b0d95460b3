use Rattle.std.proofs.Common.{ap, arith}
use Rattle.std.specs.Prelude.{vec_len, vec_capacity}
use Rattle.std.proofs.lemmas.Bool.{false≢true}
use Rattle.gate_applier.specs.Applier.{ApplierView}
use Rattle.gate_applier.specs.inner.Books.{room_of_books}
use Rattle.gate_applier.proofs.RoomSteps.{no-room}
use Rattle.gate_applier.proofs.applier.Applier.prepare.Goals as goal

pub returns-then-len-applier-clause-has_room : goal.returns-then-len-applier-clause-has_room
returns-then-len-applier-clause-has_room c = λ room.
    let was = c.applier.inside in
    no-room (vec_len was.records) (vec_capacity was.records) _ (room_of_books was.books) c.args.self.room
    (omega (arith, c.applier.invariant.records_modest.within_limit, c.len.ensures, c.if-len-applier.true)) (ap (λ (view : ApplierView). view.room) c.applier.view_is) room

pub returns-in-Ok-clause-has_room : goal.returns-in-Ok-clause-has_room
returns-in-Ok-clause-has_room c = λ room. (c.make_room.ensures.has_room room).1

pub returns-in-Err-clause-has_room : goal.returns-in-Err-clause-has_room
returns-in-Err-clause-has_room c = λ room. false≢true (c.in-Err.ensures.has_room room).0
