use Rattle.std.proofs.Common.{◌≡◌, ◌≤◌, ap, ◌∙◌, arith}
use Rattle.gate_applier.specs.declared.books.Books.{Books}
use Rattle.gate_downtime.specs.Book.{DowntimeView}
use Rattle.gate_applier.proofs.RoomSteps.{on-err}
use Rattle.gate_applier.proofs.CountSteps.{short-room, enough-room}
use Rattle.gate_applier.proofs.books.Books.make_room.Goals.{then-room-self+in_ok-reserve, else-room-self}
use Rattle.gate_applier.proofs.books.Books.make_room.Goals as goal

pub returns-in_err-reserve-2-clause-kept : goal.returns-in_err-reserve-2-clause-kept
returns-in_err-reserve-2-clause-kept c =
    let was = c.args.self.now in
    let mid = c.if-room-self.self in
    let new : Books = record { objects = mid.objects; downtime = c.reserve-then-room-self-2.new.self; comments = mid.comments; per_record = mid.per_record } in
    let downtime : mid.downtime ≡ was.downtime = elim c.if-room-self.branch [
      | then-room-self+in_ok-reserve w ↦ ap (λ (books : Books). books.downtime) w.self-is
      | else-room-self w ↦ ap (λ (books : Books). books.downtime) w.self-is
    ] in
    let per_record : mid.per_record ≡ was.per_record = elim c.if-room-self.branch [
      | then-room-self+in_ok-reserve w ↦ ap (λ (books : Books). books.per_record) w.self-is
      | else-room-self w ↦ ap (λ (books : Books). books.per_record) w.self-is
    ] in
    on-err c.from_residual-in_err-reserve-2.result
    (short-room was new per_record (c.in_err-reserve-2.ensures.err ∙ downtime)
    (omega (arith, c.if-room-self-2.true, c.room-2.ensures, ap (λ (view : DowntimeView). view.room) downtime, per_record)))

pub returns-else-room-self-2-clause-room : goal.returns-else-room-self-2-clause-room
returns-else-room-self-2-clause-room c =
    let was = c.args.self.now in
    let mid = c.if-room-self.self in
    let some : 1 ≤ mid.per_record = elim c.if-room-self.branch [
      | then-room-self+in_ok-reserve w ↦ omega (arith, c.requires.one, ap (λ (books : Books). books.per_record) w.self-is)
      | else-room-self w ↦ omega (arith, c.requires.one, ap (λ (books : Books). books.per_record) w.self-is)
    ] in
    let comments : mid.per_record ≤ mid.comments.room = elim c.if-room-self.branch [
      | then-room-self+in_ok-reserve w ↦
          omega (arith, w.in_ok-reserve.ensures.room, ap (λ (books : Books). books.per_record) w.self-is, ap (λ (books : Books). books.comments.room) w.self-is)
      | else-room-self w ↦
          omega (arith, w.if-room-self.false, c.room.ensures, ap (λ (books : Books). books.per_record) w.self-is, ap (λ (books : Books). books.comments.room) w.self-is)
    ] in
    enough-room mid some comments (omega (arith, c.if-room-self-2.false, c.room-2.ensures))
