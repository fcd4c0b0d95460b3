use Rattle.gate_pages.proofs.board.Board.of.Goals as goal

pub returns-clause-shown : goal.returns-clause-shown
returns-clause-shown c =
    rw (
      c.moment.ensures.moment,
      c.in_ok-object_rows.ensures,
      c.in_ok-comment_rows.ensures,
      c.table.ensures,
      c.records.ensures.records,
      c.comments.ensures,
      c.in_ok-downtime_rows.ensures,
    )
