use Rattle.gate_pages.proofs.rows.object_row.Goals as goal

pub returns : goal.returns
returns c =
    let stale = rw c.requires at c.stale.ensures.stale in
    rw (
      c.in_ok-copied.ensures,
      c.bytes.ensures,
      c.in_ok-copied_service.ensures,
      c.in_ok-copied-2.ensures,
      c.output_after.ensures,
      c.records.ensures.records,
      c.state.ensures,
      c.last-last.ensures,
      stale,
      c.ack.ensures,
      c.depth.ensures,
    )
