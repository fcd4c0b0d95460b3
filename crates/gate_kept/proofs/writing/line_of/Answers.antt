use Rattle.std.proofs.Common.{rules}
use Rattle.gate_kept.proofs.WriteSteps.{sound_line}
use Rattle.gate_kept.proofs.writing.line_of.Goals as goal

pub returns-clause-some : goal.returns-clause-some
returns-clause-some c = (
  c.in_ok-write_line.ensures.canonical,
  record { writable = search rules; other = c.is_shutdown.ensures.no c.if-is_shutdown.false },
  sound_line c.in_ok-write_line.field-0.items c.args.command.now c.in_ok-write_line.ensures.spells (c.is_shutdown.ensures.no c.if-is_shutdown.false),
)
