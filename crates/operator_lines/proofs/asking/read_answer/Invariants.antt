use Rattle.std.proofs.Common.{◌≡◌, length}
use Rattle.std.specs.Io.KnownBytes.{Consumes}
use Rattle.gate_reader.specs.Lines.{HasNoBreak}
use Rattle.operator_lines.proofs.asking.read_answer.Given as goal

abbrev pub invariant-loop : goal.invariant-loop
invariant-loop g l = record {
  count : length l.line.items ≡ l.counter;
  clean : HasNoBreak l.line.items;
  read : Consumes (g.R.Read.remaining l.fn.reader) (g.R.Read.remaining l.reader) l.line.items;
}
