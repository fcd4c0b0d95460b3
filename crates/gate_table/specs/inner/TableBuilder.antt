-- Only proofs and private functions use these definitions: what a builder keeps of the lines that
-- were added, so that it finds what is wrong with the next.
use Rattle.std.specs.Prelude.{◌≡◌, ℕ, ◌+◌, List, take, count_by, Some, None, Result, Ok, Err}
use Rattle.gate_model.specs.declared.object.ObjectLine.{ObjectLine}
use Rattle.gate_table.specs.declared.table.TableFault.{TableFault}
use Rattle.gate_table.specs.declared.table.TableFault.TheVariants.{OutOfMemory}
use Rattle.gate_table.specs.declared.table_builder.TableBuilder.{TableBuilder}
use Rattle.gate_model.specs.Table.{is_host_line}
use Rattle.gate_table.specs.Faults.{fault_at}
use Rattle.gate_table.specs.inner.NamedObjects.{AreObjects}

-- the builder keeps the objects of these lines, and the number of hosts
pub record TracksLines (lines : List ObjectLine) (builder : TableBuilder) : Type 0 where
  pub are_objects : AreObjects lines builder.objects
  pub hosts_are : builder.hosts ≡ count_by is_host_line lines

-- the line at index i isn't faulty, and the builder tracks it with those before it
pub record AddsLine (lines : List ObjectLine) (i : ℕ) (builder : TableBuilder) : Type 0 where
  pub faultless : fault_at lines i ≡ None
  pub tracks : TracksLines (take (i + 1) lines) builder

-- the line at index i was added, or its fault is returned, or memory ran out for a line that is not faulty
abbrev pub AddsOrRefuses : List ObjectLine → ℕ → Result (Unit {0}) TableFault → TableBuilder → Type 0
AddsOrRefuses lines i (Ok done) builder = AddsLine lines i builder
AddsOrRefuses lines i (Err OutOfMemory) builder = fault_at lines i ≡ None
AddsOrRefuses lines i (Err fault) builder = fault_at lines i ≡ Some fault
