use Rattle.std.proofs.Common.{◌∙◌, [], ◌∷◌, ◌++◌, sym, subst, ap}
use Rattle.std.specs.Io.KnownBytes.{Consumes}
use Rattle.gate_streams.proofs.Calls.{consumes_append}
use Rattle.operator_lines.proofs.AskingSteps.{read_no_more}
use Rattle.operator_lines.proofs.asking.read_answer.Goals as goal

pub returns-in-Err-clause-none : goal.returns-in-Err-clause-none
returns-in-Err-clause-none g c =
    let left = g.R.Read.remaining in
    let line = c.loop.line.items in (
      line,
      c.in-Err.ensures.none.1,
      c.in-Err.ensures.none.2 line c.loop.invariant.clean,
      read_no_more (left c.args.reader.now) (left c.loop.reader) (left c.read_byte.new.reader) line c.loop.invariant.read
          c.in-Err.ensures.none.0,
    )

pub returns-in-None-clause-none : goal.returns-in-None-clause-none
returns-in-None-clause-none g c =
    let left = g.R.Read.remaining in
    let line = c.loop.line.items in
    let whole = c.as_slice.ensures.value ∙ c.push.ensures.items in
    let read =
    consumes_append (left c.args.reader.now) (left c.loop.reader) (left c.read_byte.new.reader) c.loop.line.items (c.in-Ok.byte ∷ [])
    c.loop.invariant.read c.in-Ok.ensures.byte in (
      c.as_slice.result.now,
      tt,
      (line, whole ∙ ap (λ byte. line ++ byte ∷ []) c.if-byte-eq10.true, c.loop.invariant.clean, c.in-None.ensures.none),
      subst (Consumes (left c.args.reader.now) (left c.read_byte.new.reader)) (sym whole) read,
    )
