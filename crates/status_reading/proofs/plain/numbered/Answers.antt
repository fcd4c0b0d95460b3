use Rattle.std.proofs.Common.{arith}
use Rattle.status_reading.proofs.PlainLaws.{no_digit, one_digit, bad_high, bad_low, numbered}
use Rattle.status_reading.proofs.plain.numbered.Goals as goal

pub returns-in_err-high : goal.returns-in_err-high
returns-in_err-high c = record { byte = rw c.from_residual.ensures (no_digit c.args.text.now c.in_err-high.ensures.cases) }

pub returns-in_err-low : goal.returns-in_err-low
returns-in_err-low c = record {
  byte =
      rw (c.from_residual-in_err-low.ensures, c.in_ok-high.ensures.cases.0)
      (one_digit c.in_ok-high.high.now c.in_ok-high.rest.now c.in_err-low.ensures.cases);
}

pub returns-in_err-hex_value : goal.returns-in_err-hex_value
returns-in_err-hex_value c = record {
  byte =
      rw (c.from_residual-in_err-hex_value.ensures, c.in_ok-high.ensures.cases.0, c.in_ok-low.ensures.cases.0)
      (bad_high c.in_ok-high.high.now c.in_ok-low.low.now c.in_ok-low.after.now c.in_err-hex_value.ensures);
}

pub returns-in_err-hex_value-2 : goal.returns-in_err-hex_value-2
returns-in_err-hex_value-2 c = record {
  byte =
      rw (c.from_residual-in_err-hex_value-2.ensures, c.in_ok-high.ensures.cases.0, c.in_ok-low.ensures.cases.0)
      (bad_low c.in_ok-high.high.now c.in_ok-low.low.now c.in_ok-low.after.now c.in_ok-hex_value.ensures.0 c.in_err-hex_value-2.ensures);
}

pub returns : goal.returns
returns c = record {
  byte = (
    rw (
      c.in_ok-hex_value.ensures.1,
      c.in_ok-hex_value-2.ensures.1,
      c.in_ok-high.ensures.cases.0,
      c.in_ok-low.ensures.cases.0,
    ) (numbered c.in_ok-high.high.now c.in_ok-low.low.now c.in_ok-low.after.now c.in_ok-hex_value.ensures.0 c.in_ok-hex_value-2.ensures.0),
    omega (arith, c.in_ok-high.ensures.cases.1, c.in_ok-low.ensures.cases.1),
  );
}
