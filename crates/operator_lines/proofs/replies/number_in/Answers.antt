use Rattle.std.proofs.Common.{◌∙◌, sym, subst, IsUtf8}
use Rattle.operator_lines.proofs.DigitSteps.{digits_at, none_found, parsed, utf8_digits}
use Rattle.operator_lines.proofs.replies.number_in.Goals as goal

pub returns-in_default : goal.returns-in_default
returns-in_default c = λ text number clean small is. none_found c.args.line.now text number clean small is c.in_default.ensures.offset

pub returns-in-Ok : goal.returns-in-Ok
returns-in-Ok c = λ text number clean small is.
    let digits = digits_at c.args.line.now text number c.in-Some.start clean small is c.in-Some.ensures.offset in
    parsed c.in-Ok.digits.now number c.parse.result c.unwrap_or.result small (c.in-Ok.ensures.cases.0 ∙ digits) c.parse.ensures.value.0
    c.unwrap_or.ensures

pub returns-in-Err : goal.returns-in-Err
returns-in-Err c = λ text number clean small is.
    let digits = digits_at c.args.line.now text number c.in-Some.start clean small is c.in-Some.ensures.offset in
    absurd (c.in-Err.ensures.cases.0 (subst IsUtf8 (sym digits) (utf8_digits number small)))
