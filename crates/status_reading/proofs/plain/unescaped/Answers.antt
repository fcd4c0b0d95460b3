use Rattle.std.proofs.Common.{◌≡◌, ◌==◌, ◌∷◌, false, ap, ◌∙◌, arith}
use Rattle.status_reading.specs.Plain.{plain_bytes}
use Rattle.std.proofs.lemmas.Grind.{common_steps}
use Rattle.status_reading.proofs.PlainLaws.{last_kept, double, lone}
use Rattle.status_reading.proofs.plain.unescaped.Goals as goal

pub returns-in_default-clause-byte : goal.returns-in_default-clause-byte
returns-in_default-clause-byte c = last_kept c.args.text.now c.in_default.ensures.cases

pub returns-in-92-clause-byte : goal.returns-in-92-clause-byte
returns-in-92-clause-byte c =
    let same : c.in-Some.mark.now ≡ 92 = c.in-92.is in
    rw c.in-Some.ensures.cases.0
    (ap (λ byte. plain_bytes (92 ∷ byte ∷ c.in-Some.rest.now)) same ∙ double c.in-Some.rest.now)

pub returns-in_default-mark-clause-byte : goal.returns-in_default-mark-clause-byte
returns-in_default-mark-clause-byte c =
    let first : (c.in-Some.mark.now == 92) ≡ false = grind (arith, common_steps, c.in_default-mark) in
    let second : (c.in-Some.mark.now == 120) ≡ false = grind (arith, common_steps, c.in_default-mark) in
    rw c.in-Some.ensures.cases.0 (lone c.in-Some.mark.now c.in-Some.rest.now first second)
