use Rattle.std.proofs.Common.{◌^◌, sym, ap, ◌∙◌, arith}
use Rattle.std.specs.Fmt.{decimal}
use Rattle.std.proofs.lemmas.Bool.{false≢true}
use Rattle.gate_grammar.specs.Numbers.{number_of}
use Rattle.gate_grammar.proofs.Numerals.{number_decimal}
use Rattle.status_reading.proofs.ReadSteps.{same_some, not_none}
use Rattle.log_reading.proofs.cuts.number.Goals as goal

pub returns-else-shows : goal.returns-else-shows
returns-else-shows c =
    λ x fits same.
    let number = same_some c.in-Some.number x (c.in-Some.ensures ∙ ap number_of same ∙ number_decimal (2 ^ 32) x (omega arith) fits) in
    false≢true (sym c.if-shows.false ∙ c.shows.ensures.1 (same ∙ ap decimal (sym number)))

pub returns-in-None : goal.returns-in-None
returns-in-None c = λ x fits same. not_none x (c.in-None.ensures ∙ ap number_of same ∙ number_decimal (2 ^ 32) x (omega arith) fits)
