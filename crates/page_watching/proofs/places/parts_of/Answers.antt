use Rattle.std.proofs.Common.{Some, None, ◌∙◌, arith}
use Rattle.std.proofs.lemmas.Str.Pattern.{split_once_first}
use Rattle.page_watching.proofs.PlaceSteps.{cut_at, uncut}
use Rattle.page_watching.proofs.places.parts_of.Goals as goal

pub returns-in-Some : goal.returns-in-Some
returns-in-Some c =
    let found = Some (c.in-Some.name, c.in-Some.address) in
    let cut = split_once_first 61 c.args.value.now found c.in-Some.ensures.cases (omega arith) in
    let parts = cut_at c.args.value.now cut.0 in
    record { name = cut.1 ∙ parts.0; address = cut.2 ∙ parts.1 }

pub returns-in-None : goal.returns-in-None
returns-in-None c =
    let lacks = split_once_first 61 c.args.value.now None c.in-None.ensures.cases (omega arith) in
    let parts = uncut c.args.value.now lacks in
    record { name = parts.0; address = parts.1 }
