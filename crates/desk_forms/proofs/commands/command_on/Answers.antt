use Rattle.std.proofs.Common.{List, ap, sym, subst, ◌∙◌, map, Some}
use Rattle.std.specs.List.{AllByRecursion}
use Rattle.gate_model.specs.declared.submission.Body.{Body}
use Rattle.status_reading.specs.Rows.{page_view}
use Rattle.desk_forms.specs.Offers.{IsAllowed}
use Rattle.desk_forms.proofs.OfferSteps.{only_one}
use Rattle.desk_forms.proofs.commands.command_on.Goals as goal

pub returns-in-Some-clause-command : goal.returns-in-Some-clause-command
returns-in-Some-clause-command c =
    let of = c.in_ok-bodies.ensures.commands in
    let alone = only_one c.in_ok-bodies.bodies.items _ c.in-Some.body c.in_ok-bodies.ensures.one c.in-Some.ensures.items in
    record {
      asked = of.asked;
      is_asked = of.is_asked;
      command = sym of.commands ∙ ap (λ (bodies : List Body). map Some bodies) alone;
    }

pub returns-in-Some-clause-allowed : goal.returns-in-Some-clause-allowed
returns-in-Some-clause-allowed c =
    let alone = only_one c.in_ok-bodies.bodies.items _ c.in-Some.body c.in_ok-bodies.ensures.one c.in-Some.ensures.items in
    (subst (AllByRecursion (IsAllowed (page_view c.args.page.now) c.args.form.now.user)) alone c.in_ok-bodies.ensures.allowed).0
