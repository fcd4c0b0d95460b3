use Rattle.std.proofs.Common.{◌∙◌, ◌++◌, ◌∷◌, [], ap, append_assoc, refl}
use Rattle.operator_ports.specs.declared.next.Next.TheVariants.{Page}
use Rattle.operator_ports.specs.Steps.{Read}
use Rattle.operator_sending.proofs.requests.carry_out_request.Goals as goal

pub returns-clause-carried_out : goal.returns-clause-carried_out
returns-clause-carried_out g c =
    let done = g.G.Gateway.done in
    let found = rw (c.in_ok-request.ensures, c.as_slice.ensures.value) at c.in_ok-status.ensures.carried_out in (
      Read (Page c.in-Ok.text) ∷ found.0,
      found.1 ∙ ap (λ steps. steps ++ found.0) c.in-Ok.ensures ∙ append_assoc (done c.args.gateway.now) (Read (Page c.in-Ok.text) ∷ []) found.0,
      record {
        first = Page c.in-Ok.text;
        text = c.in-Ok.text.items;
        is_text = refl;
        rest = found.0;
        done = refl;
        carried_out = found.2;
      },
    )
