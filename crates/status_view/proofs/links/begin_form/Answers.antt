use Rattle.std.proofs.Common.{arith, refl}
use Rattle.std.proofs.lemmas.List.Elements.{All-from_get_or}
use Rattle.percent_encoding.proofs.PercentLemmas.{IsByte}
use Rattle.form_urlencoded.specs.Form.{byte_serialize}
use Rattle.status_view.proofs.links.begin_form.Goals as goal

pub returns-clause-form : goal.returns-clause-form
unfolding byte_serialize
returns-clause-form c = rw (c.new.ensures, c.in_ok-push_value.ensures, c.in_ok-text.ensures.ok) refl

pub returns-clause-bytes : goal.returns-clause-bytes
returns-clause-bytes c = All-from_get_or IsByte c.args.host.now 0 (λ i within. omega (arith, c.type_inv.host i))
