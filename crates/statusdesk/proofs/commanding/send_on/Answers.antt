use Rattle.std.proofs.Common.{◌≡◌, ℕ, Bool, List, sym, subst, ◌∙◌}
use Rattle.web_connections.proofs.FieldSteps.{on_ok}
use Rattle.statusdesk.specs.Commanding.{location_after, IsTakenAnswer}
use Rattle.statusdesk.specs.Responses.{IsSentTo}
use Rattle.statusdesk.proofs.commanding.send_on.Goals as goal

pub returns-in_ok-location : goal.returns-in_ok-location
returns-in_ok-location c =
    let response = c.send_to.new.response in
    let same : c.as_slice.result.now ≡ location_after c.args.now c.args.form.now.fields =
    c.as_slice.ensures.value ∙ c.in_ok-location.ensures in
    on_ok c.send_to.result
    (λ sent. subst (λ (taken : Bool). IsTakenAnswer c.args.now c.args.form.now taken response) (sym c.if-taken.true)
    (subst (λ (location : List ℕ). IsSentTo location response) same sent))
    c.send_to.ensures
