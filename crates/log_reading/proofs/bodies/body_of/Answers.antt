use Rattle.log_reading.proofs.BodySteps.{plain_uncut}
use Rattle.log_reading.proofs.bodies.body_of.Goals as goal

pub returns-in-None : goal.returns-in-None
returns-in-None c =
    λ body readable is.
    let plain = plain_uncut body c.args.text.now readable is c.in-None.ensures in
    c.command_body.ensures body plain.written is
