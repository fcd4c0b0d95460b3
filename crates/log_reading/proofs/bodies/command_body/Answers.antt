use Rattle.std.proofs.Common.{◌≡◌, ◌++◌, Some, ap}
use Rattle.std.specs.Prelude.{codes}
use Rattle.gate_grammar.specs.declared.commands.Command.{Command}
use Rattle.log_reading.proofs.BodySteps.{line_spells, ran_out}
use Rattle.log_reading.proofs.bodies.command_body.Goals as goal

pub returns-in-Ok : goal.returns-in-Ok
returns-in-Ok c =
    λ body written is.
    let line : c.deref.result.now ≡ codes "[0] " ++ c.args.text.now = cc c.in_ok-line.ensures in
    ap (λ (command : Command). Some command.body)
    (c.in-Ok.ensures.only (record { entered = record { 0 = 0 }; body = body })
    (line_spells c.round_trip.ensures.written_is_read body c.deref.result.now c.args.text.now written line is))

pub returns : goal.returns
returns c =
    λ body written is.
    let line : c.deref.result.now ≡ codes "[0] " ++ c.args.text.now = cc c.in_ok-line.ensures in
    ran_out c.no_body.result _ body c.no_body.ensures
    (c.in-Err.ensures.only (record { entered = record { 0 = 0 }; body = body })
    (line_spells c.round_trip.ensures.written_is_read body c.deref.result.now c.args.text.now written line is))
