use Rattle.std.proofs.Common.{sym, ◌∙◌}
use Rattle.std.proofs.lemmas.Bool.{false≢true}
use Rattle.log_reading.proofs.BodySteps.{host_given, service_given, command_given, given}
use Rattle.log_reading.proofs.bodies.named_body.Goals as goal

pub returns-then-is_word : goal.returns-then-is_word
returns-then-is_word c =
    λ body readable is.
    let host = host_given body c.args.text.now c.args.name.now c.args.rest.now readable is c.requires.whole c.requires.clean (c.is_word.ensures.0 c.if-is_word.true) in
    given c.host_result.result _ body host.whole (c.host_result.ensures host.host host.code host.output host.plain host.small host.parts)

pub returns-then-is_word-2 : goal.returns-then-is_word-2
returns-then-is_word-2 c =
    λ body readable is.
    let service = service_given body c.args.text.now c.args.name.now c.args.rest.now readable is c.requires.whole c.requires.clean (c.is_word-2.ensures.0 c.if-is_word-2.true) in
    given c.service_result.result _ body service.whole
    (c.service_result.ensures service.host service.name service.code service.output service.plain service.named service.small service.parts)

pub returns : goal.returns
returns c =
    λ body readable is.
    let plain =
    command_given body c.args.text.now c.args.name.now c.args.rest.now readable is c.requires.whole c.requires.clean
    (λ same. false≢true (sym c.if-is_word.false ∙ c.is_word.ensures.1 same))
    (λ same. false≢true (sym c.if-is_word-2.false ∙ c.is_word-2.ensures.1 same))
    in
    c.command_body.ensures body plain.written is
