use Rattle.std.proofs.Common.{◌<◌, length, sym, ap, ◌∙◌, inr, arith}
use Rattle.gate_packet.specs.CheckWord.{after_bytes}
use Rattle.gate_packet.specs.Layout.{packet_version, without_check_word}
use Rattle.gate_packet.proofs.Cuts.{rest_of_few, too_few, short_begins}
use Rattle.gate_packet.proofs.BlockRefs.{version_in_front, short_found, long_found}
use Rattle.gate_packet.proofs.block_ref.split_block.Goals as goal

pub returns-in_default-clause-none : goal.returns-in_default-clause-none
returns-in_default-clause-none c =
    let few : length c.args.bytes.now < 720 = c.in_default.ensures.cases in
    rest_of_few c.args.bytes.now (omega (arith, few)) (too_few c.args.bytes.now few)

pub returns-in-None-clause-some : goal.returns-in-None-clause-some
returns-in-None-clause-some c =
    let parts = c.in-Some.ensures.cases in
    let sound = short_found c.args.bytes.now c.in-Some.short.now parts.1 parts.0 (sym c.in-None.ensures) in
    short_begins c.args.bytes.now c.in-Some.short.now c.in-Some.more.now sound parts.0 parts.1 parts.2

pub split_unread-requires : goal.split_unread-requires
split_unread-requires c is_3 =
    c.if-u16_at-ne-VERSION.true
    (c.u16_at.ensures ∙ ap (λ xs. packet_version xs) c.in-Some.ensures.cases.1 ∙ version_in_front 720 c.args.bytes.now (omega arith) ∙ is_3)

pub check_word_fault-requires-clause-version : goal.check_word_fault-requires-clause-version
check_word_fault-requires-clause-version c = sym c.u16_at.ensures ∙ c.if-u16_at-ne-VERSION.false

pub invariant_of-block : goal.invariant_of-block
invariant_of-block c = record { size = inr c.in-Some.ensures.cases.3; found = sym c.in-None.is ∙ c.check_word_fault.ensures }

pub split_long-requires-clause-version : goal.split_long-requires-clause-version
split_long-requires-clause-version c =
    sym (c.u16_at.ensures ∙ ap (λ xs. packet_version xs) c.in-Some.ensures.cases.1 ∙ version_in_front 720 c.args.bytes.now (omega arith))
    ∙ c.if-u16_at-ne-VERSION.false

pub split_long-requires-clause-word : goal.split_long-requires-clause-word
split_long-requires-clause-word c = c.word_after-word.ensures ∙ ap (λ xs. after_bytes 0xFFFFFFFF (without_check_word xs)) c.in-Some.ensures.cases.1

pub split_long-requires-clause-not_short : goal.split_long-requires-clause-not_short
split_long-requires-clause-not_short c =
    let parts = c.in-Some.ensures.cases in
    long_found c.args.bytes.now c.in-Some.short.now c.in-Some-check_word_fault.field-0 parts.1 parts.0 (sym c.check_word_fault.ensures ∙ c.in-Some-check_word_fault.is)
