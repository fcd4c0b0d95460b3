use Rattle.std.proofs.Common.{Some, length, sym, ap, ◌∙◌, refl, ◌<◌}
use Rattle.std.proofs.lemmas.Result.{err_from_is_err_and}
use Rattle.gate_replay.specs.ScriptLine.{value_of}
use Rattle.gate_replay.specs.inner.Parsing.{parsed_from}
use Rattle.gate_replay.proofs.ScriptSteps.{value_at, parsed_length, closed_more, closed_open, closed_fault, closed_fault_is}
use Rattle.gate_replay.proofs.script.read_setup.Goals as goal

pub returns-in_err-table-in-Some-Open-clause-first_faulty :
    goal.returns-in_err-table-in-Some-Open-clause-first_faulty
returns-in_err-table-in-Some-Open-clause-first_faulty c =
    let p = err_from_is_err_and c.from_residual-in_err-table-in-Some-Open.result c.from_residual-in_err-table-in-Some-Open.ensures.1 in
    let inside : c.loop-index.index < length (parsed_from c.args.lines.now) = rw (parsed_length c.args.lines.now) c.loop-index-test.true in
    let is = value_at c.args.lines.now c.loop-index.index _ _ c.loop-index-test.true (sym c.in-Some-Open.ensures.value ∙ ap (λ l. Some (value_of l)) c.in-Some-Open.field-0-is) in
    rw (p.1, p.2) (closed_fault_is (parsed_from c.args.lines.now) c.loop-index.index c.loop-index.objects.items _ _ c.in_err-table-in-Some-Open.field-0.0 inside is c.loop-index.invariant c.in_err-table-in-Some-Open.ensures.faulty (λ none faultless. none faultless))

pub returns-in-Some-Open-clause-setup : goal.returns-in-Some-Open-clause-setup
returns-in-Some-Open-clause-setup c =
    let inside : c.loop-index.index < length (parsed_from c.args.lines.now) = rw (parsed_length c.args.lines.now) c.loop-index-test.true in
    let is = value_at c.args.lines.now c.loop-index.index _ _ c.loop-index-test.true (sym c.in-Some-Open.ensures.value ∙ ap (λ l. Some (value_of l)) c.in-Some-Open.field-0-is) in
    closed_open (parsed_from c.args.lines.now) c.loop-index.index c.loop-index.objects.items _ _ inside is c.loop-index.invariant refl (rw c.in_ok-table-in-Some-Open.ensures.table at c.in_ok-table-in-Some-Open.ensures.faultless) c.in_ok-table-in-Some-Open.ensures.table

pub loop-index-preserved : goal.loop-index-preserved
loop-index-preserved c =
    let inside : c.loop-index.index < length (parsed_from c.args.lines.now) = rw (parsed_length c.args.lines.now) c.loop-index-test.true in
    let is = value_at c.args.lines.now c.loop-index.index _ _ c.loop-index-test.true (sym c.in-Some-Object.ensures.value ∙ ap (λ l. Some (value_of l)) c.in-Some-Object.field-0-is) in
    rw c.in_ok-push-in-Some-Object.ensures.items (closed_more (parsed_from c.args.lines.now) c.loop-index.index c.loop-index.objects.items _ _ inside is c.loop-index.invariant tt refl c.in_ok-object_line-in-Some-Object.ensures refl)

pub returns-in-Some-Clock-clause-first_faulty : goal.returns-in-Some-Clock-clause-first_faulty
returns-in-Some-Clock-clause-first_faulty c =
    let inside : c.loop-index.index < length (parsed_from c.args.lines.now) = rw (parsed_length c.args.lines.now) c.loop-index-test.true in
    let is = value_at c.args.lines.now c.loop-index.index _ _ c.loop-index-test.true (sym c.in-Some-Clock.ensures.value ∙ ap (λ l. Some (value_of l)) c.in-Some-Clock.field-0-is) in
    closed_fault (parsed_from c.args.lines.now) c.loop-index.index c.loop-index.objects.items _ inside is c.loop-index.invariant (λ none. none)

pub returns-in-Some-Packet-clause-first_faulty : goal.returns-in-Some-Packet-clause-first_faulty
returns-in-Some-Packet-clause-first_faulty c =
    let inside : c.loop-index.index < length (parsed_from c.args.lines.now) = rw (parsed_length c.args.lines.now) c.loop-index-test.true in
    let is = value_at c.args.lines.now c.loop-index.index _ _ c.loop-index-test.true (sym c.in-Some-Packet.ensures.value ∙ ap (λ l. Some (value_of l)) c.in-Some-Packet.field-0-is) in
    closed_fault (parsed_from c.args.lines.now) c.loop-index.index c.loop-index.objects.items _ inside is c.loop-index.invariant (λ none. none)

pub returns-in-Some-Line-clause-first_faulty : goal.returns-in-Some-Line-clause-first_faulty
returns-in-Some-Line-clause-first_faulty c =
    let inside : c.loop-index.index < length (parsed_from c.args.lines.now) = rw (parsed_length c.args.lines.now) c.loop-index-test.true in
    let is = value_at c.args.lines.now c.loop-index.index _ _ c.loop-index-test.true (sym c.in-Some-Line.ensures.value ∙ ap (λ l. Some (value_of l)) c.in-Some-Line.field-0-is) in
    closed_fault (parsed_from c.args.lines.now) c.loop-index.index c.loop-index.objects.items _ inside is c.loop-index.invariant (λ none. none)

pub returns-in-Some-Page-clause-first_faulty : goal.returns-in-Some-Page-clause-first_faulty
returns-in-Some-Page-clause-first_faulty c =
    let inside : c.loop-index.index < length (parsed_from c.args.lines.now) = rw (parsed_length c.args.lines.now) c.loop-index-test.true in
    let is = value_at c.args.lines.now c.loop-index.index _ _ c.loop-index-test.true (sym c.in-Some-Page.ensures.value ∙ ap (λ l. Some (value_of l)) c.in-Some-Page.field-0-is) in
    closed_fault (parsed_from c.args.lines.now) c.loop-index.index c.loop-index.objects.items _ inside is c.loop-index.invariant (λ none. none)

pub returns-in-None-clause-first_faulty : goal.returns-in-None-clause-first_faulty
returns-in-None-clause-first_faulty c =
    let inside : c.loop-index.index < length (parsed_from c.args.lines.now) = rw (parsed_length c.args.lines.now) c.loop-index-test.true in
    let is = value_at c.args.lines.now c.loop-index.index _ _ c.loop-index-test.true (sym c.in-None.ensures.value) in
    closed_fault (parsed_from c.args.lines.now) c.loop-index.index c.loop-index.objects.items _ inside is c.loop-index.invariant (λ none. none)
