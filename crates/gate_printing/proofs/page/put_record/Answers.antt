use Rattle.std.proofs.Common.{◌++◌, ap}
use Rattle.std.specs.Prelude.{codes}
use Rattle.gate_lines.specs.LogPage.{stamp_of}
use Rattle.gate_model.specs.Escaping.{escaped}
use Rattle.gate_grammar.specs.Canonical.{body_text}
use Rattle.gate_streams.proofs.Outputs.{writes_on}
use Rattle.gate_printing.proofs.Steps.{put_wrote, prints_on, put_prints}
use Rattle.gate_printing.proofs.page.put_record.Goals as goal

pub returns : goal.returns
returns g c =
    let state = g.W.Sink.state in
    let stamp = stamp_of c.args.record.now in
    let text = escaped (body_text c.args.record.now.item.body) in
    let a = state c.args.output.now in
    let stamped = state c.put_stamp.new.output in
    let bodied = state c.put_body.new.output in
    let pointed = state c.put.new.self in
    let named = state c.put-2.new.self in
    let ended = state c.put-3.new.self in
    let body = writes_on a stamped bodied _ _ c.in_ok-put_stamp.ensures.ok c.in_ok-put_body.ensures.ok in
    let arrow = writes_on a bodied pointed _ _ body (put_wrote bodied pointed (codes " -> ") c.in_ok-put.ensures.bytes c.in_ok-put.ensures.tally) in
    let outcome = writes_on a pointed named _ _ arrow (put_wrote pointed named _ c.in_ok-put-2.ensures.bytes c.in_ok-put-2.ensures.tally) in
    let all = prints_on a named ended _ (codes "\n") _ c.put-3.result outcome
    (put_prints named ended (codes "\n") c.put-3.result c.put-3.ensures.bytes c.put-3.ensures.tally)
    (ap (λ name. stamp ++ text ++ codes " -> " ++ name ++ codes "\n") c.outcome_name.ensures) in
    record { ok = all.ok; err = all.err }
