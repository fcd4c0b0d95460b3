use Rattle.std.proofs.Common.{◌≡◌, ◌-◌, length, refl, ap, ◌∙◌, arith}
use Rattle.std.proofs.lemmas.List.{length-drop, length-take-le}
use Rattle.std.proofs.lemmas.Result.{IfOk-weaker}
use Rattle.gate_ports.proofs.Lines.{first_added, begun_kept}
use Rattle.gate_ports.proofs.held.Held.add_first.Goals as goal

pub returns-then-whole-gt0-clause-kept : goal.returns-then-whole-gt0-clause-kept
returns-then-whole-gt0-clause-kept c =
    let old = c.args.self.now in
    let new = c.add_whole.new.self in
    let more = c.in_ok-add_whole.ensures in
    let begun = length-drop old.whole old.bytes.items in
    let least = c.min.ensures in
    let held = c.len.ensures in
    let kept = (old.line c.requires.role).1 in
    let some = c.if-whole-gt0.true in
    (first_added old.whole new.whole old.bytes.items new.bytes.items c.args.bytes.now c.front-first.result.now c.front.result.now c.after.result.now c.min.result c.whole_lines-whole.result
    c.front-first.ensures (omega (arith, least)) (omega (arith, least, held, begun, kept)) (omega (arith, some)) c.whole_lines-whole.ensures.bound c.whole_lines-whole.ensures.lines
    c.front.ensures c.after.ensures more.bytes more.whole).0

pub returns-then-whole-gt0-clause-ends : goal.returns-then-whole-gt0-clause-ends
returns-then-whole-gt0-clause-ends c =
    let old = c.args.self.now in
    let new = c.add_whole.new.self in
    let more = c.in_ok-add_whole.ensures in
    let begun = length-drop old.whole old.bytes.items in
    let least = c.min.ensures in
    let held = c.len.ensures in
    let kept = (old.line c.requires.role).1 in
    let some = c.if-whole-gt0.true in
    (first_added old.whole new.whole old.bytes.items new.bytes.items c.args.bytes.now c.front-first.result.now c.front.result.now c.after.result.now c.min.result c.whole_lines-whole.result
    c.front-first.ensures (omega (arith, least)) (omega (arith, least, held, begun, kept)) (omega (arith, some)) c.whole_lines-whole.ensures.bound c.whole_lines-whole.ensures.lines
    c.front.ensures c.after.ensures more.bytes more.whole).1

pub add_begun-requires-clause-room : goal.add_begun-requires-clause-room
add_begun-requires-clause-room c =
    let old = c.args.self.now in
    let begun = length-drop old.whole old.bytes.items in
    let least = c.min.ensures in
    let held = c.len.ensures in
    let kept = (old.line c.requires.role).1 in
    let long : length c.front-first.result.now ≡ c.min.result =
    ap length c.front-first.ensures ∙ length-take-le c.min.result c.args.bytes.now (omega (arith, least)) in
    omega (arith, long, least, held, begun, kept)

pub returns-clause-shorter : goal.returns-clause-shorter
returns-clause-shorter c =
    let some = c.requires.some in
    let left : length c.after-2.result.now ≡ length c.args.bytes.now - length c.front-first.result.now = ap length c.after-2.ensures ∙ length-drop _ c.args.bytes.now in
    IfOk-weaker c.end_line.result _ _ (λ rest less. omega (arith, less, left, some)) c.end_line.ensures.shorter

pub returns-clause-kept : goal.returns-clause-kept
returns-clause-kept c =
    let old = c.args.self.now in
    let mid = c.add_begun.new.self in
    let more = c.in_ok-add_begun.ensures in
    let least = c.min.ensures in
    let is = begun_kept old.whole mid.whole old.bytes.items mid.bytes.items c.args.bytes.now c.front-first.result.now c.after-2.result.now c.min.result _
    old.ends c.front-first.ensures (omega (arith, least)) c.after-2.ensures refl more.bytes c.add_begun.ensures.whole in
    IfOk-weaker c.end_line.result _ _ (λ rest same. same ∙ is) c.end_line.ensures.kept
