use Rattle.std.proofs.Common.{◌++◌, length, codes, append_assoc, ap, ◌∙◌}
use Rattle.gate_run_log.specs.RunLog.{numbered_line}
use Rattle.gate_run_log.proofs.buffer.push_front.Goals as goal

pub returns : goal.returns
returns c =
    let out = c.args.out.now.items in
    let text = c.args.configuration.now in
    let opened = numbered_line (codes "opened ") c.from.result in
    let counted = numbered_line (codes "configuration ") (length text) in
    c.in_ok-extend_from_slice-2.ensures.items
    ∙ ap (λ l. l ++ codes "\n")
    (c.in_ok-extend_from_slice.ensures.items
    ∙ ap (λ l. l ++ text) (c.in_ok-put_numbered-2.ensures.ok.appended ∙ ap (λ l. l ++ counted) c.in_ok-put_numbered.ensures.ok.appended))
    ∙ append_assoc ((out ++ opened) ++ counted) text (codes "\n")
    ∙ append_assoc (out ++ opened) counted (text ++ codes "\n")
    ∙ append_assoc out opened (counted ++ (text ++ codes "\n"))
    ∙ ap (λ n. out ++ (numbered_line (codes "opened ") n ++ (counted ++ (text ++ codes "\n")))) c.from.ensures
