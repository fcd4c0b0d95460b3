use Rattle.std.proofs.Common.{map, sym, ap, ◌∙◌}
use Rattle.std.proofs.lemmas.List.{take_rest, drop-map}
use Rattle.operator_restore.proofs.naming.lines_from.Goals as goal

pub returns-then-first-lines : goal.returns-then-first-lines
returns-then-first-lines c =
    ap (map (λ line. line.now)) (take_rest c.args.lines.now c.args.first)
    ∙ sym (drop-map (λ line. line.now) c.args.first c.args.lines.now)
