use Rattle.std.proofs.Common.{◌≡◌, drop, map}
use Rattle.std.specs.List.{list_all}
use Rattle.operator_restore.specs.Escapes.{is_escaped_line}
use Rattle.operator_restore.proofs.escapes.are_escaped.Given as goal

abbrev pub invariant-loop-line : goal.invariant-loop-line
invariant-loop-line l =
    list_all is_escaped_line (map (λ line. line.now) (drop l.line-index l.lines))
    ≡ list_all is_escaped_line (map (λ line. line.now) l.lines)
