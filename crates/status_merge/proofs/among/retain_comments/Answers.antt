use Rattle.std.proofs.Common.{rules, map, ap, ◌∙◌}
use Rattle.std.proofs.lemmas.Fn.{filter_same}
use Rattle.status_merge.specs.Entries.{comment_view, is_comment_among}
use Rattle.status_merge.proofs.AmongSteps.{map-filter}
use Rattle.status_merge.proofs.among.retain_comments.Goals as goal

pub returns : goal.returns
returns c =
    ap (map comment_view)
    (filter_same _ (λ line. is_comment_among c.args.objects.now (comment_view line)) _ (λ x b g h. search rules) _ _ c.retain.ensures.filtered)
    ∙ map-filter comment_view (is_comment_among c.args.objects.now) c.args.lines.now.items
