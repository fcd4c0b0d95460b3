use Rattle.std.proofs.Common.{rules, map, ap, ◌∙◌}
use Rattle.std.proofs.lemmas.Fn.{filter_same}
use Rattle.status_merge.specs.Entries.{downtime_view, is_downtime_among}
use Rattle.status_merge.proofs.AmongSteps.{map-filter}
use Rattle.status_merge.proofs.among.retain_downtimes.Goals as goal

pub returns : goal.returns
returns c =
    ap (map downtime_view)
    (filter_same _ (λ line. is_downtime_among c.args.objects.now (downtime_view line)) _ (λ x b g h. search rules) _ _ c.retain.ensures.filtered)
    ∙ map-filter downtime_view (is_downtime_among c.args.objects.now) c.args.lines.now.items
