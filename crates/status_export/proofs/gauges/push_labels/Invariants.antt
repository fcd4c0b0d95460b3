use Rattle.std.proofs.Common.{◌≡◌, ◌++◌, drop, codes}
use Rattle.std.specs.List.{flat_map}
use Rattle.status_export.specs.Gauges.{label_text, labels_text}
use Rattle.status_export.specs.inner.Labels.{labels_of}
use Rattle.status_export.proofs.gauges.push_labels.Given as goal

abbrev pub invariant-loop-label : goal.invariant-loop-label
invariant-loop-label l =
    l.out.items ++ flat_map (λ label. codes "," ++ label_text label) (labels_of (drop l.label-index l.rest)) ++ codes "}"
    ≡ l.fn.out.items ++ labels_text (labels_of l.labels)
