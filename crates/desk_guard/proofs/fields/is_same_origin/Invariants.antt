use Rattle.std.proofs.Common.{◌≡◌, map, codes, length}
use Rattle.http_header.specs.FieldValue.{FieldValue}
use Rattle.desk_guard.specs.Fields.{values_of, is_same_origin}
use Rattle.desk_guard.proofs.fields.is_same_origin.Given as goal

abbrev pub invariant-loop-site : goal.invariant-loop-site
invariant-loop-site l =
    is_same_origin (map (λ (value : FieldValue). value.bytes) l.sites)
    ≡ is_same_origin (values_of (codes "sec-fetch-site") l.request)

abbrev pub decreases-loop-site : goal.decreases-loop-site
decreases-loop-site l = length l.sites
