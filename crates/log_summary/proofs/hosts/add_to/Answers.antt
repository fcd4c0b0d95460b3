use Rattle.std.proofs.Common.{◌≡◌, ◌++◌, ◌∷◌, [], set, get_or, ap, sym, ◌∙◌}
use Rattle.std.proofs.lemmas.List.{map-set, map-append, get_or-map}
use Rattle.log_summary.specs.inner.Groups.{values_in, groups_in}
use Rattle.log_summary.proofs.hosts.add_to.Goals as goal

pub returns : goal.returns
returns c =
    let groups = c.args.groups.now in
    let old = get_or groups c.args.index c.index-groups-index.result in
    let known : get_or (groups_in groups) c.args.index [] ≡ values_in old.items =
    get_or-map (λ group. values_in group.items) groups c.args.index c.index-groups-index.result [] c.requires in
    let grown : values_in c.push.new.self.items ≡ get_or (groups_in groups) c.args.index [] ++ c.args.one.now ∷ [] =
    ap values_in c.in_ok-push.ensures.items ∙ map-append (λ one. one.now) old.items (c.args.one ∷ [])
    ∙ ap (λ values. values ++ c.args.one.now ∷ []) (sym known) in
    map-set (λ group. values_in group.items) groups c.args.index c.push.new.self ∙ ap (set (groups_in groups) c.args.index) grown
