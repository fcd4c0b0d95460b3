use Rattle.std.proofs.Common.{not, ap, ◌∙◌}
use Rattle.log_summary.specs.inner.Groups.{hosts_in}
use Rattle.log_summary.proofs.HostSteps.{any_read, place_read, added_read}
use Rattle.log_summary.proofs.hosts.add_host.Goals as goal

pub returns-clause-hosts : goal.returns-clause-hosts
returns-clause-hosts c = ap hosts_in c.in_ok-insert_full.ensures.keys ∙ added_read c.args.host c.args.hosts.now.keys

pub returns-clause-index : goal.returns-clause-index
returns-clause-index c = c.in_ok-insert_full.ensures.index ∙ place_read c.args.host c.args.hosts.now.keys

pub returns-clause-new : goal.returns-clause-new
returns-clause-new c = c.in_ok-insert_full.ensures.added ∙ ap not (any_read c.args.host c.args.hosts.now.keys)
