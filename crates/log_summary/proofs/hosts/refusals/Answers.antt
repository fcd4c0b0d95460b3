use Rattle.std.proofs.Common.{◌≡◌, ◌+◌, ◌++◌, drop, get_or, ap, sym, ◌∙◌, append_assoc}
use Rattle.std.specs.List.{flat_map}
use Rattle.std.proofs.lemmas.List.{map-append, at_drop_more}
use Rattle.gate_model.specs.declared.record.Outcome.{Outcome}
use Rattle.gate_model.specs.declared.record.Outcome.TheVariants.{Accepted}
use Rattle.log_summary.specs.Summary.{with_outcome, by_host, reasons}
use Rattle.log_summary.specs.inner.Groups.{values_in, groups_in}
use Rattle.log_summary.proofs.hosts.refusals.Goals as goal

pub loop-reason-preserved : goal.loop-reason-preserved
loop-reason-preserved c =
    let log = c.args.log.now in
    let index = c.loop-reason.reason-index in
    let old = c.loop-reason.groups.items in
    let more = c.in_ok-more.more.items in
    let of = λ (reason : Outcome). by_host (with_outcome log reason) in
    let rest = flat_map of (drop (index + 1) reasons) in
    let same : groups_in more ≡ of (get_or reasons index Accepted) =
    c.in_ok-more.ensures ∙ ap (λ refs. by_host (values_in refs)) c.deref.ensures.value ∙ ap by_host c.in_ok-found.ensures in
    ap (λ items. groups_in items ++ rest) c.in_ok-append.ensures.items
    ∙ ap (λ front. front ++ rest) (map-append (λ group. values_in group.items) old more)
    ∙ append_assoc (groups_in old) (groups_in more) rest
    ∙ ap (λ back. groups_in old ++ back) (ap (λ one. one ++ rest) same ∙ sym (at_drop_more (flat_map of) reasons index Accepted c.loop-reason-test.true))
    ∙ c.loop-reason.invariant
