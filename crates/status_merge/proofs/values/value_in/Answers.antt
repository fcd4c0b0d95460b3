use Rattle.form_urlencoded.specs.Form.{raw_pairs}
use Rattle.status_merge.proofs.ValueLaws.{after-value}
use Rattle.status_merge.proofs.values.value_in.Goals as goal

pub loop-name-init : goal.loop-name-init
loop-name-init c =
    rw (
      c.into_iter-name-iterator.ensures.into_iter_gives,
      c.raw_pairs-name-items.ensures.value,
      c.as_bytes.ensures.value,
      c.new-found.ensures.items,
    ) (after-value c.args.wanted.now (raw_pairs c.args.query.now))
