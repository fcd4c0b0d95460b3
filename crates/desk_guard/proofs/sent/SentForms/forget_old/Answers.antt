use Rattle.std.proofs.Common.{rules}
use Rattle.std.proofs.lemmas.Fn.{filter_same}
use Rattle.desk_guard.specs.Sent.{is_recent}
use Rattle.desk_guard.proofs.sent.SentForms.forget_old.Goals as goal

pub returns : goal.returns
returns c =
    rw (← c.self.view_is)
    (filter_same _ (is_recent c.args.now) _ (λ x b g h. search rules) _ _ c.retain.ensures.filtered)
