use Rattle.std.proofs.Common.{rules}
use Rattle.std.proofs.lemmas.Fn.{filter_same}
use Rattle.gate_comments.proofs.book.retain_others.Goals as goal

pub returns-clause-comments : goal.returns-clause-comments
returns-clause-comments c = filter_same _ _ _ (λ x b g h. search rules) _ _ c.retain.ensures.filtered
