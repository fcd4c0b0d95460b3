use Rattle.std.proofs.Common.{rules}
use Rattle.std.proofs.lemmas.Fn.{filter_same}
use Rattle.gate_comments.proofs.book.retain_live.Goals as goal

pub returns-clause-comments : goal.returns-clause-comments
returns-clause-comments g c = λ live tells. filter_same _ _ _ (λ x b h k. search (rules, tells)) _ _ c.retain.ensures.filtered
