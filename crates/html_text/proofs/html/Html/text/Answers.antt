use Rattle.html_text.proofs.EscapingLaws.{free}
use Rattle.html_text.proofs.html.Html.text.Goals as goal

pub returns-clause-free : goal.returns-clause-free
returns-clause-free c = free c.args.text.now
