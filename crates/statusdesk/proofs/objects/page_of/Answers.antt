use Rattle.std.proofs.Common.{ℕ, List, ap, subst}
use Rattle.status_reading.specs.Rows.{page_view}
use Rattle.status_reading.specs.Text.{IsTextOf}
use Rattle.page_watching.specs.declared.watching.Contents.{Contents}
use Rattle.statusdesk.proofs.objects.page_of.Goals as goal

pub returns-in-Ok-clause-page : goal.returns-in-Ok-clause-page
returns-in-Ok-clause-page c =
    let text : Contents → List ℕ = λ contents. contents.text.bytes.items in (
      c.in-Some.kept,
      c.in-Some.is,
      subst (λ (bytes : List ℕ). IsTextOf bytes (page_view c.in-Ok.page)) (ap text c.deref.ensures) c.in-Ok.ensures,
    )
