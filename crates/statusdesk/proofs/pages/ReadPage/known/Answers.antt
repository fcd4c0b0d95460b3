use Rattle.std.proofs.Common.{◌≡◌, subst}
use Rattle.status_reading.specs.Rows.{page_view}
use Rattle.page_watching.specs.declared.watching.Seen.{Seen}
use Rattle.statusdesk.specs.Kept.{IsKeptOf, IsNotKept}
use Rattle.statusdesk.proofs.pages.ReadPage.known.Goals as goal

pub returns-in-Some : goal.returns-in-Some
returns-in-Some c =
    let same : c.self.inside.seen.now ≡ c.args.self.now = cc in
    subst (λ (seen : Seen). IsKeptOf seen (page_view c.in-Some.known.page)) same (rw c.in-Some.is at c.self.invariant)

pub returns-in-None : goal.returns-in-None
returns-in-None c =
    let same : c.self.inside.seen.now ≡ c.args.self.now = cc in
    subst IsNotKept same (rw c.in-None.is at c.self.invariant)
