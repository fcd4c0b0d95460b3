use Rattle.std.proofs.Common.{◌∙◌, ap, map}
use Rattle.status_memory.specs.inner.Known.{known_view, changes_if}
use Rattle.status_memory.proofs.HistorySteps.{known_by, changes_by, shared_by}
use Rattle.status_memory.proofs.history.take_in.Goals as goal

pub returns : goal.returns
returns c =
    let known = map known_view c.args.known.now in
    let found = c.in_ok-found.found in
    record {
      known = c.in_ok-all_known.ensures ∙ known_by c.args.has_page found known c.args.moment c.args.rows.now c.in_ok-found.ensures;
      changes = c.in_ok-changes_after.ensures
          ∙ ap (changes_if c.args.has_page) (changes_by found known c.args.moment c.args.rows.now c.in_ok-found.ensures);
      shared = c.shared_in.ensures ∙ shared_by found known c.args.rows.now c.in_ok-found.ensures;
    }
