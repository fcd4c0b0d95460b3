use Rattle.page_return.proofs.AmongSteps.{all_again}
use Rattle.page_return.proofs.comparing.find_missing.Goals as goal

pub returns-clause-none : goal.returns-clause-none
returns-clause-none c =
    all_again c.args.kept.now c.args.shown.now
    (record { objects = c.in_ok-objects.objects; comments = c.in_ok-comments.comments; downtimes = c.in_ok-downtimes.downtimes })
    (cc c.in_ok-objects.ensures) (cc c.in_ok-comments.ensures) (cc c.in_ok-downtimes.ensures)
