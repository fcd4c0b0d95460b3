use Rattle.std.proofs.Common.{◌≡◌, ℕ, List, [], None, false, codes, ap, ◌∙◌}
use Rattle.form_urlencoded.specs.Form.{raw_pairs}
use Rattle.form_urlencoded.specs.Parse.{pairs_left}
use Rattle.status_merge.specs.declared.query.Choice.TheVariants.{All}
use Rattle.status_merge.specs.declared.query.Sort.TheVariants.{Worst}
use Rattle.status_merge.specs.Asking.{Asked, choice_of, mark_of, sort_of, page_of, refresh_of, is_open, asked_in}
use Rattle.status_merge.proofs.AskingSteps.{after, after-value, after-text}
use Rattle.status_merge.proofs.query.read_query.Goals as goal

pub loop-pair-init : goal.loop-pair-init
loop-pair-init c =
    let pairs : pairs_left c.parse-pairs.result ≡ raw_pairs c.args.text.now = c.parse-pairs.ensures.value ∙ ap raw_pairs c.as_bytes.ensures.value in
    let all = raw_pairs c.args.text.now in
    let query = c.new-query.ensures in
    let choice = ap (λ (asked : Asked). asked.choice) query.asked in
    let host = ap (λ (asked : Asked). asked.host) query.asked in
    let service = ap (λ (asked : Asked). asked.service) query.asked in
    let output = ap (λ (asked : Asked). asked.output) query.asked in
    let gateway = ap (λ (asked : Asked). asked.gateway) query.asked in
    let acknowledged = ap (λ (asked : Asked). asked.acknowledged) query.asked in
    let downtime = ap (λ (asked : Asked). asked.downtime) query.asked in
    record {
      choice = rw (pairs, choice) (after-value choice_of (codes "state") all All);
      host = rw pairs (after-text (codes "host") all _ host);
      service = rw pairs (after-text (codes "service") all _ service);
      output = rw pairs (after-text (codes "output") all _ output);
      gateway = rw pairs (after-text (codes "gateway") all _ gateway);
      acknowledged = rw (pairs, acknowledged) (after-value mark_of (codes "acknowledged") all None);
      downtime = rw (pairs, downtime) (after-value mark_of (codes "downtime") all None);
      sort = rw (pairs, query.sort) (after-value sort_of (codes "sort") all Worst);
      page = rw (pairs, query.page) (after-value page_of (codes "page") all 1);
      refresh = rw (pairs, query.refresh) (after-value (refresh_of c.args.refresh) (codes "refresh") all c.args.refresh);
      form = rw (pairs, query.form) (after-value is_open (codes "filters") all false);
    }
