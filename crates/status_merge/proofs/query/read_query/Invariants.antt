use Rattle.std.proofs.Common.{◌≡◌, codes, length, string_bytes}
use Rattle.form_urlencoded.specs.Form.{raw_pairs}
use Rattle.form_urlencoded.specs.Parse.{pairs_left}
use Rattle.status_merge.specs.Asking.{choice_of, mark_of, sort_of, page_of, refresh_of, is_open, asked_in, sort_asked, page_asked, refresh_asked, form_asked}
use Rattle.status_merge.proofs.AskingSteps.{after}
use Rattle.status_merge.proofs.query.read_query.Given as goal

abbrev pub invariant-loop-pair : goal.invariant-loop-pair
invariant-loop-pair l =
    let asked = asked_in (raw_pairs l.text) in record {
      choice : after choice_of (codes "state") l.query.choice (pairs_left l.pairs) ≡ asked.choice;
      host : after (λ text. text) (codes "host") (string_bytes l.query.host) (pairs_left l.pairs) ≡ asked.host;
      service : after (λ text. text) (codes "service") (string_bytes l.query.service) (pairs_left l.pairs) ≡ asked.service;
      output : after (λ text. text) (codes "output") (string_bytes l.query.output) (pairs_left l.pairs) ≡ asked.output;
      gateway : after (λ text. text) (codes "gateway") (string_bytes l.query.gateway) (pairs_left l.pairs) ≡ asked.gateway;
      acknowledged : after mark_of (codes "acknowledged") l.query.acknowledged (pairs_left l.pairs) ≡ asked.acknowledged;
      downtime : after mark_of (codes "downtime") l.query.downtime (pairs_left l.pairs) ≡ asked.downtime;
      sort : after sort_of (codes "sort") l.query.sort (pairs_left l.pairs) ≡ sort_asked (raw_pairs l.text);
      page : after page_of (codes "page") l.query.page (pairs_left l.pairs) ≡ page_asked (raw_pairs l.text);
      refresh : after (refresh_of l.refresh) (codes "refresh") l.query.refresh (pairs_left l.pairs) ≡ refresh_asked l.refresh (raw_pairs l.text);
      form : after is_open (codes "filters") l.query.form (pairs_left l.pairs) ≡ form_asked (raw_pairs l.text);
    }

abbrev pub decreases-loop-pair : goal.decreases-loop-pair
decreases-loop-pair l = length (pairs_left l.pairs)
