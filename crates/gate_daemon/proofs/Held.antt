-- Once all workers have ended, what the log holds for each of them.
use Rattle.std.proofs.Common.{◌≡◌, ℕ, suc, ◌+◌, List, [], ◌∷◌, length, Option, None, true, sym, ap, ◌∙◌, subst}
use Rattle.std.specs.Prelude.{All}
use Rattle.gate_model.specs.declared.record.Moment.{Moment}
use Rattle.gate_model.specs.declared.submission.Numbered.{Numbered}
use Rattle.gate_core.specs.Merge.{IsClient, of_client}
use Rattle.gate_queue.specs.Gate.{GateId}
use Rattle.gate_queue.specs.Client.{ClientState, client_state}
use Rattle.gate_reader.specs.declared.report.Report.{Report}
use Rattle.gate_worker.specs.declared.limits.WorkerLimits.{WorkerLimits}
use Rattle.gate_worker.specs.declared.worker.Cause.{Cause}
use Rattle.gate_worker.specs.Served.{unlimited, EndsSo, EachServed, AllServed}
use Rattle.gate_worker.specs.Collecting.{EachEnded, AllEnded}
use Rattle.gate_daemon.proofs.Merged.{AreHeld}

each_held : (limits : WorkerLimits) (shows : Moment → Type 0) (gate : GateId) (number : ℕ) (agents : List (Option (List (List ℕ)))) (clients : List ClientState) (reports : List (ℕ × List Report)) (log : List Numbered)
    → EachEnded limits shows gate number agents clients reports → AreHeld log clients → EachServed limits shows gate number agents reports log
each_held limits shows gate number [] [] [] log e held = tt
each_held limits shows gate number (s ∷ agents) (c ∷ clients) (r ∷ reports) log e held = (
  (
    e.1.0,
    record {
      ended = c;
      named = e.0 ∙ e.1.1.1;
      ends = e.1.1;
      holds = subst (λ (n : ℕ). of_client n log ≡ c.queued) e.1.1.1 held.0;
    },
  ),
  each_held limits shows gate (suc number) agents clients reports log e.2 held.1,
)
each_held limits shows gate number [] [] (r ∷ reports) log e held = absurd e
each_held limits shows gate number [] (c ∷ clients) [] log e held = absurd e
each_held limits shows gate number [] (c ∷ clients) (r ∷ reports) log e held = absurd e
each_held limits shows gate number (s ∷ agents) [] [] log e held = absurd e
each_held limits shows gate number (s ∷ agents) [] (r ∷ reports) log e held = absurd e
each_held limits shows gate number (s ∷ agents) (c ∷ clients) [] log e held = absurd e

-- all workers of a gate have ended, and the log holds what was queued for each of their clients, and nothing else
pub all_held : (limits : WorkerLimits) (shows : Moment → Type 0) (gate : GateId) (workers : ℕ) (agents : List (Option (List (List ℕ)))) (operators : Option (List (List ℕ))) (why : Cause)
    (clients : List ClientState) (reports : List (ℕ × List Report)) (log : List Numbered) → length agents ≡ workers
    → AllEnded limits shows gate agents operators (client_state gate (workers + 1) [] None) why clients reports
    → AreHeld log clients → All (λ item. IsClient (workers + 1) item.client) log → AllServed limits shows agents operators reports why log
all_held limits shows gate workers agents operators why clients reports log count all held no_others =
    let there = subst (AreHeld log) all.clients_are held in
    let same : workers + 1 ≡ length agents + 1 = ap (λ n. n + 1) (sym count) in
    record {
      gate = gate;
      first = all.reported;
      others = all.others_reported;
      reports_are = all.reports_are;
      of_operators = record {
        ended = all.first;
        named = all.named ∙ all.ends.1 ∙ same;
        ends = subst (λ (n : ℕ). EndsSo true (unlimited limits) shows operators (client_state gate n [] None) all.reported.1 all.first why) same all.ends;
        holds = subst (λ (n : ℕ). of_client n log ≡ all.first.queued) (all.ends.1 ∙ same) there.0;
      };
      of_agents = each_held limits shows gate 0 agents all.others all.others_reported log all.each there.1;
      no_others = subst (λ (n : ℕ). All (λ (item : Numbered). IsClient n item.client) log) same no_others;
    }
