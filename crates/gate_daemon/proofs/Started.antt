-- A gateway that can't be opened, and one that has run, in the words of what it was started with.
use Rattle.std.proofs.Common.{◌≡◌, ℕ, ◌+◌, List, [], length, map, Option, None, sym, ap, ◌∙◌, subst}
use Rattle.std.proofs.lemmas.List.Elements.{All-nil}
use Rattle.gate_model.specs.declared.object.ObjectLine.{ObjectLine}
use Rattle.gate_model.specs.declared.record.Moment.{Moment}
use Rattle.gate_model.specs.declared.record.Record.{Record}
use Rattle.gate_applier.specs.Applier.{ApplierView, opened}
use Rattle.gate_queue.specs.Gate.{GateId}
use Rattle.gate_queue.specs.Client.{ClientState, client_state}
use Rattle.gate_reader.specs.declared.report.Report.{Report}
use Rattle.gate_worker.specs.declared.limits.WorkerLimits.{WorkerLimits}
use Rattle.gate_worker.specs.declared.worker.Cause.{Cause}
use Rattle.gate_boards.specs.Applying.{AreShown}
use Rattle.gate_daemon.specs.Faults.{AreShownUntil}
use Rattle.gate_opening.specs.Faults.{IsGatewayFault}
use Rattle.gate_opening.specs.declared.fault.GatewayFault.{GatewayFault}
use Rattle.gate_opening.specs.declared.fault.GatewayFault.TheVariants as fault
use Rattle.gate_worker.specs.Collecting.{AllEnded}
use Rattle.gate_opening.specs.Opening.{IsUnopened}

-- ---- it can't be opened

pub unopened_fault : (workers capacity limit : ℕ) (table : List ObjectLine) (why : GatewayFault) → IsUnopened workers capacity limit why → IsGatewayFault workers capacity limit table why
unopened_fault workers capacity limit table (fault.Queue cause) is = is
unopened_fault workers capacity limit table (fault.Applier cause) is = is
unopened_fault workers capacity limit table fault.OutOfMemory is = is
unopened_fault workers capacity limit table fault.Spawn is = absurd is
unopened_fault workers capacity limit table (fault.CloseAll gate drain reports) is = absurd is

pub unopened_shown : (shows : Moment → Type 0) (workers capacity limit : ℕ) (why : GatewayFault) → IsUnopened workers capacity limit why → AreShownUntil shows why
unopened_shown shows workers capacity limit (fault.Queue cause) is = tt
unopened_shown shows workers capacity limit (fault.Applier cause) is = tt
unopened_shown shows workers capacity limit fault.OutOfMemory is = tt
unopened_shown shows workers capacity limit fault.Spawn is = tt
unopened_shown shows workers capacity limit (fault.CloseAll gate drain reports) is = absurd is

-- ---- it has run

-- an applier that was just opened is at the moment of its opening
pub opened_shown : (shows : Moment → Type 0) (table : List ObjectLine) (now : Moment) (limit : ℕ) (applier : ApplierView) → shows now → applier ≡ opened table now limit → AreShown shows applier
opened_shown shows table now limit applier shown is = subst (AreShown shows) (sym is) (record {
  opening = shown;
  records = All-nil (λ (applied : Record). shows applied.moment);
  moment = shown;
})

-- its workers ended with these clients and reports, by what was given
pub all_on : {X Y : Type 0} (endpoints given : List X) (sends : X → Option (List (List ℕ))) (one other : Y) (heard : Y → Option (List (List ℕ))) (limits : WorkerLimits) (shows : Moment → Type 0) (gate : GateId) (count workers : ℕ)
    (operator : ClientState) (why : Cause) (clients : List ClientState) (reports : List (ℕ × List Report)) → endpoints ≡ given → one ≡ other → operator ≡ client_state gate (count + 1) [] None
    → length endpoints ≡ count → length given ≡ workers → AllEnded limits shows gate (map sends endpoints) (heard one) operator why clients reports
    → AllEnded limits shows gate (map sends given) (heard other) (client_state gate (workers + 1) [] None) why clients reports
all_on {X} {Y} endpoints given sends one other heard limits shows gate count workers operator why clients reports same alike begun each long all =
    let number : count ≡ workers = sym each ∙ ap (λ (l : List X). length l) same ∙ long in
    subst (λ (c : ClientState). AllEnded limits shows gate (map sends given) (heard other) c why clients reports) (begun ∙ ap (λ (n : ℕ). client_state gate (n + 1) [] None) number)
    (subst (λ (y : Y). AllEnded limits shows gate (map sends given) (heard y) operator why clients reports) alike
    (subst (λ (l : List X). AllEnded limits shows gate (map sends l) (heard one) operator why clients reports) same all))
