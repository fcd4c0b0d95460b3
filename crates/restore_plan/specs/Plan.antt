-- The fates of all records of a kept log, and what is sent by them: `results_of`, `others_of`, `commands_of`. The fresh
-- gateway's object table and an applier of the kept records are given, as in Fates, and the kept downtime entries with
-- their terms, as in Entries. Own rule: the order.
use Rattle.std.specs.Prelude.{ℕ, ◌+◌, nat_le, List, [], ◌∷◌, ◌++◌, take, drop, filter_map, Option, Some, None, if◌then◌else◌}
use Rattle.std.specs.List.{enumerate_from, flat_map}
use Rattle.std.specs.Option.{option_to_list}
use Rattle.gate_model.specs.declared.record.Moment.{Moment}
use Rattle.gate_model.specs.declared.object.ObjectLine.{ObjectLine}
use Rattle.gate_model.specs.declared.record.Record.{Record}
use Rattle.gate_model.specs.declared.submission.Body.{Body}
use Rattle.gate_model.specs.declared.submission.Body.TheVariants.{Result, AddComment, Acknowledge, Passive}
use Rattle.gate_applier.specs.Applier.{ApplierView}
use Rattle.restore_plan.specs.declared.entries.Renewal.{Renewal}
use Rattle.restore_plan.specs.declared.fates.Fate.{Fate}
use Rattle.restore_plan.specs.declared.fates.Fate.TheVariants.{Sent, Left}
use Rattle.restore_plan.specs.declared.plan.Plan.{Plan}
use Rattle.restore_plan.specs.Fates.{result_fate, comment_fate, acknowledgement_fate, setting_fate}
use Rattle.restore_plan.specs.Entries.{renewals_of, entry_fate}

-- the fate of the record of this index with this body, where it is a result
abbrev pub result_in : List ObjectLine → ApplierView → ℕ → Body → Option Fate
result_in fresh kept index (Result host service code output) = result_fate fresh kept index host service code output
result_in fresh kept index _ = None

-- the fate of one that is neither a result nor downtime
abbrev pub other_in : List ObjectLine → ApplierView → ℕ → Body → Option Fate
other_in fresh kept index (AddComment host service persistent author text) =
    comment_fate fresh kept index host service persistent author text
other_in fresh kept index (Acknowledge host service sticky notify persistent author text) =
    acknowledgement_fate fresh kept index host service sticky notify persistent author text
other_in fresh kept index (Passive host service on) = setting_fate fresh kept host service on
other_in fresh kept index _ = None

-- the fates of the results among records of which the first has this index, in their order
abbrev pub results_from : List ObjectLine → ApplierView → ℕ → List Record → List Fate
results_from fresh kept first records =
    flat_map
    (λ (one : ℕ × Record). option_to_list (result_in fresh kept one.0 one.1.item.body))
    (enumerate_from first records)

-- the same of all kept records
abbrev pub results_of : List ObjectLine → ApplierView → List Fate
results_of fresh kept = results_from fresh kept 0 kept.records

-- how many of these entries the record of this index and those before it scheduled
abbrev pub taken_at : ℕ → List Renewal → ℕ
taken_at index [] = 0
taken_at index (one ∷ rest) =
    if nat_le one.entry.scheduled.plan.log_index index then taken_at index rest + 1 else 0

-- the fates of the others among such records, and of the downtime entries that are left: an entry stands where its record
-- does
abbrev pub others_from : List ObjectLine → ApplierView → ℕ → List Record → List Renewal → List Fate
others_from fresh kept first [] left = filter_map (entry_fate kept) left
others_from fresh kept first (applied ∷ records) left =
    option_to_list (other_in fresh kept first applied.item.body)
    ++ filter_map (entry_fate kept) (take (taken_at first left) left)
    ++ others_from fresh kept (first + 1) records (drop (taken_at first left) left)

-- the same of all kept records, where all is applied by the moment `until`
abbrev pub others_of : List ObjectLine → ApplierView → Moment → List Fate
others_of fresh kept until = others_from fresh kept 0 kept.records (renewals_of fresh kept until)

-- the command of a fate, where it is sent
abbrev pub sent_of : Fate → Option Body
sent_of (Sent body) = Some body
sent_of (Left cause body) = None

-- all that is sent: results first, since only a problem can be acknowledged, and then the others
abbrev pub commands_of : Plan → List Body
commands_of plan = filter_map sent_of plan.results.items ++ filter_map sent_of plan.others.items
