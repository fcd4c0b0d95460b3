-- Of downtime commands, that a fresh gateway gives the ids that their triggers name: `AreSchedulable`.
use Rattle.std.specs.Prelude.{◌≡◌, ℕ, ◌+◌, ◌≤◌, false, List, [], ◌∷◌, Option, Some, None}
use Rattle.gate_model.specs.declared.record.Moment.{Moment}
use Rattle.gate_model.specs.declared.submission.Body.{Body}
use Rattle.gate_model.specs.declared.submission.Body.TheVariants.{Schedule}
use Rattle.restore_plan.specs.declared.entries.Terms.{Terms}
use Rattle.restore_plan.specs.declared.fates.Fate.{Fate}
use Rattle.restore_plan.specs.declared.fates.Fate.TheVariants.{Sent, Left}
use Rattle.restore_plan.specs.Entries.{is_over}

-- the terms of a command that schedules downtime for one object
abbrev pub terms_in : Body → Option Terms
terms_in (Schedule host service starts ends fixed trigger lasts author text) =
    Some (record { starts = starts; ends = ends; fixed = fixed; trigger = trigger; lasts = lasts })
terms_in _ = None

-- those of one that is sent
abbrev pub sent_terms : Fate → Option Terms
sent_terms (Sent body) = terms_in body
sent_terms (Left cause body) = None

-- after so many entries: each window isn't empty, nor over by this moment, no entry is over as soon as it begins, and each trigger is 0 or the number of an entry
-- before it, which is its id on a gateway that accepts all of them
abbrev pub AreSchedulable : Moment → ℕ → List Terms → Type 0
AreSchedulable until before [] = Unit {0}
AreSchedulable until before (terms ∷ rest) =
    (is_over until terms ≡ false) × (terms.trigger ≤ before) × AreSchedulable until (before + 1) rest
