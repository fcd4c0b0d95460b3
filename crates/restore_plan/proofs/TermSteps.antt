-- The terms on which an entry is sent: their window isn't over, and their trigger was sent before.
use Rattle.std.proofs.Common.{◌≡◌, ℕ, ◌+◌, ◌≤◌, Bool, true, false, cond, List, length, refl, sym, ap, ◌∙◌, subst, arith}
use Rattle.std.specs.Prelude.{not, ◌||◌, ◌==◌, nat_lt, Option, Some, None, option_map, Result, Ok, Err, if◌then◌else◌}
use Rattle.std.specs.Option.{option_and_then}
use Rattle.std.proofs.lemmas.Option.{cond_some}
use Rattle.gate_model.specs.declared.record.Moment.{Moment}
use Rattle.gate_model.specs.declared.downtime.Plan.{Plan}
use Rattle.gate_model.specs.Downtime.{is_begun_by}
use Rattle.gate_model.proofs.Lists.{position_from-within}
use Rattle.restore_plan.specs.declared.entries.Terms.{Terms}
use Rattle.restore_plan.specs.declared.fates.Cause.{Cause}
use Rattle.restore_plan.specs.declared.fates.Cause.TheVariants.{Over}
use Rattle.restore_plan.specs.Entries.{index_of, id_at, new_id, is_plain, since, as_planned, unbegun_terms, terms_of, is_over, terms_until, renewed_terms}

-- ---- triggers

id_at-low : (index id : ℕ) → id_at index ≡ Some id → id ≤ index + 1
id_at-low index id is =
    let at = cond_some (nat_lt index 4294967295) (index + 1) id is in
    let same : index + 1 ≡ id = at.1 in
    omega arith

new_id-low : (sent : List ℕ) (old : ℕ) (index : Option ℕ) (id : ℕ) → index_of old sent ≡ index
    → option_and_then id_at index ≡ Some id → id ≤ length sent
new_id-low sent old None id found is = absurd cc
new_id-low sent old (Some index) id found is =
    let within = position_from-within (λ (one : ℕ). one == old) 0 sent index found in
    let low = id_at-low index id is in
    omega (arith, within.1)

-- the trigger is 0, or an id on the fresh gateway
trigger_of-plan : (sent : List ℕ) (plan : Plan) (trigger : Option ℕ) (terms : Terms) → new_id sent plan.trigger ≡ trigger
    → option_map (as_planned plan) trigger ≡ Some terms → terms.trigger ≤ length sent
trigger_of-plan sent plan None terms new is = absurd cc
trigger_of-plan sent plan (Some id) terms new is =
    let low = new_id-low sent plan.trigger (index_of plan.trigger sent) id refl new in
    let same : as_planned plan id ≡ terms = cc in
    let trigger : id ≡ terms.trigger = ap (λ (one : Terms). one.trigger) same in
    omega arith

trigger_of-unbegun : (sent : List ℕ) (plan : Plan) (none : Bool) (terms : Terms)
    → cond none (Some (as_planned plan 0)) (option_map (as_planned plan) (new_id sent plan.trigger)) ≡ Some terms
    → terms.trigger ≤ length sent
trigger_of-unbegun sent plan true terms is =
    let same : as_planned plan 0 ≡ terms = cc in
    let trigger : 0 ≡ terms.trigger = ap (λ (one : Terms). one.trigger) same in
    omega arith
trigger_of-unbegun sent plan false terms is = trigger_of-plan sent plan (new_id sent plan.trigger) terms refl is

trigger_of-begun : (plan : Plan) (begin : Option ℕ) (terms : Terms) → option_map (since plan) begin ≡ Some terms
    → terms.trigger ≡ 0
trigger_of-begun plan None terms is = absurd cc
trigger_of-begun plan (Some begin) terms is =
    let same : since plan begin ≡ terms = cc in
    sym (ap (λ (one : Terms). one.trigger) same)

trigger_of-either : (sent : List ℕ) (plan : Plan) (begin : Option ℕ) (unbegun : Bool) (terms : Terms)
    → cond unbegun (unbegun_terms (new_id sent plan.trigger) plan) (option_map (since plan) begin) ≡ Some terms
    → terms.trigger ≤ length sent
trigger_of-either sent plan begin true terms is = trigger_of-unbegun sent plan (plan.trigger == 0) terms is
trigger_of-either sent plan begin false terms is =
    let none = trigger_of-begun plan begin terms is in
    omega arith

trigger_of : (now : Moment) (sent : List ℕ) (plan : Plan) (begin : Option ℕ) (terms : Terms)
    → terms_of now (new_id sent plan.trigger) plan begin ≡ Some terms → terms.trigger ≤ length sent
trigger_of now sent plan begin terms is =
    trigger_of-either sent plan begin (not (is_begun_by now.0 begin) || is_plain plan) terms is

-- ---- windows

-- what is known of terms on which an entry is sent after these
pub record AreGood (until : Moment) (sent : List ℕ) (known : Bool) (terms : Terms) : Type 0 where
  pub is_known : known ≡ true
  pub over : is_over until terms ≡ false
  pub trigger : terms.trigger ≤ length sent

-- these terms, unless they are over
abbrev unless_over : Bool → Terms → Result Terms Cause
unless_over over one = if over then Err Over else Ok one

timely : (over : Bool) (one terms : Terms) → unless_over over one ≡ Ok terms → (over ≡ false) × (one ≡ terms)
timely true one terms is = absurd cc
timely false one terms is = (refl, cc)

good_until : (now until : Moment) (sent : List ℕ) (plan : Plan) (begin : Option ℕ) (found : Option Terms) (terms : Terms)
    → terms_of now (new_id sent plan.trigger) plan begin ≡ found → terms_until until found ≡ Ok terms
    → AreGood until sent true terms
good_until now until sent plan begin None terms found is = absurd cc
good_until now until sent plan begin (Some one) terms found is =
    let at = timely (is_over until one) one terms is in
    record {
      is_known = refl;
      over = subst (λ (other : Terms). is_over until other ≡ false) at.1 at.0;
      trigger = trigger_of now sent plan begin terms (found ∙ ap Some at.1);
    }

pub renewed : (now until : Moment) (sent : List ℕ) (known : Bool) (plan : Plan) (begin : Option ℕ) (terms : Terms)
    → renewed_terms now until sent known plan begin ≡ Ok terms → AreGood until sent known terms
renewed now until sent false plan begin terms is = absurd cc
renewed now until sent true plan begin terms is =
    good_until now until sent plan begin (terms_of now (new_id sent plan.trigger) plan begin) terms refl is
