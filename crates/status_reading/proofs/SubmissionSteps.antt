-- What a page needs of a submission: its author holds no semicolon, and the numbers of its downtime have 32 bits.
use Rattle.std.proofs.Common.{◌≡◌, ℕ, ◌^◌, false, inl, inr, List, [], ◌∷◌, ◌++◌, Some, None, Ok, refl, sym, subst, ◌∙◌}
use Rattle.std.specs.List.{AllByRecursion}
use Rattle.std.proofs.lemmas.Bool.{true≢false}
use Rattle.gate_model.specs.declared.record.Moment.{Moment}
use Rattle.gate_model.specs.declared.downtime.Plan.{Plan}
use Rattle.gate_model.specs.declared.act.Deed.{Deed}
use Rattle.gate_model.specs.declared.act.Deed.TheVariants as deeds
use Rattle.gate_model.specs.declared.act.Act.{Act}
use Rattle.gate_model.specs.declared.act.Act.TheVariants as acts
use Rattle.gate_model.specs.declared.submission.Body.{Body}
use Rattle.gate_model.specs.declared.submission.Body.TheVariants as bodies
use Rattle.gate_model.specs.Submission.{is_result}
use Rattle.gate_model.specs.Act.{span_of, act_of}
use Rattle.gate_model.specs.Meaning.{plan_of}
use Rattle.gate_grammar.specs.Arguments.{ArgumentValue, Name, Number, Text}
use Rattle.gate_grammar.specs.Commands.{values_of}
use Rattle.gate_grammar.specs.Spelling.{SpellsValue, SpellEach}
use Rattle.gate_grammar.specs.Writability.{AreWritable}
use Rattle.gate_grammar.proofs.Numerals.{number_facts}
use Rattle.gate_grammar.proofs.WriteLaws.{answer_writable}
use Rattle.gate_pages.specs.Rows.{author_in}
use Rattle.status_reading.specs.Readable.{Fits}
use Rattle.status_reading.specs.Board.{HoldsNone}
use Rattle.status_reading.specs.Gateway.{IsSpelled, IsSubmission}

-- the numbers of a plan that a page shows have 32 bits
pub record IsPlainPlan (plan : Plan) : Type 0 where
  pub trigger : Fits plan.trigger
  pub start : Fits plan.starts.0
  pub end : Fits plan.ends.0
  pub duration : Fits plan.lasts

-- the numbers of the downtime that it asks for have 32 bits
abbrev pub IsPlainDeed : Deed → Type 0
IsPlainDeed (deeds.Schedule span) = (log_index : ℕ) → IsPlainPlan (plan_of span log_index)
IsPlainDeed _ = Unit {0}

abbrev pub IsPlainAct : Act → Type 0
IsPlainAct (acts.On host service deed) = IsPlainDeed deed
IsPlainAct (acts.ScheduleServices host span) = (log_index : ℕ) → IsPlainPlan (plan_of span log_index)
IsPlainAct _ = Unit {0}

pub record IsPlainBody (body : Body) : Type 0 where
  pub author : HoldsNone (author_in body)
  pub plan : IsPlainAct (act_of body)

-- ---- numbers

-- a number has 32 bits
abbrev FitsIfNumber : ArgumentValue → Type 0
FitsIfNumber (Number number) = Fits number
FitsIfNumber _ = Unit {0}

value_fits : (text : List ℕ) (value : ArgumentValue) → SpellsValue text value → FitsIfNumber value
value_fits text (Number number) is = (number_facts (2 ^ 32) text number is).small
value_fits text _ is = tt

values_fit : (texts : List (List ℕ)) (values : List ArgumentValue) → SpellEach texts values
    → AllByRecursion FitsIfNumber values
values_fit [] [] each = tt
values_fit [] (value ∷ values) each = absurd each
values_fit (text ∷ texts) [] each = absurd each
values_fit (text ∷ texts) (value ∷ values) each = (value_fits text value each.0, values_fit texts values each.1)

-- ---- authors

-- a text before the last one holds no semicolon
author_among : (front : List ArgumentValue) (author text : List ℕ) → AreWritable (front ++ Text author ∷ Text text ∷ [])
    → HoldsNone author
author_among [] author text writable = writable.1
author_among (value ∷ []) author text writable = author_among [] author text writable.2
author_among (value ∷ next ∷ front) author text writable = author_among (next ∷ front) author text writable.2

-- ---- bodies

-- a body that a line spells can be written again, and its numbers have 32 bits
record HasPlainValues (body : Body) : Type 0 where
  writable : AreWritable (values_of body)
  fit : AllByRecursion FitsIfNumber (values_of body)

spelled_values : (body : Body) → IsSpelled body → HasPlainValues body
spelled_values body is =
    let command = is.command in
    subst HasPlainValues (sym is.body_is) (record {
      writable = (answer_writable (Ok command) is.line is.spelled).arguments;
      fit = values_fit is.spelled.arguments (values_of command.body) is.spelled.each;
    })

-- so is a body that is no check result
plain_values : (body : Body) → is_result body ≡ false → IsSubmission body → HasPlainValues body
plain_values body other (inl is) = absurd (true≢false (sym is ∙ other))
plain_values body other (inr spelled) = spelled_values body spelled

-- the values of a downtime before its author
abbrev plan_values : Moment → Moment → ℕ → ℕ → ℕ → List ArgumentValue
plan_values starts ends fixed trigger lasts =
    Number starts.0 ∷ Number ends.0 ∷ Number fixed ∷ Number trigger ∷ Number lasts ∷ []

plain_plan : (starts ends : Moment) (fixed trigger lasts : ℕ) (rest : List ArgumentValue)
    → AllByRecursion FitsIfNumber (plan_values starts ends fixed trigger lasts ++ rest) → (log_index : ℕ)
    → IsPlainPlan (plan_of (span_of starts ends fixed trigger lasts) log_index)
plain_plan starts ends fixed trigger lasts rest fit log_index =
    record { trigger = fit.1.1.1.0; start = fit.0; end = fit.1.0; duration = fit.1.1.1.1.0 }

pub plain_body : (body : Body) → IsSubmission body → IsPlainBody body
plain_body (bodies.AddComment host None persistent author text) is =
    let values = plain_values (bodies.AddComment host None persistent author text) refl is in
    record { author = author_among (Name host ∷ Number persistent ∷ []) author text values.writable; plan = tt }
plain_body (bodies.AddComment host (Some service) persistent author text) is =
    let values = plain_values (bodies.AddComment host (Some service) persistent author text) refl is in
    let front = Name host ∷ Name service ∷ Number persistent ∷ [] in
    record { author = author_among front author text values.writable; plan = tt }
plain_body (bodies.Acknowledge host None sticky notify persistent author text) is =
    let values = plain_values (bodies.Acknowledge host None sticky notify persistent author text) refl is in
    let front = Name host ∷ Number sticky ∷ Number notify ∷ Number persistent ∷ [] in
    record { author = author_among front author text values.writable; plan = tt }
plain_body (bodies.Acknowledge host (Some service) sticky notify persistent author text) is =
    let values = plain_values (bodies.Acknowledge host (Some service) sticky notify persistent author text) refl is in
    let front = Name host ∷ Name service ∷ Number sticky ∷ Number notify ∷ Number persistent ∷ [] in
    record { author = author_among front author text values.writable; plan = tt }
plain_body (bodies.Schedule host None starts ends fixed trigger lasts author text) is =
    let values = plain_values (bodies.Schedule host None starts ends fixed trigger lasts author text) refl is in
    let last = Text author ∷ Text text ∷ [] in
    record {
      author = author_among (Name host ∷ plan_values starts ends fixed trigger lasts) author text values.writable;
      plan = plain_plan starts ends fixed trigger lasts last values.fit.1;
    }
plain_body (bodies.Schedule host (Some service) starts ends fixed trigger lasts author text) is =
    let body = bodies.Schedule host (Some service) starts ends fixed trigger lasts author text in
    let values = plain_values body refl is in
    let front = Name host ∷ Name service ∷ plan_values starts ends fixed trigger lasts in
    let last = Text author ∷ Text text ∷ [] in
    record {
      author = author_among front author text values.writable;
      plan = plain_plan starts ends fixed trigger lasts last values.fit.1.1;
    }
plain_body (bodies.ScheduleServices host starts ends fixed trigger lasts author text) is =
    let values = plain_values (bodies.ScheduleServices host starts ends fixed trigger lasts author text) refl is in
    let last = Text author ∷ Text text ∷ [] in
    record {
      author = author_among (Name host ∷ plan_values starts ends fixed trigger lasts) author text values.writable;
      plan = plain_plan starts ends fixed trigger lasts last values.fit.1;
    }
plain_body body is = record { author = refl; plan = tt }
