-- A gateway applies records of one moment as they are.
use Rattle.std.proofs.Common.{◌≡◌, ℕ, suc, ◌+◌, List, [], ◌∷◌, length, refl, ap, ◌∙◌, arith}
use Rattle.std.specs.Prelude.{max}
use Rattle.gate_model.specs.declared.record.Moment.{Moment}
use Rattle.gate_model.specs.declared.record.Record.{Record}
use Rattle.gate_model.specs.declared.submission.Body.{Body}
use Rattle.gate_model.specs.Record.{later}
use Rattle.gate_foresight.specs.Foresight.{applied_from, moment_after}
use Rattle.restore_plan.specs.Rehearsal.{records_from}

-- no moment is later than itself
later_same : (now : Moment) → later now now ≡ now
later_same now =
    let same : max now.0 now.0 ≡ now.0 = omega arith in
    let at : ℕ → Moment = λ seconds. record { 0 = seconds } in
    ap at same

applied_same : (now : Moment) (number : ℕ) (bodies : List Body)
    → applied_from now (records_from now number bodies) ≡ records_from now number bodies
applied_same now number [] = refl
applied_same now number (body ∷ bodies) =
    let one : Record = record { moment = now; item = record { client = 1; number = number; body = body } } in
    ap
    (λ reached. record one { moment = reached } ∷ applied_from reached (records_from now (number + 1) bodies))
    (later_same now)
    ∙ ap (λ rest. one ∷ rest) (applied_same now (number + 1) bodies)

moment_same : (now : Moment) (number : ℕ) (bodies : List Body) → moment_after now (records_from now number bodies) ≡ now
moment_same now number [] = refl
moment_same now number (body ∷ bodies) =
    ap (λ reached. moment_after reached (records_from now (number + 1) bodies)) (later_same now)
    ∙ moment_same now (number + 1) bodies

pub applied_records : (now : Moment) (bodies : List Body) (records applied : List Record) → records ≡ records_from now 1 bodies
    → applied ≡ applied_from now records → applied ≡ records_from now 1 bodies
applied_records now bodies records applied from is = is ∙ ap (applied_from now) from ∙ applied_same now 1 bodies

pub applied_moment : (now : Moment) (bodies : List Body) (records : List Record) (moment : Moment)
    → records ≡ records_from now 1 bodies → moment ≡ later (moment_after now records) now → moment ≡ now
applied_moment now bodies records moment from is =
    is ∙ ap (λ list. later (moment_after now list) now) from ∙ ap (λ last. later last now) (moment_same now 1 bodies)
    ∙ later_same now

-- each command has a record
records_length : (now : Moment) (number : ℕ) (bodies : List Body) → length (records_from now number bodies) ≡ length bodies
records_length now number [] = refl
records_length now number (body ∷ bodies) = ap suc (records_length now (number + 1) bodies)

pub same_length : (now : Moment) (bodies : List Body) (records : List Record) → records ≡ records_from now 1 bodies
    → length records ≡ length bodies
same_length now bodies records is = ap length is ∙ records_length now 1 bodies
