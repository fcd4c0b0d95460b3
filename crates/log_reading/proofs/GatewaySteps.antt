-- The log page of a gateway is read as its records.
use Rattle.std.proofs.Common.{◌≡◌, ℕ, ◌+◌, ◌^◌, Bool, true, false, inl, inr, List, [], ◌∷◌, ◌++◌, map, length, Option, Some, None, Ok, ℤ, refl, sym, ap, subst, ◌∙◌, arith}
use Rattle.std.specs.Prelude.{reverse, is_some, codes, if◌then◌else◌}
use Rattle.std.specs.List.{flat_map, zip, position_from, AllByRecursion}
use Rattle.std.specs.Str.{bytes_eq}
use Rattle.std.specs.Fmt.{decimal}
use Rattle.std.proofs.lemmas.Bool.{cases_Bool, cond-false, and_parts, true≢false}
use Rattle.std.proofs.lemmas.Fmt.{decimal_nonempty, decimal_digit}
use Rattle.std.proofs.lemmas.List.{reverse-append, reverse-reverse, map-append, length-map, length-reverse, length-append}
use Rattle.std.proofs.lemmas.Slice.Eq.{bytes_eq-Decides}
use Rattle.gate_model.specs.declared.record.Moment.{Moment}
use Rattle.gate_model.specs.declared.record.Record.{Record}
use Rattle.gate_model.specs.declared.record.Outcome.{Outcome}
use Rattle.gate_model.specs.declared.record.Outcome.TheVariants.{Accepted, NoSuchHost, PassiveDisabled}
use Rattle.gate_model.specs.declared.object.ObjectLine.{ObjectLine}
use Rattle.gate_model.specs.declared.submission.Body.{Body}
use Rattle.gate_model.specs.declared.submission.Body.TheVariants as body
use Rattle.gate_model.specs.Status.{is_passive}
use Rattle.gate_model.specs.Submission.{is_result}
use Rattle.gate_model.specs.Table.{is_same_service, is_line_of, place_of, has_object}
use Rattle.gate_model.specs.Act.{act_of}
use Rattle.gate_model.specs.Meaning.{Judged, object_events, outcome_at_place, outcome_at, judged, history_of, outcomes_of}
use Rattle.gate_grammar.specs.Canonical.{body_text}
use Rattle.gate_grammar.specs.Commands.{values_of}
use Rattle.gate_grammar.specs.Writability.{IsWritable, AreInRange, AreWritable}
use Rattle.gate_grammar.proofs.Numerals.{number_facts}
use Rattle.gate_grammar.proofs.WriteLaws.{answer_writable}
use Rattle.gate_lines.specs.LogPage.{log_line, log_text}
use Rattle.status_reading.specs.Board.{HoldsNone, MayHoldNone}
use Rattle.status_reading.specs.Gateway.{IsSpelled, IsSubmission}
use Rattle.status_reading.proofs.EachSteps.{each_reverse, each_map}
use Rattle.status_reading.proofs.TableSteps.{IsPlainLine, plain_lines}
use Rattle.log_reading.specs.declared.logged.Logged.{Logged}
use Rattle.log_reading.specs.Log.{logged_line, logged_text, logged_by, logged_of, IsCode, IsWritten, IsReadableBody, IsReadable, AreReadable}
use Rattle.log_reading.specs.Gateway.{IsLoggedRecord, IsLogged}

-- ---- the names of an object of the table

-- the names hold no semicolon
record ArePlain (of_host : List ℕ) (of_service : Option (List ℕ)) : Type 0 where
  host : HoldsNone of_host
  service : MayHoldNone of_service

same_service : (one other : Option (List ℕ)) → is_same_service one other ≡ true → one ≡ other
same_service None None is = refl
same_service None (Some name) is = cc
same_service (Some name) None is = cc
same_service (Some name) (Some other) is = ap Some ((bytes_eq-Decides name other).0 is)

line_plain : (host : List ℕ) (service : Option (List ℕ)) (line : ObjectLine) → IsPlainLine line → is_line_of host service line ≡ true → ArePlain host service
line_plain host service line plain is =
    let both = and_parts (bytes_eq line.host host) (is_same_service line.service service) is in
    record {
      host = subst HoldsNone ((bytes_eq-Decides line.host host).0 both.0) plain.host;
      service = subst MayHoldNone (same_service line.service service both.1) plain.service;
    }

found_plain : (host : List ℕ) (service : Option (List ℕ)) (place : ℕ) (table : List ObjectLine) → AllByRecursion IsPlainLine table
    → is_some (position_from (is_line_of host service) place table) ≡ true → ArePlain host service
found_plain host service place [] all found = absurd (true≢false (sym found))
found_plain host service place (line ∷ table) all found =
    elim (cases_Bool (is_line_of host service line)) [
      | inl is ↦ line_plain host service line all.0 is
      | inr isnt ↦ found_plain host service (place + 1) table all.1 (ap is_some (sym (cond-false _ _ _ isnt)) ∙ found)
    ]

placed : (judge : ℕ → Outcome) (found : Option ℕ) → outcome_at_place judge found ≡ Accepted → is_some found ≡ true
placed judge None is = cc
placed judge (Some place) is = refl

accepted_placed : (has : Bool) (judge : ℕ → Outcome) (found : Option ℕ) → (if has then outcome_at_place judge found else NoSuchHost) ≡ Accepted
    → is_some found ≡ true
accepted_placed true judge found is = placed judge found is
accepted_placed false judge found is = cc

-- ---- bodies

spelled_written : (one : Body) → AreInRange one → IsSpelled one → IsWritten one
spelled_written one range is =
    let command = is.command in
    let writable : IsWritable command = answer_writable (Ok command) is.line is.spelled in
    let entered = number_facts (2 ^ 32) is.spelled.time command.entered.0 is.spelled.moment in
    let some = decimal_nonempty command.entered.0 (omega (arith, entered.small)) in
    let zero : length (decimal 0) ≡ 1 = ap length (decimal_digit 0 (omega arith)) in
    record {
      range = range;
      writable = record {
        short =
            omega (
              arith,
              writable.short,
              some,
              zero,
              ap (λ (made : Body). length (body_text made)) is.body_is,
              length-append (decimal command.entered.0) (93 ∷ 32 ∷ body_text command.body),
              length-append (decimal 0) (93 ∷ 32 ∷ body_text one),
            );
        arguments = subst (λ (made : Body). AreWritable (values_of made)) (sym is.body_is) writable.arguments;
      };
    }

code_of_host : (host output : List ℕ) (code : ℤ) → AreInRange (body.Result host None code output) → IsCode code
code_of_host host output code range = range.1.0

code_of_service : (host service output : List ℕ) (code : ℤ) → AreInRange (body.Result host (Some service) code output) → IsCode code
code_of_service host service output code range = range.1.1.0

code_in_range : (host : List ℕ) (service : Option (List ℕ)) (code : ℤ) (output : List ℕ) → AreInRange (body.Result host service code output) → IsCode code
code_in_range host None code output range = code_of_host host output code range
code_in_range host (Some service) code output range = code_of_service host service output code range

not_result : (one : Body) → is_result one ≡ false → IsSubmission one → IsSpelled one
not_result one other (inl is) = absurd (true≢false (sym is ∙ other))
not_result one other (inr spelled) = spelled

plain_command : (one : Body) → is_result one ≡ false → AreInRange one → IsSubmission one → IsReadableBody one
plain_command one other range is = inr (record { other = other; written = spelled_written one range (not_result one other is) })

-- a body that is accepted is known from its text
readable_body : (table : List ObjectLine) (before : List Judged) (moment : Moment) (one : Body) → AllByRecursion IsPlainLine table
    → IsSubmission one → AreInRange one → outcome_at table before moment (act_of one) ≡ Accepted → IsReadableBody one
readable_body table before moment (body.Result host service code output) all is range accepted =
    let plain =
    found_plain host service 0 table all
    (accepted_placed (has_object table host None) (λ place. if is_passive place (object_events table before) then Accepted else PassiveDisabled)
    (place_of table host service) accepted)
    in
    inl (record {
      host = host;
      service = service;
      code = code;
      output = output;
      whole = refl;
      host_plain = plain.host;
      service_plain = plain.service;
      code_small = code_in_range host service code output range;
    })
readable_body table before moment one all is range accepted = plain_command one refl range is

-- ---- records and their outcomes

logged_readable : (applied : Record) (outcome : Outcome) → IsLoggedRecord applied → (outcome ≡ Accepted → IsReadableBody applied.item.body)
    → IsReadable (logged_by applied outcome)
logged_readable applied Accepted is readable = record { stamped = is.stamped; body = readable refl }
logged_readable applied _ is readable = record { stamped = is.stamped; refused = refl }

line_again : (applied : Record) (outcome : Outcome) → logged_line (logged_by applied outcome) ≡ log_line (applied, outcome)
line_again applied Accepted = refl
line_again applied _ = refl

abbrev pair_of : Judged → Record × Outcome
pair_of judgement = (judgement.applied, judgement.outcome)

judged_readable : (table : List ObjectLine) (records : List Record) → AllByRecursion IsPlainLine table → AllByRecursion IsLoggedRecord records
    → AllByRecursion (λ (judgement : Judged). IsReadable (logged_of (pair_of judgement))) (judged table records)
judged_readable table [] all each = tt
judged_readable table (applied ∷ records) all each = (
  logged_readable applied (outcome_at table (judged table records) applied.moment (act_of applied.item.body)) each.0
      (readable_body table (judged table records) applied.moment applied.item.body all each.0.submission each.0.range),
  judged_readable table records all each.1,
)

applied_again : (table : List ObjectLine) (records : List Record) → map (λ (judgement : Judged). judgement.applied) (judged table records) ≡ records
applied_again table [] = refl
applied_again table (applied ∷ records) = ap (λ rest. applied ∷ rest) (applied_again table records)

reversed_map : {A B : Type 0} (made : A → B) (list : List A) → reverse (map made list) ≡ map made (reverse list)
reversed_map made [] = refl
reversed_map made (one ∷ list) =
    reverse-append (made one ∷ []) (map made list)
    ∙ ap (λ front. front ++ made one ∷ []) (reversed_map made list)
    ∙ sym (map-append made (reverse list) (one ∷ []))
    ∙ ap (map made) (sym (reverse-append (one ∷ []) list))

zipped : (list : List Judged) → zip (map (λ (judgement : Judged). judgement.applied) list) (map (λ (judgement : Judged). judgement.outcome) list) ≡ map pair_of list
zipped [] = refl
zipped (one ∷ list) = ap (λ rest. pair_of one ∷ rest) (zipped list)

-- the records of a gateway with their outcomes are its judgements, in their order
pairs_are : (table : List ObjectLine) (records : List Record) → zip records (outcomes_of table records) ≡ map pair_of (reverse (history_of table records))
pairs_are table records =
    let history = history_of table records in
    let same : records ≡ map (λ (judgement : Judged). judgement.applied) (reverse history) =
    sym (reverse-reverse records) ∙ ap reverse (sym (applied_again table (reverse records))) ∙ reversed_map (λ (judgement : Judged). judgement.applied) history
    in
    ap (λ list. zip list (outcomes_of table records)) same
    ∙ ap (zip (map (λ (judgement : Judged). judgement.applied) (reverse history))) (reversed_map (λ (judgement : Judged). judgement.outcome) history)
    ∙ zipped (reverse history)

lines_again : (list : List Judged) → flat_map logged_line (map logged_of (map pair_of list)) ≡ flat_map log_line (map pair_of list)
lines_again [] = refl
lines_again (one ∷ list) =
    ap (λ line. line ++ flat_map logged_line (map logged_of (map pair_of list))) (line_again one.applied one.outcome)
    ∙ ap (λ rest. log_line (pair_of one) ++ rest) (lines_again list)

length_judged : (table : List ObjectLine) (records : List Record) → length (judged table records) ≡ length records
length_judged table [] = omega arith
length_judged table (applied ∷ records) = omega (arith, length_judged table records)

length_history : (table : List ObjectLine) (records : List Record) → length (reverse (history_of table records)) ≡ length records
length_history table records =
    omega (arith, length-reverse (history_of table records), length_judged table (reverse records), length-reverse records)

-- ---- the page

-- what the page has of a gateway's records
abbrev log_of : List ObjectLine → List Record → List Logged
log_of table records = map logged_of (zip records (outcomes_of table records))

log_is : (table : List ObjectLine) (records : List Record) → log_of table records ≡ map logged_of (map pair_of (reverse (history_of table records)))
log_is table records = ap (map logged_of) (pairs_are table records)

length_log : (table : List ObjectLine) (records : List Record) → length (log_of table records) ≡ length records
length_log table records =
    let list = reverse (history_of table records) in
    ap length (log_is table records)
    ∙ length-map (map pair_of list) logged_of ∙ length-map list pair_of ∙ length_history table records

text_again : (table : List ObjectLine) (records : List Record) → log_text records (outcomes_of table records) ≡ logged_text (log_of table records)
text_again table records =
    let list = reverse (history_of table records) in
    let pairs = zip records (outcomes_of table records) in
    let lines : flat_map log_line pairs ≡ flat_map logged_line (log_of table records) =
    ap (flat_map log_line) (pairs_are table records) ∙ sym (lines_again list) ∙ ap (flat_map logged_line) (sym (log_is table records))
    in
    ap (λ back. codes "log " ++ decimal (length records) ++ codes "\n" ++ back) lines
    ∙ ap (λ number. codes "log " ++ decimal number ++ codes "\n" ++ flat_map logged_line (log_of table records)) (sym (length_log table records))

log_readable : (table : List ObjectLine) (records : List Record) → IsLogged table records → AreReadable (log_of table records)
log_readable table records is =
    let readable : Judged → Type 0 = λ judgement. IsReadable (logged_of (pair_of judgement)) in
    let list = history_of table records in
    let each = each_reverse readable list (judged_readable table (reverse records) (plain_lines table is.faultless) (each_reverse IsLoggedRecord records is.each)) in
    record {
      few = omega (arith, length_log table records, is.few);
      each =
          subst (AllByRecursion IsReadable) (sym (log_is table records))
          (each_map (λ (pair : Record × Outcome). IsReadable (logged_of pair)) IsReadable logged_of (λ pair holds. holds) (map pair_of (reverse list))
          (each_map readable (λ (pair : Record × Outcome). IsReadable (logged_of pair)) pair_of (λ judgement holds. holds) (reverse list) each));
    }

-- what reading ensures of readable records, it ensures of a gateway's
pub reads_gateway : (text : List ℕ) (P : List Logged → Type 0)
    → ((log : List Logged) → AreReadable log → text ≡ logged_text log → P log)
    → (table : List ObjectLine) (records : List Record) → IsLogged table records → text ≡ log_text records (outcomes_of table records)
    → P (map logged_of (zip records (outcomes_of table records)))
reads_gateway text P read table records is same = read (log_of table records) (log_readable table records is) (same ∙ text_again table records)
