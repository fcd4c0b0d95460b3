-- What one more record changes in the meaning of a list of records.
use Rattle.std.proofs.Common.{◌≡◌, suc, List, [], ◌∷◌, ◌++◌, length, map, reverse, refl, ap, ◌∙◌}
use Rattle.std.proofs.lemmas.List.{reverse-append, length-reverse, length-map}
use Rattle.gate_model.specs.declared.object.ObjectLine.{ObjectLine}
use Rattle.gate_model.specs.declared.record.Record.{Record}
use Rattle.gate_model.specs.Meaning.{Judged, judged, judgement_of, history_of, outcomes_of, outcome_after}

pub length-judged : (table : List ObjectLine) (records : List Record) → length (judged table records) ≡ length records
length-judged table [] = refl
length-judged table (applied ∷ before) = ap suc (length-judged table before)

-- each record is judged
pub length-history_of : (table : List ObjectLine) (records : List Record) → length (history_of table records) ≡ length records
length-history_of table records = length-judged table (reverse records) ∙ length-reverse records

-- one more record is judged after those before it, and changes no judgement of theirs
pub history_of-append : (table : List ObjectLine) (records : List Record) (applied : Record)
    → history_of table (records ++ applied ∷ []) ≡ judgement_of table (history_of table records) applied ∷ history_of table records
history_of-append table records applied = ap (judged table) (reverse-append records (applied ∷ []))

-- one more record adds its outcome at the end
pub outcomes_of-append : (table : List ObjectLine) (records : List Record) (applied : Record)
    → outcomes_of table (records ++ applied ∷ []) ≡ outcomes_of table records ++ outcome_after table records applied.moment applied.item.body ∷ []
outcomes_of-append table records applied =
    ap (λ judgements. reverse (map (λ (judgement : Judged). judgement.outcome) judgements)) (history_of-append table records applied)
    ∙ reverse-append (outcome_after table records applied.moment applied.item.body ∷ []) (map (λ (judgement : Judged). judgement.outcome) (history_of table records))

-- each record has an outcome
pub length-outcomes_of : (table : List ObjectLine) (records : List Record) → length (outcomes_of table records) ≡ length records
length-outcomes_of table records =
    length-reverse (map (λ (judgement : Judged). judgement.outcome) (history_of table records))
    ∙ length-map (history_of table records) (λ (judgement : Judged). judgement.outcome)
    ∙ length-history_of table records
