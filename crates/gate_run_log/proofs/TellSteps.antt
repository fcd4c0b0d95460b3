-- One more line is told.
use Rattle.std.proofs.Common.{◌≡◌, ℕ, ◌+◌, ◌<◌, List, ◌∷◌, ◌++◌, length, get_or, drop, sym, ap, ◌∙◌, append_assoc, arith}
use Rattle.std.specs.List.{zip}
use Rattle.std.proofs.lemmas.List.{at_drop_more}
use Rattle.gate_model.specs.declared.record.Outcome.{Outcome}
use Rattle.gate_model.specs.declared.record.Record.{Record}
use Rattle.gate_lines.specs.LogPage.{log_line}
use Rattle.gate_run_log.specs.RunLog.{mark_after, lines_after, lines_left}

pub told-more : (kept told : ℕ) (records : List Record) (outcomes : List Outcome) (applied : Record) (outcome : Outcome) (out new whole : List ℕ)
    → length records ≡ length outcomes → told < length records → applied ≡ get_or records told applied
    → new ≡ out ++ (log_line (applied, get_or outcomes told outcome) ++ mark_after kept (told + 1))
    → out ++ lines_left kept told records outcomes ≡ whole
    → new ++ lines_left kept (told + 1) records outcomes ≡ whole
told-more kept told records outcomes applied outcome out new whole long less is added same =
    let here = get_or outcomes told outcome in
    let mark = mark_after kept (told + 1) in
    let rest = lines_left kept (told + 1) records outcomes in
    ap (λ front. front ++ rest) added
    ∙ append_assoc out (log_line (applied, here) ++ mark) rest
    ∙ ap (λ next. out ++ ((log_line (next, here) ++ mark) ++ rest)) is
    ∙ ap (λ back. out ++ back) (sym (at_drop_more (λ (l : List Outcome). lines_after kept told (zip (get_or records told applied ∷ drop (told + 1) records) l)) outcomes told outcome (omega arith)))
    ∙ ap (λ back. out ++ back) (sym (at_drop_more (λ (l : List Record). lines_after kept told (zip l (drop told outcomes))) records told applied less))
    ∙ same
