use Rattle.std.proofs.Common.{◌≡◌, ℕ, List, [], IfOk, codes, refl, subst}
use Rattle.json.specs.Json.{Json, object}
use Rattle.status_export.specs.Document.{compact_text, members_of}
use Rattle.log_summary.proofs.CountSteps.{same_member}
use Rattle.log_summary.proofs.json_lines.counts_json.Goals as goal

pub returns : goal.returns
returns c =
    subst (λ (members : List (List ℕ × Json)). IfOk c.json_line.result (λ line. line.items ≡ compact_text (object (members_of members))))
    (same_member (codes "records") _ _ _ _ c.shown.ensures
    (same_member (codes "Accepted") _ _ _ _ c.counted.ensures
    (same_member (codes "NoSuchHost") _ _ _ _ c.counted-2.ensures
    (same_member (codes "NoSuchService") _ _ _ _ c.counted-3.ensures
    (same_member (codes "PassiveDisabled") _ _ _ _ c.counted-4.ensures
    (same_member (codes "NoServices") _ _ _ _ c.counted-5.ensures
    (same_member (codes "NoSuchComment") _ _ _ _ c.counted-6.ensures
    (same_member (codes "NoSuchDowntime") _ _ _ _ c.counted-7.ensures
    (same_member (codes "WrongKind") _ _ _ _ c.counted-8.ensures
    (same_member (codes "NoProblem") _ _ _ _ c.counted-9.ensures
    (same_member (codes "NotAcknowledged") _ _ _ _ c.counted-10.ensures
    (same_member (codes "BadWindow") _ _ _ _ c.counted-11.ensures
    (same_member (codes "WindowPast") _ _ _ _ c.counted-12.ensures
    (same_member (codes "NoSuchTrigger") _ _ [] [] c.counted-13.ensures refl))))))))))))))
    c.json_line.ensures
